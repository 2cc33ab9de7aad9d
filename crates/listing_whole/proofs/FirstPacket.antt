-- What the bytes at the front of an input decide of its first packet, whatever follows them.
-- Assumes nothing.
use Prim.Native.Nat.{ℕ, ◌+◌, ◌*◌, ◌≤◌, ◌<◌}
use mathlib.Core.Path.{◌≡◌, refl, ap, ap₂, ◌∙◌}
use mathlib.Core.Bool.{Bool, true, false}
use mathlib.Core.List.{List, ◌++◌}
use lib.ListN.{length, take, drop, get_or, length-append, length-drop, get_or-append}
use lib.Seq.{take-append-le, drop-append-le}
use lib.Dec.{leb, eqb}
use borrow.Author.Tests.{leb-true, leb-false, le-leb, eqb-true}
use native.Mathlib.Omega.{arith}
use Rattle.numbers.proofs.TestLaws.{both}
use Rattle.answers.specs.Answer.{number}
use Rattle.answers.specs.Refusal.{number as refusalNumber}
use Rattle.answers.specs.declared.Refusal.{Refusal}
use Rattle.answers.specs.declared.Refusal.TheVariants.{WrongMark, WrongVersion, WrongPortOrCount, BytesMissing}
use Rattle.uplink.specs.Packet.{lead_length, piece_max, known, version_of, marked, version_in, port_in, count_in, counted, carried, packet_at}
use Rattle.listing.specs.Steps.{Packet, packet_in}
use Rattle.ports.proofs.EveryRow.{OnSeat, ported}
use Rattle.uplink.proofs.PacketTests.{carried_count}
use Rattle.uplink.proofs.AcceptedIsWritten.{port_within}

-- ---- a lead stays as it is, whatever follows

module _ (s rest : List ℕ) (long : lead_length ≤ length s) where
  at : (i : ℕ) → i < lead_length → get_or (s ++ rest) i 0 ≡ get_or s i 0
  at i h = get_or-append s rest 0 i (omega arith)

  pub same_port : port_in (s ++ rest) ≡ port_in s
  same_port = at 5 (omega arith)

  pub same_count : count_in (s ++ rest) ≡ count_in s
  same_count = at 6 (omega arith)

  same_version : version_in (s ++ rest) ≡ version_in s
  same_version = ap₂ (λ (h l : ℕ). h * 256 + l) (at 3 (omega arith)) (at 4 (omega arith))

  same_mark : marked (s ++ rest) ≡ marked s
  unfolding marked
  same_mark = rw (at 0 (omega arith), at 1 (omega arith), at 2 (omega arith))

  same_carried : carried (s ++ rest) ≡ carried s
  unfolding carried
  same_carried = rw (same_port, same_version, same_count)

-- THE PACKETS AND THE TABLE: a port that a known version carries has a seat
pub carried_seat : (port : ℕ) → known (version_of port) ≡ true → OnSeat port
carried_seat port e = let w = port_within port e in ported port w.0 w.1

-- ---- what the front of an input is: too short to tell, refused whatever follows, or a packet whatever follows

pub data Kind (s : List ℕ) : Type 0 where
  short : number (packet_at s) ≡ refusalNumber BytesMissing → length s < lead_length + piece_max → Kind s
  wrong : (why : Refusal) → eqb (refusalNumber why) 0 ≡ false → eqb (refusalNumber why) (refusalNumber BytesMissing) ≡ false
      → number (packet_at s) ≡ refusalNumber why → ((rest : List ℕ) → number (packet_at (s ++ rest)) ≡ refusalNumber why) → Kind s
  packet : lead_length ≤ length s → OnSeat (port_in s) → 1 ≤ count_in s → count_in s ≤ piece_max → lead_length + count_in s ≤ length s
      → number (packet_at s) ≡ 0 → ((rest : List ℕ) → number (packet_at (s ++ rest)) ≡ 0) → Kind s

module _ (s : List ℕ) where
  long_on : (rest : List ℕ) → lead_length ≤ length s → leb lead_length (length (s ++ rest)) ≡ true
  long_on rest h = le-leb lead_length (length (s ++ rest)) (simp length-append (omega arith))

  on_seat : carried s ≡ true → known (version_in s) ≡ true → OnSeat (port_in s)
  unfolding carried
  on_seat e k = carried_seat (port_in s) (ap known (eqb-true (version_of (port_in s)) (version_in s) (both (eqb (version_of (port_in s)) (version_in s)) (counted (count_in s)) e).0) ∙ k)

  by_tests : (t1 t2 t3 t4 t5 : Bool) → leb lead_length (length s) ≡ t1 → marked s ≡ t2 → known (version_in s) ≡ t3 → carried s ≡ t4 → leb (lead_length + count_in s) (length s) ≡ t5 → Kind s
  unfolding packet_at
  by_tests false t2 t3 t4 t5 e1 e2 e3 e4 e5 = short (simp e1) (omega (arith, leb-false lead_length (length s) e1))
  by_tests true false t3 t4 t5 e1 e2 e3 e4 e5 =
      let h = leb-true lead_length (length s) e1 in
      wrong WrongMark refl refl (simp (e1, e2)) (λ rest. simp (long_on rest h, same_mark s rest h, e2))
  by_tests true true false t4 t5 e1 e2 e3 e4 e5 =
      let h = leb-true lead_length (length s) e1 in
      wrong WrongVersion refl refl (simp (e1, e2, e3)) (λ rest. simp (long_on rest h, same_mark s rest h, e2, same_version s rest h, e3))
  by_tests true true true false t5 e1 e2 e3 e4 e5 =
      let h = leb-true lead_length (length s) e1 in
      wrong WrongPortOrCount refl refl (simp (e1, e2, e3, e4)) (λ rest. simp (long_on rest h, same_mark s rest h, e2, same_version s rest h, e3, same_carried s rest h, e4))
  by_tests true true true true false e1 e2 e3 e4 e5 =
      short (simp (e1, e2, e3, e4, e5)) (omega (arith, leb-false (lead_length + count_in s) (length s) e5, (carried_count s e4).1))
  by_tests true true true true true e1 e2 e3 e4 e5 =
      let h = leb-true lead_length (length s) e1 in
      let l = leb-true (lead_length + count_in s) (length s) e5 in
      packet h (on_seat e4 e3) (carried_count s e4).0 (carried_count s e4).1 l (simp (e1, e2, e3, e4, e5))
      (λ rest.
      let l' : leb (lead_length + count_in s) (length (s ++ rest)) ≡ true = le-leb (lead_length + count_in s) (length (s ++ rest)) (simp length-append (omega arith)) in
      simp (long_on rest h, same_mark s rest h, e2, same_version s rest h, e3, same_carried s rest h, e4, same_count s rest h, l'))

  pub kind : Kind s
  kind = by_tests (leb lead_length (length s)) (marked s) (known (version_in s)) (carried s) (leb (lead_length + count_in s) (length s)) refl refl refl refl refl

-- the packet that stands there is the same, whatever follows
pub same_packet : (s rest : List ℕ) → lead_length ≤ length s → lead_length + count_in s ≤ length s → packet_in (s ++ rest) ≡ packet_in s
same_packet s rest h t =
    let behind : drop lead_length (s ++ rest) ≡ drop lead_length s ++ rest = drop-append-le lead_length s rest h in
    let seat : take (count_in s) (drop lead_length s ++ rest) ≡ take (count_in s) (drop lead_length s) = take-append-le (count_in s) (drop lead_length s) rest (simp length-drop (omega arith)) in
    ap₂ {C = Packet} (λ (port : ℕ) (l : List ℕ). record { port = port; piece = l }) (same_port s rest h)
    (ap (λ (n : ℕ). take n (drop lead_length (s ++ rest))) (same_count s rest h) ∙ ap (take (count_in s)) behind ∙ seat)
