-- Laws of the packet's tests, and of the stores and the copy that write a packet. Assumes nothing.
use Rattle.std.specs.Prelude.{Ok, Err, Some, None, ◌⊎◌}
use Prim.Native.Nat.{ℕ, ◌+◌, ◌-◌, ◌≤◌, ◌<◌}
use mathlib.Core.Path.{◌≡◌, refl, sym, ap, ◌∙◌}
use mathlib.Core.List.{List, [], ◌∷◌, ◌++◌}
use mathlib.Core.Bool.{Bool, true, false, cond, ◌&&◌, ◌||◌}
use mathlib.Core.Logic.{inl, inr}
use native.Mathlib.Omega.{arith}
use lib.ListN.{length, take, drop}
use lib.Seq.{drop-drop, sets, sets-eq}
use lib.Dec.{leb, eqb}
use Rattle.std.specs.List.{starts_with}
use Rattle.std.specs.Option.{option_eq}
use Rattle.std.proofs.Math.Bool.{and_assoc, and-true}
use Rattle.numbers.proofs.Alike.{zero_is_one}
use borrow.Author.Tests.{leb-true, le-leb, lt-leb, eq-eqb, ne_eqb, eqb-true}
use borrow.Rule.Slice.PartMut.{put_mid, Post-is}
use Rattle.numbers.proofs.TestLaws.{both}
use Rattle.answers.specs.Answer.{answer, need}
use Rattle.answers.specs.Refusal.{refused}
use Rattle.answers.specs.Written.{writing, Writes}
use Rattle.answers.proofs.WriterPromise.{writes_no_room, writes_done}
use Rattle.answers.specs.declared.Refusal.TheVariants.{NoRoom, WrongMark, WrongVersion, WrongPortOrCount, BytesMissing}
use Rattle.answers.specs.Written.{Written}
use Rattle.uplink.specs.Packet.{mark, version_of, version_for, known, counted, lead_length, piece_max, lead, packet, marked, version_in, port_in, count_in, carried, packet_at, takes, written, IsRead, IsWritten}

-- ---- tests

pub counted_within : (count : ℕ) → counted count ≡ true → (1 ≤ count) × (count ≤ piece_max)
unfolding counted
counted_within count e =
    let two = both (leb 1 count) (leb count piece_max) e in
    (leb-true 1 count two.0, leb-true count piece_max two.1)

-- what the two that test a port and a count say of the count
pub carried_count : (s : List ℕ) → carried s ≡ true → (1 ≤ count_in s) × (count_in s ≤ piece_max)
unfolding carried
carried_count s e = counted_within (count_in s) (both (eqb (version_of (port_in s)) (version_in s)) (counted (count_in s)) e).1

pub takes_count : (port count : ℕ) → takes port count ≡ true → (1 ≤ count) × (count ≤ piece_max)
takes_count port count e = counted_within count (both (known (version_of port)) (counted count) e).1

absurdly : {A : Type 0} → false ≡ true → A
absurdly e = zero_is_one cc

-- ---- the mark

alike : (a b : ℕ) → eqb a b ≡ eqb b a
alike a b = go (eqb a b) refl
  where
    go : (t : Bool) → eqb a b ≡ t → eqb a b ≡ eqb b a
    go true e = e ∙ sym (eq-eqb b a (sym (eqb-true a b e)))
    go false e = e ∙ sym (ne_eqb b a (λ q. absurdly (sym e ∙ eq-eqb a b (sym q))))

-- the mark at the front is its three bytes there
pub marked_front : (s : List ℕ) → lead_length ≤ length s → starts_with eqb s mark ≡ marked s
unfolding marked
marked_front [] h = absurd (omega arith)
marked_front (a ∷ []) h = absurd (omega arith)
marked_front (a ∷ b ∷ []) h = absurd (omega arith)
marked_front (a ∷ b ∷ c ∷ s) h =
    rw (alike a 0x53, alike b 0x42, alike c 0x52, and-true (eqb 0x52 c)) (sym (and_assoc (eqb 0x53 a) (eqb 0x42 b) (eqb 0x52 c)))

-- ---- a port's version

-- one that carries none is known to carry none
none_or_known : (port : ℕ) → (version_of port ≡ 0) ⊎ (known (version_of port) ≡ true)
unfolding version_of known
none_or_known port = go (leb 1 port && leb port 3) (eqb port 4)
  where
    go : (t u : Bool) → (let v : ℕ = cond t 1 (cond u 2 0) in (v ≡ 0) ⊎ ((eqb v (version_of 1) || eqb v (version_of 4)) ≡ true))
    go true u = inr refl
    go false true = inr refl
    go false false = inl refl

zero_not_known : (version : ℕ) → version ≡ 0 → known version ≡ false
unfolding version_of known
zero_not_known version e = rw e refl

pub version_none : (port : ℕ) → version_for port ≡ None → known (version_of port) ≡ false
version_none port = go (eqb (version_of port) 0) refl
  where
    go : (t : Bool) → eqb (version_of port) 0 ≡ t → cond t None (Some (version_of port)) ≡ None → known (version_of port) ≡ false
    go true e f = zero_not_known (version_of port) (eqb-true (version_of port) 0 e)
    go false e f = absurdly cc

pub version_some : (port version : ℕ) → version_for port ≡ Some version → (version ≡ version_of port) × (known (version_of port) ≡ true)
version_some port version = go (eqb (version_of port) 0) refl (none_or_known port)
  where
    go : (t : Bool) → eqb (version_of port) 0 ≡ t → (version_of port ≡ 0) ⊎ (known (version_of port) ≡ true) → cond t None (Some (version_of port)) ≡ Some version
        → (version ≡ version_of port) × (known (version_of port) ≡ true)
    go true e k f = absurdly cc
    go false e (inl z) f = absurdly (sym e ∙ eq-eqb (version_of port) 0 z)
    go false e (inr k) f = (cc, k)

-- a known version is compared with the one that carries a port
pub version_is : (port version : ℕ) → known version ≡ true → option_eq eqb (version_for port) (Some version) ≡ eqb (version_of port) version
version_is port version k = go (eqb (version_of port) 0) refl
  where
    go : (t : Bool) → eqb (version_of port) 0 ≡ t → option_eq eqb (cond t None (Some (version_of port))) (Some version) ≡ eqb (version_of port) version
    go true e =
        let zero = eqb-true (version_of port) 0 e in
        sym (ne_eqb (version_of port) version (λ q. absurdly (sym (zero_not_known version (sym q ∙ zero)) ∙ k)))
    go false e = refl

-- ---- what the reader tells, by the tests that lead to it

-- a lead with the mark and a known version
pub record Head (s : List ℕ) : Type 0 where
  pub long : lead_length ≤ length s
  pub begins : marked s ≡ true
  pub knows : known (version_in s) ≡ true

module _ (s : List ℕ) where
  pub is_short : length s < lead_length → IsRead s (Err BytesMissing)
  unfolding packet_at
  is_short h = simp (lt-leb lead_length (length s) h)

  pub not_marked : lead_length ≤ length s → marked s ≡ false → IsRead s (Err WrongMark)
  unfolding packet_at
  not_marked h m = simp (le-leb lead_length (length s) h, m)

  pub not_known : lead_length ≤ length s → marked s ≡ true → known (version_in s) ≡ false → IsRead s (Err WrongVersion)
  unfolding packet_at
  not_known h m k = simp (le-leb lead_length (length s) h, m, k)

  behind_head : Head s
      → packet_at s
      ≡ need (carried s) (refused 3 WrongPortOrCount)
      (need (leb (lead_length + count_in s) (length s)) (refused 3 BytesMissing) (answer 0 (port_in s ∷ count_in s ∷ (lead_length + count_in s) ∷ [])))
  unfolding packet_at
  behind_head h = simp (le-leb lead_length (length s) h.long, h.begins, h.knows)

  pub not_carried : Head s → carried s ≡ false → IsRead s (Err WrongPortOrCount)
  not_carried h e = sym (behind_head h ∙ simp e)

  pub is_cut : Head s → carried s ≡ true → length s < lead_length + count_in s → IsRead s (Err BytesMissing)
  is_cut h e l = sym (behind_head h ∙ simp (e, lt-leb (lead_length + count_in s) (length s) l))

  pub is_packet : (used : ℕ) → Head s → carried s ≡ true → used ≡ lead_length + count_in s → used ≤ length s
      → IsRead s (Ok (record { port = port_in s; count = count_in s; used = used }))
  is_packet used h e u l = sym (behind_head h ∙ simp (e, le-leb (lead_length + count_in s) (length s) (omega arith), u))

-- ---- what the writer leaves

pub packet_length : (port : ℕ) (piece : List ℕ) → length (packet port piece) ≡ lead_length + length piece
packet_length port piece = omega arith

module _ (port : ℕ) (piece lent : List ℕ) where
  pub not_taken : takes port (length piece) ≡ false → IsWritten port piece lent (Err WrongPortOrCount) lent
  unfolding written
  not_taken t = (simp t, simp t)

  -- one that takes the piece ends as every writer does
  pub by_writer : takes port (length piece) ≡ true → written port piece lent ≡ writing false (packet port piece) lent
  unfolding written
  by_writer t = simp t

  pub writes : (w : Written) (later : List ℕ) → takes port (length piece) ≡ true → Writes false (packet port piece) lent w later
      → IsWritten port piece lent w later
  writes w later t x = rw (by_writer t) x

  pub no_room : takes port (length piece) ≡ true → length lent < lead_length + length piece → IsWritten port piece lent (Err NoRoom) lent
  no_room t h = writes (Err NoRoom) lent t (writes_no_room (packet port piece) lent (omega arith))

  pub is_written : (later : List ℕ) → takes port (length piece) ≡ true → lead_length + length piece ≤ length lent
      → later ≡ packet port piece ++ drop (lead_length + length piece) lent
      → IsWritten port piece lent (Ok (lead_length + length piece)) later
  is_written later t h e =
      let long = packet_length port piece in
      writes (Ok (lead_length + length piece)) later t (rw (e, sym long) (writes_done (packet port piece) lent (omega arith)))

-- src copied to `&mut l[at..at + length src]`
mid_paste : (l m src : List ℕ) (at : ℕ) → m ≡ src → put_mid at (at + length src - at) l m ≡ take at l ++ (src ++ drop (at + length src) l)
mid_paste l m src at e = simp (e, Post-is at (at + length src) l (omega arith))

-- the lead stored at the front, and the piece copied behind it, are the packet
pub packet_put : (version port : ℕ) (piece lent k m : List ℕ) → lead_length + length piece ≤ length lent
    → version ≡ version_of port
    → k ≡ sets lent 0 (lead version port (length piece))
    → m ≡ piece
    → put_mid lead_length (lead_length + length piece - lead_length) k m ≡ packet port piece ++ drop (lead_length + length piece) lent
packet_put version port piece lent k m h v e f =
    let first : List ℕ = lead (version_of port) port (length piece) in
    let stored : k ≡ first ++ drop lead_length lent =
    e ∙ ap (λ (x : ℕ). sets lent 0 (lead x port (length piece))) v ∙ sets-eq first lent 0 (omega arith) in
    mid_paste k m piece lead_length f
    ∙ rw stored
    (ap (λ (r : List ℕ). first ++ (piece ++ r))
    (sym (drop-drop (length piece) lead_length (first ++ drop lead_length lent)) ∙ drop-drop (length piece) lead_length lent))
