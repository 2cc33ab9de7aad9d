-- The rule reads what is written: no character of a frame that the writer takes is EOT, and its tests hold.
-- Assumes nothing.
use Prim.Native.Nat.{ℕ, ◌+◌, ◌-◌, ◌/◌, ◌%◌, ◌<◌}
use mathlib.Core.Path.{◌≡◌, refl, ap, ap₂, ◌∙◌}
use mathlib.Core.Bool.{true}
use mathlib.Core.Option.{Option, some}
use mathlib.Core.List.{List, [], ◌∷◌, ◌++◌}
use lib.ListN.{length, take, get_or, length-append}
use lib.Seq.{take-append_seam, get_or_at, get_or-append-add}
use lib.Dec.{T}
use lib.Pow.{are_bytes}
use borrow.Author.Tests.{le-leb, eq-eqb}
use native.Mathlib.Nat.{mod-lt}
use native.Mathlib.Omega.{arith}
use Rattle.numbers.proofs.TestLaws.{both}
use Rattle.numbers.specs.Lists.{total}
use Rattle.stream.specs.Event.{Event, message}
use Rattle.stream.specs.Rule.{Settled}
use Rattle.stream.proofs.BytesOfParts.{bytes_cons, bytes_append}
use Rattle.drives.specs.Wire.{Message, Takes, eot, is_hex, all_hex, is_letter, proper, frame_least, frame_most, checksum, hex_digit, sum_of, covered, between, wire, message_of}
use Rattle.drives.specs.Rules.{sized, agrees, judged, frame_length, judge, rule}
use Rattle.drives.specs.Demands.{NoEot}
use Rattle.drives.proofs.CharacterSets.{hex_range, letter_range, opens_range, digit_hex, hex_no_eot, hex_bytes, hex_append}
use Rattle.drives.proofs.FrameLimits.{longest}
use Rattle.drives.proofs.FoundAtEot.{found_at_eot}

-- ---- the sum is in its set

sum_small : (cs : List ℕ) → checksum cs < 256
unfolding checksum
sum_small cs = mod-lt (total cs) (omega arith)

sum_hex : (cs : List ℕ) → all_hex (sum_of cs) ≡ true
sum_hex cs =
    let lt = sum_small cs in
    rw (digit_hex (checksum cs / 16) (omega arith), digit_hex (checksum cs % 16) (omega arith))

-- ---- and so are the other characters, each in its own

record InSets (m : Message) : Type 0 where
  first : is_hex m.station_first ≡ true
  second : is_hex m.station_second ≡ true
  letter : is_letter m.letter ≡ true
  rest : all_hex (m.payload ++ sum_of (covered m)) ≡ true

in_sets_lem : (m : Message) → proper (covered m) ≡ true → InSets m
unfolding proper
in_sets_lem m e =
    let p = both (is_hex m.station_first) _ e in
    let q = both (is_hex m.station_second) _ p.1 in
    let r = both (is_letter m.letter) (all_hex m.payload) q.1 in
    record {
      first = p.0;
      second = q.0;
      letter = r.0;
      rest = hex_append m.payload (sum_of (covered m)) r.1 (sum_hex (covered m));
    }

-- ---- the frame of a message that the writer takes

module _ (m : Message) (t : Takes m) where
  sets : InSets m
  sets = in_sets_lem m t.proper

  pub no_eot : NoEot (between m)
  no_eot = (
    λ e. omega (arith, hex_range m.station_first sets.first),
    (
      λ e. omega (arith, hex_range m.station_second sets.second),
      (λ e. omega (arith, letter_range m.letter sets.letter), hex_no_eot (m.payload ++ sum_of (covered m)) sets.rest),
    ),
  )

  long : length (between m) ≡ 5 + length m.payload
  long = simp length-append (omega arith)

  is_sized : (n : ℕ) → n ≡ frame_least + length m.payload → sized m.opening n ≡ true
  unfolding sized
  is_sized n e = rw (le-leb frame_least n (omega arith), le-leb n (frame_most m.opening) (omega (arith, t.fits)))

  is_proper : proper (between m) ≡ true
  unfolding proper
  is_proper = rw (sets.first, sets.second, sets.letter, sets.rest)

  abbrev high : ℕ
  high = hex_digit (checksum (covered m) / 16)

  abbrev low : ℕ
  low = hex_digit (checksum (covered m) % 16)

  does_agree : agrees (between m) ≡ true
  unfolding agrees
  does_agree =
      let k : length (between m) - 2 ≡ length (covered m) = omega (arith, long) in
      let front : take (length (covered m)) (between m) ≡ covered m = take-append_seam (covered m) (sum_of (covered m)) in
      let first : get_or (between m) (length (covered m)) 0 ≡ high = get_or_at (covered m) high (low ∷ []) 0 (length (covered m)) refl in
      let second : get_or (between m) (length (covered m) + 1) 0 ≡ low = get_or-append-add (covered m) (sum_of (covered m)) 1 0 in
      rw (k, front, first, second, eq-eqb high high refl, eq-eqb low low refl)

  is_message_lem : message_of m.opening (between m) ≡ m
  is_message_lem =
      let k : length (between m) - 5 ≡ length m.payload = omega (arith, long) in
      ap {B = Message} (λ (l : List ℕ). record { opening = m.opening; station_first = m.station_first; station_second = m.station_second; letter = m.letter; payload = l })
      (ap (λ (n : ℕ). take n (m.payload ++ sum_of (covered m))) k ∙ take-append_seam m.payload (sum_of (covered m)))

  judge_written : judge m.opening (between m) ≡ message m
  unfolding judged
  judge_written =
      let n : frame_length (between m) ≡ frame_least + length m.payload = omega (arith, long, t.fits, longest m.opening) in
      rw (is_sized (frame_length (between m)) n, is_proper, does_agree) (ap message is_message_lem)

  pub reads : rule tt (wire m) ≡ some (record { event = message m; used = length (wire m) })
  reads =
      let n : 0 + (length (between m) + 2) ≡ length (wire m) = omega (arith, length-append (between m) (eot ∷ [])) in
      found_at_eot.frame [] (between m) [] m.opening tt t.opening no_eot
      ∙ ap₂ {C = Option (Settled (Event Message))} (λ (e : Event Message) (k : ℕ). some (record { event = e; used = k })) judge_written n

  pub wire_bytes : T (are_bytes (wire m))
  wire_bytes =
      let rest = m.payload ++ sum_of (covered m) in
      let l₁ = m.letter ∷ rest in
      let l₂ = m.station_second ∷ l₁ in
      let characters =
      bytes_cons m.station_first l₂ (omega (arith, hex_range m.station_first sets.first))
      (bytes_cons m.station_second l₁ (omega (arith, hex_range m.station_second sets.second))
      (bytes_cons m.letter rest (omega (arith, letter_range m.letter sets.letter)) (hex_bytes rest sets.rest))) in
      bytes_cons m.opening (between m ++ (eot ∷ [])) (omega (arith, opens_range m.opening t.opening))
      (bytes_append (between m) (eot ∷ []) characters (bytes_cons eot [] (omega arith) tt))
