-- The rule over the bytes of a slice: by the first opening byte, and the first EOT behind it.
-- Assumes nothing.
use Rattle.std.specs.Prelude.{Option as Maybe, None, Some}
use Rattle.std.specs.List.{position, position_or_len}
use Prim.Native.Nat.{ℕ, min, ◌+◌, ◌-◌, ◌<◌}
use mathlib.Core.Path.{◌≡◌, sym, ap, ap₂, ◌∙◌, subst}
use mathlib.Core.Option.{none, some}
use mathlib.Core.List.{List, ◌∷◌, ◌++◌}
use lib.ListN.{length, take, drop, get_or, length-drop, take-append-drop}
use lib.Seq.{drop-cons, drop-drop, get_or-drop, length-take-le, take_all}
use borrow.Author.Tests.{eqb-true}
use native.Mathlib.Nat.{lt_of_not-le}
use native.Mathlib.Decide.{dec_le}
use native.Mathlib.Numerals.{add-one}
use native.Mathlib.Omega.{arith}
use Rattle.drives.specs.Wire.{eot, opens}
use Rattle.drives.specs.Rules.{judged, frame_length, judge, rule}
use Rattle.drives.specs.Machine.{count_max, closed}
use Rattle.drives.specs.Demands.{NoOpening, NoEot}
use Rattle.drives.specs.Inside.{FoundThere}
use Rattle.drives.proofs.Searches.{some_at, none_at, is_eot, no_opening, no_eot}
use Rattle.drives.proofs.FoundAtEot.{found_at_eot}
use Rattle.drives.proofs.MachineFollowsRule.{judged_too_long}

-- a list is what stands before an index, what stands there and what stands behind
parted : (bs : List ℕ) (n : ℕ) → n < length bs → take n bs ++ (get_or bs n 0 ∷ drop (n + 1) bs) ≡ bs
parted bs n lt = rw (add-one, ← drop-cons bs n 0 lt) (take-append-drop n bs)

-- ---- the first frame of these bytes

module _ (bs : List ℕ) where
  nothing_opens : position opens bs ≡ None → rule tt bs ≡ none
  nothing_opens e =
      subst (λ (l : List ℕ). rule tt l ≡ none) (take_all (position_or_len opens bs) bs (none_at opens bs e)) (found_at_eot.nothing (take (position_or_len opens bs) bs) (no_opening bs))

  module _ (n : ℕ) (o : position opens bs ≡ Some n) where
    abbrev behind : List ℕ
    behind = drop (n + 1) bs

    passed : NoOpening (take n bs)
    passed = subst (λ (k : ℕ). NoOpening (take k bs)) (sym (some_at opens bs n o).0) (no_opening bs)

    never_ends : position is_eot behind ≡ None → rule tt bs ≡ none
    never_ends e =
        let at = some_at opens bs n o in
        let came = take_all (position_or_len is_eot behind) behind (none_at is_eot behind e) in
        subst (λ (l : List ℕ). rule tt l ≡ none) (ap (λ (c : List ℕ). take n bs ++ (get_or bs n 0 ∷ c)) came ∙ parted bs n at.1)
        (found_at_eot.unfinished (take n bs) (take (position_or_len is_eot behind) behind) (get_or bs n 0) passed at.2 (no_eot behind))

    whole : (m : ℕ) → position is_eot behind ≡ Some m → rule tt bs ≡ some (record { event = judge (get_or bs n 0) (take m behind); used = n + (m + 2) })
    whole m e =
        let at = some_at opens bs n o in
        let end = some_at is_eot behind m e in
        let came = take m behind in
        let clear : NoEot came = subst (λ (k : ℕ). NoEot (take k behind)) (sym end.0) (no_eot behind) in
        let ends : came ++ (eot ∷ drop (m + 1) behind) ≡ behind =
        ap (λ (b : ℕ). came ++ (b ∷ drop (m + 1) behind)) (sym (eqb-true (get_or behind m 0) eot end.2)) ∙ parted behind m end.1 in
        let before : length (take n bs) ≡ n = length-take-le n bs (omega (arith, at.1)) in
        let between : length came ≡ m = length-take-le m behind (omega (arith, end.1)) in
        sym (ap (rule tt) (ap (λ (c : List ℕ). take n bs ++ (get_or bs n 0 ∷ c)) ends ∙ parted bs n at.1))
        ∙ found_at_eot.frame (take n bs) came (drop (m + 1) behind) (get_or bs n 0) passed at.2 clear
        ∙ ap₂ (λ (i j : ℕ). some (record { event = judge (get_or bs n 0) came; used = i + (j + 2) })) before between

-- ---- the first frame of a slice from a place on

module _ (s : List ℕ) where
  -- the bytes from an index on, as a part of the slice has them
  from : (k : ℕ) → take (length s - k) (drop k s) ≡ drop k s
  from k = take_all (length s - k) (drop k s) (omega (arith, length-drop k s))

  module _ (place : ℕ) where
    pub none_there : position opens (take (length s - place) (drop place s)) ≡ None → rule tt (drop place s) ≡ none
    none_there e = nothing_opens (drop place s) (ap (position opens) (sym (from place)) ∙ e)

    module _ (n : ℕ) (o : position opens (take (length s - place) (drop place s)) ≡ Some n) where
      opens_there : position opens (drop place s) ≡ Some n
      opens_there = ap (position opens) (sym (from place)) ∙ o

      behind_there : drop (n + 1) (drop place s) ≡ drop (place + n + 1) s
      behind_there =
          let k : place + (n + 1) ≡ place + n + 1 = omega arith in
          drop-drop (n + 1) place s ∙ ap (λ (i : ℕ). drop i s) k

      pub opening_within : place + n < length s
      opening_within = omega (arith, (some_at opens (drop place s) n opens_there).1, length-drop place s)

      ends_there : (r : Maybe ℕ) → position is_eot (take (length s - (place + n + 1)) (drop (place + n + 1) s)) ≡ r → position is_eot (drop (n + 1) (drop place s)) ≡ r
      ends_there r e = ap (position is_eot) (behind_there ∙ sym (from (place + n + 1))) ∙ e

      pub unfinished_there : position is_eot (take (length s - (place + n + 1)) (drop (place + n + 1) s)) ≡ None → rule tt (drop place s) ≡ none
      unfinished_there e = never_ends (drop place s) n opens_there (ends_there None e)

      pub found_there : (m : ℕ) → position is_eot (take (length s - (place + n + 1)) (drop (place + n + 1) s)) ≡ Some m
          → FoundThere s place (record { opening = place + n; eot = place + n + 1 + m })
      found_there m e =
          let w = whole (drop place s) n opens_there m (ends_there (Some m) e) in
          let end = some_at is_eot (drop (n + 1) (drop place s)) m (ends_there (Some m) e) in
          let left = ap length behind_there in
          let came : m ≡ place + n + 1 + m - (place + n + 1) = omega arith in
          let used : n + (m + 2) ≡ place + n + 1 + m + 1 - place = omega arith in
          let same : take m (drop (n + 1) (drop place s)) ≡ take (place + n + 1 + m - (place + n + 1)) (drop (place + n + 1) s) =
          ap₂ (λ (k : ℕ) (l : List ℕ). take k l) came behind_there in
          record {
            ahead = omega arith;
            behind = omega arith;
            inside = omega (arith, end.1, left, length-drop (place + n + 1) s, opening_within);
            finds =
                w
                ∙ ap₂ (λ (b : ℕ) (l : List ℕ). some (record { event = judge b l; used = n + (m + 2) })) (get_or-drop place s n 0) same
                ∙ ap (λ (k : ℕ). some (record { event = judge (get_or s (place + n) 0) (take (place + n + 1 + m - (place + n + 1)) (drop (place + n + 1) s)); used = k })) used;
          }

-- ---- a whole frame

-- a frame whose characters are all at hand, counted as a reader counts them, is judged as it is
pub whole_judged : (opening : ℕ) (came : List ℕ) → closed opening (min (length came) count_max) came ≡ judge opening came
whole_judged opening came =
    let n : min (length came) count_max + 2 ≡ frame_length came = omega arith in
    ap (λ (k : ℕ). judged opening k (take (min (length came) count_max) came)) n
    ∙ elim (dec_le (length came) count_max) [
      | yes k ↦ ap (judged opening (frame_length came)) (take_all (min (length came) count_max) came (omega arith))
      | no k ↦ (let lt = lt_of_not-le k in judged_too_long opening (frame_length came) (take (min (length came) count_max) came) came (omega arith))
    ]
