-- What the rule finds in a slice from a place on, by what stands there.
-- Assumes nothing.
use Rattle.std.specs.Prelude.{Some, None, position, nat_lt, not}
use Rattle.std.specs.List.{position_or_len}
use Rattle.std.specs.Option.{unwrap_or}
use Rattle.std.proofs.lemmas.List.Sums.{fails_before_first, passes_at_first}
use Prim.Native.Nat.{ℕ, zero, suc, ◌+◌, ◌-◌, ◌≤◌, ◌<◌}
use mathlib.Core.Path.{◌≡◌, refl, sym, ap, ap₂, ◌∙◌}
use mathlib.Core.Bool.{Bool, true, false, cond, ◌&&◌, and_assoc, and-false}
use mathlib.Core.Option.{none, some}
use mathlib.Core.List.{List, [], ◌∷◌}
use lib.ListN.{length, take, drop, get_or, length-drop, drop_of_length-le}
use lib.Seq.{get_or-drop, drop-drop}
use lib.Dec.{eqb, ltb}
use borrow.Author.Tests.{eq-eqb, ne_eqb, lt-ltb, le-ltb, eqb-true, ltb-true, ltb-false}
use native.Mathlib.Nat.{add-zero}
use native.Mathlib.Omega.{arith}
use Rattle.stream.specs.Event.{damage}
use Rattle.fronius.specs.Wire.{mark}
use Rattle.fronius.specs.Rules.{judged, frame, sized, starts, sought}
use Rattle.fronius.specs.Inside.{StartFrom, PastMarks}
use Rattle.fronius.proofs.StageRanges.{false_true}

-- ---- of bytes that are there, by the first ones

sought_by : (at : ℕ) (bs : List ℕ) (t : Bool) → 0 < length bs → starts bs ≡ t → sought at bs ≡ cond t (sized (at + 3) (drop 3 bs)) (sought (at + 1) (drop 1 bs))
unfolding sought
sought_by at [] t h e = absurd (omega arith)
sought_by at (b ∷ bs) t h e = ap (λ (u : Bool). cond u (sized (at + 3) (drop 2 bs)) (sought (at + 1) bs)) e

sized_by : (at : ℕ) (bs : List ℕ) (t u : Bool) → 0 < length bs → eqb (get_or bs 0 0) mark ≡ t → ltb mark (get_or bs 0 0) ≡ u
    → sized at bs ≡ cond t (sized (at + 1) (drop 1 bs)) (cond u (some (record { event = damage 7 4; used = at + 1 })) (frame (at + 1) (get_or bs 0 0) (drop 1 bs)))
unfolding sized
sized_by at [] t u h e f = absurd (omega arith)
sized_by at (b ∷ bs) t u h e f = rw (e, f)

-- fewer than three bytes hold no start
few : (at : ℕ) (bs : List ℕ) → length bs < 3 → sought at bs ≡ none
unfolding sought
few at [] h = refl
few at (a ∷ []) h = rw (and-false (eqb a mark))
few at (a ∷ b ∷ []) h = rw (and-false (eqb b mark), and-false (eqb a mark))
few at (a ∷ b ∷ c ∷ bs) h = absurd (omega arith)

not_false : (b : Bool) → not b ≡ false → b ≡ true
not_false true e = refl
not_false false e = sym e

-- ---- in a slice

module _ (s : List ℕ) where
  there : (i : ℕ) → i < length s → 0 < length (drop i s)
  there i lt = simp length-drop (omega arith)

  first : (i : ℕ) → get_or (drop i s) 0 0 ≡ get_or s i 0
  first i = get_or-drop i s 0 0 ∙ ap (λ (k : ℕ). get_or s k 0) (add-zero i)

  -- nothing stands past the end
  pub past_end : (i : ℕ) → length s ≤ i → get_or s i 0 ≡ 0
  past_end i le = sym (first i) ∙ ap (λ (l : List ℕ). get_or l 0 0) (drop_of_length-le s {i = i} le)

  pub sized_past_end : (at i : ℕ) → length s ≤ i → sized at (drop i s) ≡ none
  unfolding sized
  sized_past_end at i le = ap (sized at) (drop_of_length-le s {i = i} le)

  -- ---- the start

  -- whether three 80 stand there, in the order in which the code looks
  abbrev three : ℕ → Bool
  three i = (eqb (get_or s i 0) mark && eqb (get_or s (i + 1) 0) mark) && eqb (get_or s (i + 2) 0) mark

  three_start : (i : ℕ) → starts (drop i s) ≡ three i
  three_start i =
      rw (first i, get_or-drop i s 1 0, get_or-drop i s 2 0) (sym (and_assoc (eqb (get_or s i 0) mark) (eqb (get_or s (i + 1) 0) mark) (eqb (get_or s (i + 2) 0) mark)))

  start_here : (at i : ℕ) → i < length s → three i ≡ true → sought at (drop i s) ≡ sized (at + 3) (drop (i + 3) s)
  start_here at i lt e = sought_by at (drop i s) true (there i lt) (three_start i ∙ e) ∙ ap (sized (at + 3)) (drop-drop 3 i s)

  start_later : (at i : ℕ) → i < length s → three i ≡ false → sought at (drop i s) ≡ sought (at + 1) (drop (i + 1) s)
  start_later at i lt e = sought_by at (drop i s) false (there i lt) (three_start i ∙ e) ∙ ap (sought (at + 1)) (drop-drop 1 i s)

  -- what is found from `from` on, where the search has come to i and found no start yet
  abbrev pub Searched : ℕ → ℕ → Type 0
  Searched from i = sought (i - from) (drop i s) ≡ sought 0 (drop from s)

  pub searched_from : (from : ℕ) → Searched from from
  searched_from from = let none_yet : from - from ≡ 0 = omega arith in rw none_yet

  pub searched_on : (from i : ℕ) → from ≤ i → i < length s → three i ≡ false → Searched from i → Searched from (i + 1)
  searched_on from i f lt e h =
      let one : i + 1 - from ≡ i - from + 1 = omega arith in
      ap (λ (k : ℕ). sought k (drop (i + 1) s)) one ∙ sym (start_later (i - from) i lt e) ∙ h

  pub start_found : (from i : ℕ) → from ≤ i → i < length s → three i ≡ true → Searched from i → StartFrom s from i
  start_found from i f lt e h = record { forward = f; within = omega arith; found = sym h ∙ start_here (i - from) i lt e }

  pub no_start : (from i : ℕ) → from ≤ i → i ≤ length s → length s - i < 3 → Searched from i → StartFrom s from (length s)
  no_start from i f le lt h = record {
    forward = omega arith;
    within = omega arith;
    found = sym h ∙ few (i - from) (drop i s) (simp length-drop lt) ∙ sym (sized_past_end (length s - from + 3) (length s + 3) (omega arith));
  }

  -- ---- 80s behind it

  -- what is found where a length comes, wherever the search began, where all have been 80 from `from` up to i
  abbrev pub Passed : ℕ → ℕ → Type 0
  Passed from i = (at : ℕ) → sized at (drop from s) ≡ sized (at + (i - from)) (drop i s)

  pub passed_from : (from : ℕ) → Passed from from
  passed_from from at = let same : at + (from - from) ≡ at = omega arith in rw same

  pub passed_on : (from i : ℕ) → from ≤ i → i < length s → get_or s i 0 ≡ mark → Passed from i → Passed from (i + 1)
  passed_on from i f lt e h at =
      let one : at + (i - from) + 1 ≡ at + (i + 1 - from) = omega arith in
      h at ∙ sized_by (at + (i - from)) (drop i s) true false (there i lt) (eq-eqb (get_or (drop i s) 0 0) mark (first i ∙ e)) (le-ltb mark (get_or (drop i s) 0 0) (omega (arith, first i, e)))
      ∙ ap₂ sized one (drop-drop 1 i s)

  passed_all : (from n : ℕ) → from + n ≤ length s → ((k : ℕ) → k < n → get_or s (from + k) 0 ≡ mark) → Passed from (from + n)
  passed_all from zero le h = rw (add-zero from) (passed_from from)
  passed_all from (suc n) le h =
      let one : from + suc n ≡ from + n + 1 = omega arith in
      rw one (passed_on from (from + n) (omega arith) (omega arith) (h n (omega arith)) (passed_all from n (omega arith) (λ k lt. h k (omega arith))))

  -- up to the first that is none, or to the end
  abbrev other : ℕ → Bool
  other b = not (eqb b mark)

  mark_before : (from k : ℕ) → k < position_or_len other (drop from s) → get_or s (from + k) 0 ≡ mark
  mark_before from k lt =
      eqb-true (get_or s (from + k) 0) mark
      (not_false (eqb (get_or s (from + k) 0) mark) (ap other (sym (get_or-drop from s k 0)) ∙ fails_before_first other (drop from s) k 0 lt))

  pub marks_passed : (from : ℕ) → from ≤ length s → PastMarks s from (from + unwrap_or (position other (drop from s)) (length (drop from s)))
  marks_passed from le = go (nat_lt (position_or_len other (drop from s)) (length (drop from s))) refl
    where
      first_other : ℕ
      first_other = position_or_len other (drop from s)

      all : length (drop from s) ≡ length s - from
      all = length-drop from s

      go : (t : Bool) → nat_lt first_other (length (drop from s)) ≡ t → PastMarks s from (from + unwrap_or (cond t (Some first_other) None) (length (drop from s)))
      go true e =
          let lt : first_other < length (drop from s) = ltb-true first_other (length (drop from s)) e in
          record {
            forward = omega arith;
            other =
                λ m. false_true (sym (ap other (get_or-drop from s first_other 0 ∙ m)) ∙ passes_at_first other (drop from s) 0 lt);
            found = passed_all from first_other (omega (arith, all)) (mark_before from);
          }
      go false e =
          let far : length (drop from s) ≤ first_other = ltb-false first_other (length (drop from s)) e in
          let none_there = past_end (from + length (drop from s)) (omega (arith, all)) in
          record {
            forward = omega arith;
            other = λ m. omega (arith, m, none_there);
            found = passed_all from (length (drop from s)) (omega (arith, all)) (λ k lt. mark_before from k (omega arith));
          }

  -- ---- the length, and the frame behind it

  module _ (k : ℕ) (lt : k < length s) where
    abbrev n : ℕ
    n = get_or s k 0

    pub bad_length : (at : ℕ) → mark < n → sized at (drop k s) ≡ some (record { event = damage 7 4; used = at + 1 })
    bad_length at h =
        sized_by at (drop k s) false true (there k lt) (ne_eqb (get_or (drop k s) 0 0) mark (λ e. omega (arith, first k))) (lt-ltb mark (get_or (drop k s) 0 0) (omega (arith, first k)))

    framed : (at : ℕ) → n < mark → sized at (drop k s) ≡ frame (at + 1) n (drop (k + 1) s)
    framed at h =
        sized_by at (drop k s) false false (there k lt) (ne_eqb (get_or (drop k s) 0 0) mark (λ e. omega (arith, first k))) (le-ltb mark (get_or (drop k s) 0 0) (omega (arith, first k)))
        ∙ ap₂ (frame (at + 1)) (first k) (drop-drop 1 k s)

    pub frame_cut_off : (at : ℕ) → n < mark → length s - (k + 1) ≤ 3 + n → sized at (drop k s) ≡ none
    unfolding frame
    frame_cut_off at h c = framed at h ∙ rw (lt-ltb (length (drop (k + 1) s)) (n + 4) (simp length-drop (omega arith)))

    pub frame_there : (at : ℕ) → n < mark → 3 + n < length s - (k + 1)
        → sized at (drop k s) ≡ some (record { event = judged n (take (3 + n) (drop (k + 1) s)) (get_or s (k + 1 + (3 + n)) 0); used = at + 1 + (n + 4) })
    unfolding frame
    frame_there at h c =
        let size : n + 3 ≡ 3 + n = omega arith in
        framed at h ∙ rw (le-ltb (length (drop (k + 1) s)) (n + 4) (simp length-drop (omega arith)), size, get_or-drop (k + 1) s (3 + n) 0)
