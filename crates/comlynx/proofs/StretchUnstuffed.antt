-- A stretch taken in by parts: what is held of its body, and what the rest of it stands for.
-- Assumes nothing.
use Rattle.std.specs.Prelude.{Option as Maybe, None, Some}
use Prim.Native.Nat.{ℕ, suc, min, ◌+◌, ◌-◌, ◌≤◌, ◌<◌}
use mathlib.Core.Path.{◌≡◌, refl, sym, ap, ap₂, ◌∙◌, subst}
use mathlib.Core.Bool.{Bool, true, false, cond}
use mathlib.Core.Option.{Option, none, some}
use mathlib.Core.List.{List, [], ◌∷◌, ◌++◌, append-nil, append_assoc}
use lib.ListN.{length, take, drop, get_or, drop_of_length-le, get_or-eq_default}
use lib.Seq.{drop-cons, take_all}
use lib.Dec.{eqb}
use borrow.Author.Tests.{ne_eqb}
use native.Mathlib.Nat.{lt_of_not-le}
use native.Mathlib.Decide.{dec_le}
use native.Mathlib.Numerals.{add-one}
use native.Mathlib.Omega.{arith}
use Rattle.comlynx_checksum.specs.Checksum.{agrees}
use Rattle.comlynx.specs.Wire.{flag, escape, flag_pair, escape_pair, body_max}
use Rattle.comlynx.specs.Rules.{with_first, unstuffed, judged, judged_body, lost_of, judge}
use Rattle.comlynx.specs.Machine.{too_many, closed}
use Rattle.comlynx.specs.Inside.{Absent, Searched, held_count, Held, Keeps, pair_at, Unstuffs}
use Rattle.comlynx.specs.declared.reader.Closed.TheVariants.{Whole, Broken}
use Rattle.comlynx.proofs.SearchedParts.{Without, part, searched_without, part_left}
use Rattle.comlynx.proofs.MachineFollowsRule.{ahead, ahead_front, too_long}

-- ---- what is held

held_none : (held : List ℕ) → length held ≡ body_max → Held (Some 0) held []
held_none held w = record { wide = w; roomy = omega arith; counted = omega arith; same = λ h. refl }

-- so what is held is judged as the whole
counted_closed : (came count : ℕ) (held u : List ℕ) → count ≡ min (length u) too_many → (length u ≤ body_max → take count held ≡ u)
    → closed came count held ≡ judged came (length u) (agrees u) u
unfolding judged
counted_closed came count held u counted same =
    elim (dec_le (length u) body_max) [
      | yes y ↦ (
          let c : count ≡ length u = omega (arith, counted) in
          ap₂ (λ (n : ℕ) (l : List ℕ). judged came n (agrees l) l) c (same y))
      | no y ↦ (
          let lt : body_max < length u = lt_of_not-le y in
          rw (too_long count (omega (arith, counted)), too_long (length u) lt))
    ]

held_closed : (came : ℕ) (count : Maybe ℕ) (held u : List ℕ) → Held count held u → closed came (held_count count) held ≡ judged came (length u) (agrees u) u
held_closed came count held u h = counted_closed came (held_count count) held u h.counted h.same

-- ---- what a part of it stands for

front_ahead : (b : ℕ) (w : List ℕ) (o : Option (List ℕ)) → with_first b (ahead w o) ≡ ahead (b ∷ w) o
front_ahead b w none = refl
front_ahead b w (some v) = refl

-- bytes without an escape stand for themselves
unstuffed_part : (w rest : List ℕ) → Without escape w → unstuffed false (w ++ rest) ≡ ahead w (unstuffed false rest)
unstuffed_part [] rest g = sym (ahead_nil (unstuffed false rest))
  where
    ahead_nil : (o : Option (List ℕ)) → ahead [] o ≡ o
    ahead_nil none = refl
    ahead_nil (some v) = refl
unstuffed_part (b ∷ w) rest g =
    rw (ne_eqb b escape g.0) (ap (with_first b) (unstuffed_part w rest g.1) ∙ front_ahead b w (unstuffed false rest))

-- so a stretch without one is its own body, and is judged as that
pub plain_judged : (s : List ℕ) (n came : ℕ) → Absent escape s 0 (length s) → n ≡ min (length s) too_many → came ≡ lost_of s → closed came n s ≡ judge s
unfolding judge
plain_judged s n came a e c =
    let none-there : Without escape s = subst (Without escape) (take_all (length s - 0) s (omega arith)) (searched_without escape s 0 (length s) (omega arith, omega arith, a)) in
    let itself : unstuffed false s ≡ some s =
    ap (unstuffed false) (sym (append-nil s)) ∙ unstuffed_part s [] none-there ∙ ap some (append-nil s) in
    counted_closed came n s s e (λ h. take_all n s (omega (arith, e))) ∙ ap₂ judged_body c (sym itself)

-- an escape, and what follows it
abbrev paired : Maybe ℕ → Option (List ℕ) → Option (List ℕ)
paired None o = none
paired (Some v) o = with_first v o

pair_means : (s : List ℕ) (j : ℕ) → j < length s → get_or s j 0 ≡ escape → unstuffed false (drop j s) ≡ paired (pair_at s j) (unstuffed false (drop (j + 2) s))
pair_means s j h e = ap (unstuffed false) (drop-cons s j 0 h) ∙ ap (λ (b : ℕ). unstuffed false (b ∷ drop (suc j) s)) e ∙ second
  where
    two : suc (suc j) ≡ j + 2
    two = omega arith

    by_byte : (x : ℕ) (rest : List ℕ) (p q : Bool) → eqb x flag_pair ≡ p → eqb x escape_pair ≡ q
        → unstuffed true (x ∷ rest) ≡ paired (cond p (Some flag) (cond q (Some escape) None)) (unstuffed false rest)
    by_byte x rest true q e f = rw e
    by_byte x rest false true e f = rw (e, f)
    by_byte x rest false false e f = rw (e, f)

    second : unstuffed true (drop (suc j) s) ≡ paired (pair_at s j) (unstuffed false (drop (j + 2) s))
    second =
        elim (dec_le (suc (suc j)) (length s)) [
          | yes y ↦ (
              ap (unstuffed true) (drop-cons s (suc j) 0 y)
              ∙ by_byte (get_or s (suc j) 0) (drop (suc (suc j)) s) _ _ refl refl
              ∙ ap₂ (λ (n : ℕ) (l : List ℕ). paired (cond (eqb (get_or s n 0) flag_pair) (Some flag) (cond (eqb (get_or s n 0) escape_pair) (Some escape) None)) (unstuffed false l)) (sym (add-one j)) (ap (λ (n : ℕ). drop n s) two))
          | no y ↦ (
              let le : length s ≤ suc j = omega arith in
              ap (unstuffed true) (drop_of_length-le s le)
              ∙ sym (ap (λ (x : ℕ). paired (cond (eqb x flag_pair) (Some flag) (cond (eqb x escape_pair) (Some escape) None)) (unstuffed false (drop (j + 2) s))) (get_or-eq_default s 0 {n = j + 1} (omega arith))))
        ]

-- ---- so far: of the body that the stretch s stands for a front is held, and from i on it stands for the rest

pub record SoFar (s : List ℕ) (count : Maybe ℕ) (held : List ℕ) (i : ℕ) : Type 0 where
  pub front : List ℕ
  pub holds : Held count held front
  pub means : unstuffed false s ≡ ahead front (unstuffed false (drop i s))

ahead_ahead : (u w : List ℕ) (o : Option (List ℕ)) → ahead u (ahead w o) ≡ ahead (u ++ w) o
ahead_ahead u w none = refl
ahead_ahead u w (some v) = ap some (sym (append_assoc u w v))

so_far_none : (s held : List ℕ) → length held ≡ body_max → SoFar s (Some 0) held 0
so_far_none s held w = record { front = []; holds = held_none held w; means = unstuffed_part [] s tt }

pub so_far_part : (s : List ℕ) (count : Maybe ℕ) (held : List ℕ) (i j : ℕ) (r : Maybe ℕ) (later : List ℕ) → SoFar s count held i → Searched escape s i j → Keeps count held (part i j s) r later → SoFar s r later j
so_far_part s count held i j r later f g k =
    record {
      front = f.front ++ part i j s;
      holds = k f.front f.holds;
      means =
          f.means
          ∙ ap (ahead f.front) (ap (unstuffed false) (part_left s i j g.0) ∙ unstuffed_part (part i j s) (drop j s) (searched_without escape s i j g))
          ∙ ahead_ahead f.front (part i j s) (unstuffed false (drop j s));
    }

-- the first part
pub so_far_first : (s held : List ℕ) (j : ℕ) (r : Maybe ℕ) (later : List ℕ) → length held ≡ body_max → Searched escape s 0 j → Keeps (Some 0) held (take j s) r later → SoFar s r later j
so_far_first s held j r later w g k =
    let e : j ≡ j - 0 = omega arith in
    so_far_part s (Some 0) held 0 j r later (so_far_none s held w) g (subst (λ (n : ℕ). Keeps (Some 0) held (take n s) r later) e k)

pub so_far_pair : (s : List ℕ) (count : Maybe ℕ) (held : List ℕ) (j v : ℕ) (r : Maybe ℕ) (later : List ℕ) → SoFar s count held j → j < length s → get_or s j 0 ≡ escape → Some v ≡ pair_at s j
    → Keeps count held (v ∷ []) r later → SoFar s r later (j + 2)
so_far_pair s count held j v r later f h e p k =
    record {
      front = f.front ++ (v ∷ []);
      holds = k f.front f.holds;
      means =
          f.means
          ∙ ap (ahead f.front) (pair_means s j h e ∙ ap (λ (x : Maybe ℕ). paired x (unstuffed false (drop (j + 2) s))) (sym p))
          ∙ ahead_front f.front v (unstuffed false (drop (j + 2) s));
    }

pub so_far_broken : (s : List ℕ) (count : Maybe ℕ) (held : List ℕ) (j came : ℕ) → SoFar s count held j → j < length s → get_or s j 0 ≡ escape → None ≡ pair_at s j → came ≡ lost_of s
    → Unstuffs s (Broken came) held
unfolding judge
so_far_broken s count held j came f h e p c =
    let nothing : unstuffed false s ≡ none = f.means ∙ ap (ahead f.front) (pair_means s j h e ∙ ap (λ (x : Maybe ℕ). paired x (unstuffed false (drop (j + 2) s))) (sym p)) in
    ap₂ judged_body c (sym nothing)

pub so_far_all : (s : List ℕ) (count : Maybe ℕ) (held : List ℕ) (i came : ℕ) → SoFar s count held i → length s ≤ i → came ≡ lost_of s → Unstuffs s (Whole (held_count count) came) held
unfolding judge
so_far_all s count held i came f h c =
    let all : unstuffed false s ≡ some f.front = f.means ∙ ap (λ (l : List ℕ). ahead f.front (unstuffed false l)) (drop_of_length-le s h) ∙ ap some (append-nil f.front) in
    held_closed came count held f.front f.holds ∙ ap₂ judged_body c (sym all)
