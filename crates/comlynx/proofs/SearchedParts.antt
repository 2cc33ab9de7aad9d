-- What a search for a byte says of the bytes that it passed over.
-- Assumes nothing.
use Prim.Native.Nat.{ℕ, zero, suc, ◌+◌, ◌-◌, ◌≤◌}
use mathlib.Core.Path.{◌≡◌, sym, ap, ◌∙◌, subst}
use mathlib.Core.List.{List, [], ◌∷◌, ◌++◌}
use lib.ListN.{length, take, drop, get_or, take-append-drop, length-drop}
use lib.Seq.{get_or-take, drop-cons, drop-drop, length-take-le}
use native.Mathlib.Nat.{lt_of_not-le}
use native.Mathlib.Decide.{dec_le}
use native.Mathlib.Omega.{arith}
use Rattle.std.proofs.lemmas.List.Edits.{get_or-between}
use Rattle.comlynx.specs.Inside.{Absent, Clear, Searched, Passed}

-- a part of a slice
abbrev pub part : ℕ → ℕ → List ℕ → List ℕ
part from to s = take (to - from) (drop from s)

pub length_part : (s : List ℕ) (from r : ℕ) → from ≤ r → r ≤ length s → length (part from r s) ≡ r - from
length_part s from r h i = length-take-le (r - from) (drop from s) (omega (arith, length-drop from s))

pub absent_join : (b : ℕ) (s : List ℕ) (from mid to : ℕ) → Absent b s from mid → Absent b s mid to → Absent b s from to
absent_join b s from mid to f g k i j e =
    elim (dec_le mid k) [
      | yes y ↦ g k y j e
      | no y ↦ f k i (lt_of_not-le y) e
    ]

-- ---- neither of two

pub clear_join : (a b : ℕ) (s : List ℕ) (from mid to : ℕ) → Clear a b s from mid → Clear a b s mid to → Clear a b s from to
clear_join a b s from mid to f g = (absent_join a s from mid to f.0 g.0, absent_join b s from mid to f.1 g.1)

-- what is clear in a part is clear there in the whole
absent_part : (b : ℕ) (s : List ℕ) (from to : ℕ) → to ≤ length s → Absent b (part from to s) 0 (length (part from to s)) → Absent b s from to
absent_part b s from to h f k i j e =
    let there : from + (k - from) ≡ k = omega arith in
    f (k - from) (omega arith) (omega (arith, length_part s from to (omega arith) h))
    (get_or-between s from to (k - from) 0 (omega arith) ∙ ap (λ (m : ℕ). get_or s m 0) there ∙ e)

pub clear_part : (a b : ℕ) (s : List ℕ) (from to : ℕ) → to ≤ length s → Clear a b (part from to s) 0 (length (part from to s)) → Clear a b s from to
clear_part a b s from to h f = (absent_part a s from to h f.0, absent_part b s from to h f.1)

-- and what is clear in a front
absent_front : (b : ℕ) (s : List ℕ) (n from to : ℕ) → to ≤ n → Absent b (take n s) from to → Absent b s from to
absent_front b s n from to h f k i j e = f k i j (get_or-take n s k 0 (omega arith) ∙ e)

pub clear_front : (a b : ℕ) (s : List ℕ) (n from to : ℕ) → to ≤ n → Clear a b (take n s) from to → Clear a b s from to
clear_front a b s n from to h f = (absent_front a s n from to h f.0, absent_front b s n from to h f.1)

pub passed_on : (a b : ℕ) (s : List ℕ) (from mid to : ℕ) → Passed a b s from mid → Passed a b s mid to → Passed a b s from to
passed_on a b s from mid to f g = (omega (arith, f.0, g.0), g.1, clear_join a b s from mid to f.2 g.2)

-- ---- the part that it passed over

abbrev pub Without : ℕ → List ℕ → Type 0
Without b [] = Unit {0}
Without b (x ∷ xs) = (x ≡ b → ⊥) × Without b xs

taken_without : (b : ℕ) (s : List ℕ) (n from : ℕ) → from + n ≤ length s → Absent b s from (from + n) → Without b (take n (drop from s))
taken_without b s zero from h a = tt
taken_without b s (suc n) from h a =
    rw (drop-cons s from 0 (omega arith))
    (a from (omega arith) (omega arith), taken_without b s n (suc from) (omega arith) (λ k i j. a k (omega arith) (omega arith)))

pub searched_without : (b : ℕ) (s : List ℕ) (from r : ℕ) → Searched b s from r → Without b (part from r s)
searched_without b s from r f =
    let e : r ≡ from + (r - from) = omega (arith, f.0) in
    taken_without b s (r - from) from (omega (arith, f.0, f.1)) (subst (λ (n : ℕ). Absent b s from n) e f.2)

-- it and what is left are all of it
pub part_left : (s : List ℕ) (from r : ℕ) → from ≤ r → drop from s ≡ part from r s ++ drop r s
part_left s from r h =
    let e : from + (r - from) ≡ r = omega arith in
    sym (take-append-drop (r - from) (drop from s))
    ∙ ap (λ (l : List ℕ). part from r s ++ l) (drop-drop (r - from) from s ∙ ap (λ (n : ℕ). drop n s) e)
