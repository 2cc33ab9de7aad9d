-- `same` says that two lists are equal.
-- Assumes nothing.
use Prim.Native.Nat.{ℕ}
use mathlib.Core.Path.{◌≡◌, refl, ap₂}
use mathlib.Core.Bool.{true}
use mathlib.Core.List.{List, [], ◌∷◌}
use lib.Dec.{eqb}
use borrow.Author.Tests.{eqb-true, eq-eqb}
use Rattle.numbers.specs.Lists.{same}
use Rattle.numbers.proofs.Alike.{zero_is_one}
use Rattle.numbers.proofs.TestLaws.{both}

pub same_refl : (s : List ℕ) → same s s ≡ true
same_refl [] = refl
same_refl (x ∷ s) = simp (eq-eqb x x refl) (same_refl s)

pub same_true : (s t : List ℕ) → same s t ≡ true → s ≡ t
same_true [] [] e = refl
same_true [] (y ∷ t) e = zero_is_one cc
same_true (x ∷ s) [] e = zero_is_one cc
same_true (x ∷ s) (y ∷ t) e =
    let two = both (eqb x y) (same s t) e in
    ap₂ (λ (z : ℕ) (u : List ℕ). z ∷ u) (eqb-true x y two.0) (same_true s t two.1)
