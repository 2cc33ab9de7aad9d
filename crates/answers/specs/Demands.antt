-- Exactly one case for each number: no number is without one, no two cases share one, and there is none besides.
use Rattle.std.specs.Prelude.{ℕ, ◌+◌, ◌<◌, ◌≡◌, cond, List, [], ◌∷◌, eqb}
use Rattle.answers.specs.Refusal as Refusal
use Rattle.answers.specs.Damage as Damage

-- how often a number stands in a list
abbrev pub times : ℕ → List ℕ → ℕ
times n [] = 0
times n (m ∷ ms) = cond (eqb n m) 1 0 + times n ms

-- `told` gives each case of A a number of the list, which has it once, and each number of the list is that of one case, to which `back` leads
pub record Numbers {A : Type 0} (told : A → ℕ) (numbers : List ℕ) : Type 0 where
  pub once : (a : A) → times (told a) numbers ≡ 1
  pub back : ℕ → A
  pub case : (a : A) → back (told a) ≡ a
  pub number : (n : ℕ) → 0 < times n numbers → told (back n) ≡ n

abbrev pub Refusals : Type 0
Refusals = Numbers Refusal.number (8 ∷ 9 ∷ 10 ∷ 11 ∷ 12 ∷ 13 ∷ 14 ∷ 15 ∷ 16 ∷ 17 ∷ 18 ∷ 19 ∷ 21 ∷ 23 ∷ 24 ∷ [])

abbrev pub Damages : Type 0
Damages = Numbers Damage.number (2 ∷ 3 ∷ 4 ∷ 5 ∷ 6 ∷ 7 ∷ 21 ∷ [])
