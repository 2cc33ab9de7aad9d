-- Messages written one after another.
use Rattle.std.specs.Prelude.{ℕ, suc, ◌-◌, cond, List, [], ◌∷◌, ◌++◌, length, leb}

module _ {M : Type 0} (wire : M → List ℕ) where
  -- their bytes
  abbrev pub written : List M → List ℕ
  written [] = []
  written (m ∷ ms) = wire m ++ written ms

  -- the number of those whose last byte is among the first n
  abbrev pub ended : ℕ → List M → ℕ
  ended n [] = 0
  ended n (m ∷ ms) = cond (leb (length (wire m)) n) (suc (ended (n - length (wire m)) ms)) 0

-- each one of a list, such as each message being one that the writer takes
abbrev pub Each : {A : Type 0} → (A → Type 0) → List A → Type 0
Each Holds [] = Unit {0}
Each Holds (a ∷ rest) = Holds a × Each Holds rest
