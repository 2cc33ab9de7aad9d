-- A case of document 01, what it is for a list of them to hold, and which numbers they bear.
use Rattle.std.specs.Prelude.{ℕ, ◌≡◌, List, [], ◌∷◌, ◌++◌, replicate}

-- the number after the P; what the definitions come to; what document 01 says
pub data Case : Type 1 where
  case : {A : Type 0} → ℕ → A → A → Case

-- every case comes to what document 01 says
abbrev pub Hold : List Case → Type 0
Hold [] = Unit {0}
Hold (case p found said ∷ cases) = (found ≡ said) × Hold cases

-- their numbers, one after another
abbrev pub numbers : List Case → List ℕ
numbers [] = []
numbers (case p found said ∷ cases) = p ∷ numbers cases

-- those of a table: each number as many times as it says
abbrev pub times : List (ℕ × ℕ) → List ℕ
times [] = []
times (row ∷ rows) = replicate row.1 row.0 ++ times rows
