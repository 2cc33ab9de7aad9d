-- For each public call: two results that its promise allows are one.
-- Assumes nothing.
use Prim.Native.Nat.{ℕ}
use mathlib.Core.Path.{◌≡◌, sym, ap₂, ◌∙◌}
use mathlib.Core.List.{[], ◌∷◌}
use Rattle.eversolar_words.specs.Words.{IsWord, IsBytesOf}
use Rattle.eversolar_words.specs.declared.Pair.{Pair}

pub word_one : (first second r s : ℕ) → IsWord first second r → IsWord first second s → r ≡ s
word_one first second r s x y = x ∙ sym y

pub bytes_of_one : (w : ℕ) (r s : Pair) → IsBytesOf w r → IsBytesOf w s → r ≡ s
bytes_of_one w r s x y =
    let two : r.first ∷ r.second ∷ [] ≡ s.first ∷ s.second ∷ [] = x ∙ sym y in
    let first : r.first ≡ s.first = cc in
    let second : r.second ≡ s.second = cc in
    ap₂ (λ (a b : ℕ). record { first = a; second = b }) first second
