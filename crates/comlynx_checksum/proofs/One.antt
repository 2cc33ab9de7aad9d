-- Each public call has one result: two that its promise allows are equal.
-- Assumes nothing.
use mathlib.Core.Path.{◌≡◌, sym, ap₂, ◌∙◌}
use mathlib.Core.List.{List, [], ◌∷◌}
use Prim.Native.Nat.{ℕ}
use Rattle.comlynx_checksum.specs.Checksum.{IsOf, IsOfBoth, IsOfFirst, IsMore, IsSentOf}
use Rattle.comlynx_checksum.specs.declared.Sent.{Sent}

pub of_one : (s : List ℕ) (r r' : ℕ) → IsOf s r → IsOf s r' → r ≡ r'
of_one s r r' e e' = e ∙ sym e'

pub of_both_one : (s t : List ℕ) (r r' : ℕ) → IsOfBoth s t r → IsOfBoth s t r' → r ≡ r'
of_both_one s t r r' e e' = e ∙ sym e'

pub of_first_one : (s : List ℕ) (n r r' : ℕ) → IsOfFirst s n r → IsOfFirst s n r' → r ≡ r'
of_first_one s n r r' e e' = e ∙ sym e'

pub more_one : (f : ℕ) (s : List ℕ) (r r' : ℕ) → IsMore f s r → IsMore f s r' → r ≡ r'
more_one f s r r' e e' = e ∙ sym e'

pub sent_of_one : (f : ℕ) (r r' : Sent) → IsSentOf f r → IsSentOf f r' → r ≡ r'
sent_of_one f r r' e e' =
    let two : r.low ∷ r.high ∷ [] ≡ r'.low ∷ r'.high ∷ [] = e ∙ sym e' in
    let low : r.low ≡ r'.low = cc in
    let high : r.high ≡ r'.high = cc in
    ap₂ (λ (l h : ℕ). record { low = l; high = h }) low high
