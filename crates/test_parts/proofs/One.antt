-- For each public call: two results that its promise allows are one.
-- Assumes nothing.
use Prim.Native.Nat.{ℕ}
use mathlib.Core.Path.{◌≡◌, sym, ◌∙◌}
use mathlib.Core.List.{List}
use Rattle.test_parts.specs.Parts.{IsFurther, IsByteAt, IsWordAt, IsPart, IsLowOf, IsHighOf}

pub further_one : (at n r s : ℕ) → IsFurther at n r → IsFurther at n s → r ≡ s
further_one at n r s x y = x ∙ sym y

pub byte_at_one : (l : List ℕ) (at r s : ℕ) → IsByteAt l at r → IsByteAt l at s → r ≡ s
byte_at_one l at r s x y = x ∙ sym y

pub size_at_one : (l : List ℕ) (at r s : ℕ) → IsByteAt l at r → IsByteAt l at s → r ≡ s
size_at_one l at r s x y = x ∙ sym y

pub part_one : (l : List ℕ) (at n : ℕ) (r s : List ℕ) → IsPart l at n r → IsPart l at n s → r ≡ s
part_one l at n r s x y = x ∙ sym y

pub word_at_one : (l : List ℕ) (at r s : ℕ) → IsWordAt l at r → IsWordAt l at s → r ≡ s
word_at_one l at r s x y = x ∙ sym y

pub low_one : (n r s : ℕ) → IsLowOf n r → IsLowOf n s → r ≡ s
low_one n r s x y = x ∙ sym y

pub high_one : (n r s : ℕ) → IsHighOf n r → IsHighOf n s → r ≡ s
high_one n r s x y = x ∙ sym y
