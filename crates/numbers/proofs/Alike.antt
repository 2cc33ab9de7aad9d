-- How two things are told apart, and how two that are told alike are one.
-- Assumes nothing.
use Prim.Native.Nat.{ℕ}
use mathlib.Core.Path.{◌≡◌, sym, ap, ◌∙◌}
use native.Mathlib.Omega.{arith}

-- Two cases of one type are never equal: `zero_is_one cc` where the hypotheses say that they are
pub zero_is_one : {A : Type 0} → ◌≡◌ {A = ℕ} 0 1 → A
zero_is_one e = absurd (omega arith)

-- Where what is told has a way back, what is told alike is one
pub alike_by_back : {A B : Type 0} (told : A → B) (back : B → A) → ((a : A) → back (told a) ≡ a) → (a b : A) → told a ≡ told b → a ≡ b
alike_by_back told back there a b e = sym (there a) ∙ ap back e ∙ there b
