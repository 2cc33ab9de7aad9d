-- For each public call: two results that its promise allows are one.
-- Assumes nothing.
use Prim.Native.Nat.{ℕ}
use mathlib.Core.Path.{◌≡◌, sym, ◌∙◌}
use Rattle.answers.specs.Refusal.{IsRefusalNumber}
use Rattle.answers.specs.Damage.{IsDamageNumber}
use Rattle.answers.specs.Written.{IsLength, IsWrittenNumber}
use Rattle.answers.specs.declared.Refusal.{Refusal}
use Rattle.answers.specs.declared.Damage.{Damage}
use Rattle.answers.specs.Written.{Written}

pub Refusal-number_one : (why : Refusal) (m n : ℕ) → IsRefusalNumber why m → IsRefusalNumber why n → m ≡ n
Refusal-number_one why m n p q = p ∙ sym q

pub Damage-number_one : (what : Damage) (m n : ℕ) → IsDamageNumber what m → IsDamageNumber what n → m ≡ n
Damage-number_one what m n p q = p ∙ sym q

pub written_number_one : (w : Written) (m n : ℕ) → IsWrittenNumber w m → IsWrittenNumber w n → m ≡ n
written_number_one w m n p q = p ∙ sym q

pub written_length_one : (w : Written) (m n : ℕ) → IsLength w m → IsLength w n → m ≡ n
written_length_one w m n p q = p ∙ sym q
