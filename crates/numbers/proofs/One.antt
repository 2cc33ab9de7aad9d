-- For each public call: two results that its promise allows are one.
-- Assumes nothing.
use Prim.Native.Nat.{ℕ}
use mathlib.Core.Path.{◌≡◌, sym, ◌∙◌}
use Rattle.numbers.specs.Numbers.{IsLeast, IsWord, IsWide}

pub least_one : (a b r s : ℕ) → IsLeast a b r → IsLeast a b s → r ≡ s
least_one a b r s x y = x ∙ sym y

pub word_one : (high low r s : ℕ) → IsWord high low r → IsWord high low s → r ≡ s
word_one high low r s x y = x ∙ sym y

pub wide_one : (byte r s : ℕ) → IsWide byte r → IsWide byte s → r ≡ s
wide_one byte r s x y = x ∙ sym y
