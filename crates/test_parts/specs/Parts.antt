-- What the calls promise of their arguments and their result.
use Rattle.std.specs.Prelude.{ℕ, min, ◌+◌, ◌-◌, ◌*◌, ◌/◌, ◌%◌, ◌^◌, ◌≡◌, List, get_or, take, drop}

-- `further`: the sum, or the greatest index
abbrev pub IsFurther : ℕ → ℕ → ℕ → Type 0
IsFurther at n r = r ≡ min (at + n) (2 ^ 64 - 1)

-- `byte_at` and `size_at`: the byte there, 0 past the end
abbrev pub IsByteAt : List ℕ → ℕ → ℕ → Type 0
IsByteAt s at r = r ≡ get_or s at 0

-- `part`: so many bytes from an index on, as far as they are there
abbrev pub IsPart : List ℕ → ℕ → ℕ → List ℕ → Type 0
IsPart s at n r = r ≡ take n (drop at s)

-- `word_at`: two bytes, high byte first
abbrev pub IsWordAt : List ℕ → ℕ → ℕ → Type 0
IsWordAt s at r = r ≡ get_or s at 0 * 256 + get_or s (at + 1) 0

-- `low` and `high`: the last byte of a number, and the one above it
abbrev pub IsLowOf : ℕ → ℕ → Type 0
IsLowOf n r = r ≡ n % 256

abbrev pub IsHighOf : ℕ → ℕ → Type 0
IsHighOf n r = r ≡ n / 256 % 256
