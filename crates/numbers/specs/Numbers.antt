-- What the calls promise of their arguments and their result.
use Rattle.std.specs.Prelude.{ℕ, min, ◌+◌, ◌*◌, ◌≡◌}

-- `least`: the smaller of two numbers
abbrev pub IsLeast : ℕ → ℕ → ℕ → Type 0
IsLeast a b r = r ≡ min a b

-- `word`: two bytes, high byte first
abbrev pub IsWord : ℕ → ℕ → ℕ → Type 0
IsWord high low r = r ≡ high * 256 + low

-- `wide`: a byte as a length
abbrev pub IsWide : ℕ → ℕ → Type 0
IsWide byte r = r ≡ byte
