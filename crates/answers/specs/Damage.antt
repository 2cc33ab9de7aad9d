-- The damages, 2 to 7 and 21.
use Rattle.std.specs.Prelude.{ℕ, ◌≡◌}
use Rattle.answers.specs.declared.Damage.{Damage}
use Rattle.answers.specs.declared.Damage.TheVariants.{BrokenPair, WrongBodyLength, WrongStart, WrongSize, WrongSum, WrongLengthByte, WrongCharacter}

abbrev pub number : Damage → ℕ
number BrokenPair = 2
number WrongBodyLength = 3
number WrongStart = 4
number WrongSize = 5
number WrongSum = 6
number WrongLengthByte = 7
number WrongCharacter = 21

-- what `Damage::number` promises
abbrev pub IsDamageNumber : Damage → ℕ → Type 0
IsDamageNumber what n = n ≡ number what
