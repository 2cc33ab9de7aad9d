-- The refusals, 8 to 19, 21, 23 and 24.
use Rattle.std.specs.Prelude.{ℕ, ◌≡◌, replicate}
use Rattle.answers.specs.Answer.{Answer, answer}
use Rattle.answers.specs.declared.Refusal.{Refusal}
use Rattle.answers.specs.declared.Refusal.TheVariants.{TooLong, NoRoom, WrongMark, WrongVersion, WrongPortOrCount, BytesMissing, RosterFull, ExponentTooHigh, WrongAddressOrExponentTooLow, NotForThisCall, Spoilt, TooManyPackets, WrongCharacter, SliceTooLong, PlacePastEnd}

abbrev pub number : Refusal → ℕ
number TooLong = 8
number NoRoom = 9
number WrongMark = 10
number WrongVersion = 11
number WrongPortOrCount = 12
number BytesMissing = 13
number RosterFull = 14
number ExponentTooHigh = 15
number WrongAddressOrExponentTooLow = 16
number NotForThisCall = 17
number Spoilt = 18
number TooManyPackets = 19
number WrongCharacter = 21
number SliceTooLong = 23
number PlacePastEnd = 24

-- WHAT A CALL TELLS WITH A REFUSAL: its number, and nothing of what it would return else. `tells` puts the two together
abbrev pub refused_as : {A B : Type 0} → (ℕ → A → B) → A → Refusal → B
refused_as tells nothing why = tells (number why) nothing

-- every other number returned is 0: of a call that returns n others
abbrev pub refused : ℕ → Refusal → Answer
refused n = refused_as answer (replicate n 0)

-- what `Refusal::number` promises
abbrev pub IsRefusalNumber : Refusal → ℕ → Type 0
IsRefusalNumber why n = n ≡ number why
