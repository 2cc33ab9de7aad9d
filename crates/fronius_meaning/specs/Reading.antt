-- A reading: what its command asks for, as a double.
use Rattle.std.specs.Prelude.{ℕ, suc, ◌*◌, ◌^◌, ◌≡◌, Bool, true, false, cond, ◌||◌, ◌&&◌, Option, Some, None, Result, Ok, Err, List, leb, eqb, ℤ, pos, negsuc, Float}
use Rattle.std.specs.Float.{binary64}
use Rattle.std.specs.Float.Ieee.{of_int, div}
use Rattle.answers.specs.Answer.{need}
use Rattle.answers.specs.Refusal.{refused_as}
use Rattle.answers.specs.declared.Refusal.{Refusal}
use Rattle.answers.specs.declared.Refusal.TheVariants.{NotForThisCall}
use Rattle.fronius_meaning.specs.Measured.{word_of, exponent_byte, exponent_of, tested}
use Rattle.fronius_meaning.specs.declared.reading.Reading.{Reading}
use Rattle.fronius_meaning.specs.declared.reading.Reading.TheVariants.{Power, Energy, Voltage, Current, Frequency, Minutes, Money}
use Rattle.fronius_meaning.specs.declared.reading.Kind.{Kind}

-- 11 to 13: both are in it
abbrev pub within : ℕ → ℕ → ℕ → Bool
within first last c = leb first c && leb c last

-- W: 10, 1A, 20
abbrev pub is_power : ℕ → Bool
is_power c = eqb c 0x10 || eqb c 0x1A || eqb c 0x20

-- kWh: 11 to 13
abbrev pub is_energy : ℕ → Bool
is_energy c = within 0x11 0x13 c

-- A: 14, 17, 2B to 2D
abbrev pub is_current : ℕ → Bool
is_current c = eqb c 0x14 || eqb c 0x17 || within 0x2B 0x2D c

-- V: 15, 18, 1B to 1D, 21 to 23, 2E
abbrev pub is_voltage : ℕ → Bool
is_voltage c = eqb c 0x15 || eqb c 0x18 || within 0x1B 0x1D c || within 0x21 0x23 c || eqb c 0x2E

-- Hz: 16
abbrev pub is_frequency : ℕ → Bool
is_frequency c = eqb c 0x16

-- Minutes: 1E, 24
abbrev pub is_minutes : ℕ → Bool
is_minutes c = eqb c 0x1E || eqb c 0x24

-- Money: 19, 1F
abbrev pub is_money : ℕ → Bool
is_money c = eqb c 0x19 || eqb c 0x1F

-- By its command a reading is one of these, and carries a double; another command is none's.
unfoldable pub kind_of : ℕ → Option (Float → Reading)
kind_of c =
    cond (is_power c) (Some Power)
    (cond (is_energy c) (Some Energy)
    (cond (is_current c) (Some Current)
    (cond (is_voltage c) (Some Voltage)
    (cond (is_frequency c) (Some Frequency)
    (cond (is_minutes c) (Some Minutes)
    (cond (is_money c) (Some Money)
    None))))))

-- the code's names of the kinds, each as what it makes of a double
abbrev pub maker : Kind → Float → Reading
maker Kind.Power = Power
maker Kind.Energy = Energy
maker Kind.Voltage = Voltage
maker Kind.Current = Current
maker Kind.Frequency = Frequency
maker Kind.Minutes = Minutes
maker Kind.Money = Money

abbrev pub makers : Option Kind → Option (Float → Reading)
makers None = None
makers (Some kind) = Some (maker kind)

-- whether there is one, and the reading that carries x
abbrev pub is_kind : Option (Float → Reading) → Bool
is_kind None = false
is_kind (Some kind) = true

abbrev pub carried : Option (Float → Reading) → Float → Option Reading
carried None x = None
carried (Some kind) x = Some (kind x)

-- All unsigned. For exponents 0 to 10 the double is exact; for -1 to -3 it is one division of the two-byte value by 10, 100 or 1,000
-- (`negsuc n` is -(n + 1)).
abbrev pub double_of : ℕ → ℤ → Float
double_of word (pos e) = of_int binary64 (pos (word * 10 ^ e))
double_of word (negsuc n) = div binary64 (of_int binary64 (pos word)) (of_int binary64 (pos (10 ^ suc n)))

-- the answer number and the reading; with a refusal none
pub data Told : Type 0 where
  tells : ℕ → Option Reading → Told

abbrev pub told : Result Reading Refusal → Told
told (Ok r) = tells 0 (Some r)
told (Err why) = refused_as tells None why

-- Another command, or a device other than 01, is 17. Tests: 17, then 15 or 16.
unfoldable pub reading_of : ℕ → ℕ → List ℕ → Told
unfolding kind_of
reading_of device command s =
    let kind = kind_of command in
    need (eqb device 1 && is_kind kind) (refused_as tells None NotForThisCall)
    (tested s (refused_as tells None) (tells 0 (carried kind (double_of (word_of s) (exponent_of (exponent_byte s))))))

-- what `reading_of` promises
abbrev pub IsReading : ℕ → ℕ → List ℕ → Result Reading Refusal → Type 0
IsReading device command s r = told r ≡ reading_of device command s
