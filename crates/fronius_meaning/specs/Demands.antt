-- What the numbers of a measured value and of a reading are (`negsuc n` is -(n + 1)).
use Rattle.std.specs.Prelude.{ℕ, suc, ◌+◌, ◌-◌, ◌*◌, ◌^◌, ◌<◌, ◌≤◌, ◌≡◌, false, Ok, List, ℤ, pos, negsuc, nat_abs, ◌*ℤ◌, get_or, ◌≤ℤ◌, T, Float}
use Rattle.std.specs.Float.{fin, binary64}
use Rattle.std.specs.Float.Ieee.{low, fits, round}
use Rattle.std.specs.Float.Ieee.Exact.{HasValue}
use Rattle.fronius_meaning.specs.Measured.{exponent_byte, exponent_of, in_thousandths, IsThousandths}
use Rattle.fronius_meaning.specs.Reading.{double_of, IsReading}
use Rattle.fronius_meaning.specs.declared.reading.Reading.{Reading}
use Rattle.fronius_meaning.specs.declared.reading.Reading.TheVariants.{Power, Energy, Voltage, Current, Frequency, Minutes, Money}

-- The thousandths are exact: value times ten to the exponent, a thousand times; for an exponent below 0 nothing is cut off.
abbrev pub ThousandthsExact : Type 0
ThousandthsExact =
    (v : ℤ)
    → ((e : ℕ) → in_thousandths v (pos e) ≡ v *ℤ pos (10 ^ e * 1_000))
    × ((n : ℕ) → n < 3 → in_thousandths v (negsuc n) *ℤ pos (10 ^ suc n) ≡ v *ℤ pos 1_000)

-- For exponents 0 to 10 the double is exact: `HasValue x false a c` says that x is finite, has no minus sign, and is a / c.
abbrev pub DoubleExact : Type 0
DoubleExact = (word e : ℕ) → word < 65_536 → e ≤ 10 → HasValue (double_of word (pos e)) false (word * 10 ^ e) 1

-- how far two numbers are apart
abbrev pub apart : ℕ → ℕ → ℕ
apart a b = (a - b) + (b - a)

-- Every double is a whole number of times the smallest one, 2 ^ -low: here those without a minus sign, m * 2 ^ e.
abbrev pub DoublesInUnits : Type 0
DoublesInUnits = (m : ℕ) (e : ℤ) → T (fits binary64 (fin false m e)) → (n : ℕ) × HasValue (fin false m e) false n (2 ^ low binary64)

-- In these units x is nearest to a / b: no other is nearer. Of two that are as near it is the one of IEEE's rule, `round`.
pub record Nearest (x : Float) (a b : ℕ) : Type 0 where
  pub rounded : x ≡ round binary64 false a b
  pub units : ℕ
  pub value : HasValue x false units (2 ^ low binary64)
  pub nearest : (y : Float) (others : ℕ) → T (fits binary64 y) → HasValue y false others (2 ^ low binary64)
      → apart (units * b) (a * 2 ^ low binary64) ≤ apart (others * b) (a * 2 ^ low binary64)

-- For -1 to -3 it is the double nearest to the quotient by 10, 100 or 1,000.
abbrev pub DoubleNearest : Type 0
DoubleNearest = (word n : ℕ) → word < 65_536 → n < 3 → Nearest (double_of word (negsuc n)) word (10 ^ suc n)

abbrev pub double_in : Reading → Float
double_in (Power x) = x
double_in (Energy x) = x
double_in (Voltage x) = x
double_in (Current x) = x
double_in (Frequency x) = x
double_in (Minutes x) = x
double_in (Money x) = x

-- Both calls speak of one number: of the same bytes, the reading is the unsigned thousandths over 1,000, rounded once,
-- and with an exponent of 0 or more exactly that.
abbrev pub OneNumber : Type 0
OneNumber =
    (device command : ℕ) (s : List ℕ) (r : Reading) (t : ℤ)
    → ((k : ℕ) → get_or s k 0 < 256)
    → IsReading device command s (Ok r)
    → IsThousandths s false (Ok t)
    → (double_in r ≡ round binary64 false (nat_abs t) 1_000)
    × (pos 0 ≤ℤ exponent_of (exponent_byte s) → HasValue (double_in r) false (nat_abs t) 1_000)
