-- A measured value, in whole thousandths.
use Rattle.std.specs.Prelude.{ℕ, ◌+◌, ◌*◌, ◌^◌, ◌≡◌, Bool, true, false, not, cond, Result, Ok, Err, List, ltb, eqb, ℤ, pos, neg_ℤ, nat_abs, ◌+ℤ◌, ◌-ℤ◌, ◌*ℤ◌, length, get_or}
use Rattle.std.specs.Int.Signed.{lt_z}
use Rattle.answers.specs.Answer.{need}
use Rattle.answers.specs.Refusal.{refused_as}
use Rattle.answers.specs.declared.Refusal.{Refusal}
use Rattle.answers.specs.declared.Refusal.TheVariants.{ExponentTooHigh, WrongAddressOrExponentTooLow, NotForThisCall}
use Rattle.fronius_meaning.specs.declared.measured.Parts.{Parts}

-- A measured value is three data bytes: high, low, exponent.
abbrev pub word_of : List ℕ → ℕ
word_of s = get_or s 0 0 * 256 + get_or s 1 0

abbrev pub exponent_byte : List ℕ → ℕ
exponent_byte s = get_or s 2 0

-- a number of 0 to 2 * half - 1 as a signed one: from half on it is 2 * half less
abbrev pub signed_of : ℕ → ℕ → ℤ
signed_of half n = cond (ltb n half) (pos n) (pos n -ℤ pos (2 * half))

-- The value is signed or unsigned as the caller says,
abbrev pub value_of : Bool → ℕ → ℤ
value_of true word = signed_of 0x8000 word
value_of false word = pos word

-- the exponent always signed.
abbrev pub exponent_of : ℕ → ℤ
exponent_of byte = signed_of 0x80 byte

-- The result is value times ten to the exponent, given exactly as whole thousandths:
-- value times ten to the exponent + 3, which from -3 on is 0 or more.
abbrev pub tens_of : ℤ → ℕ
tens_of e = nat_abs (e +ℤ pos 3)

abbrev pub in_thousandths : ℤ → ℤ → ℤ
in_thousandths v e = v *ℤ pos (10 ^ tens_of e)

-- Exponent above 10: 15.
abbrev pub too_great : ℤ → Bool
too_great e = lt_z (pos 10) e

-- Below -3: 16.
abbrev pub too_small : ℤ → Bool
too_small e = lt_z e (neg_ℤ (pos 3))

-- Not three bytes: 17. The tests in their order, whatever is given when none of them refuses
abbrev pub tested : {A : Type 0} → List ℕ → (Refusal → A) → A → A
tested s refused given =
    let e = exponent_of (exponent_byte s) in
    need (eqb (length s) 3) (refused NotForThisCall)
    (need (not (too_great e)) (refused ExponentTooHigh)
    (need (not (too_small e)) (refused WrongAddressOrExponentTooLow)
    given))

-- the bytes of a measured value that none of the tests refuses
abbrev pub parts_of : List ℕ → Result Parts Refusal
parts_of s = tested s Err (Ok (record { word = word_of s; exponent = exponent_of (exponent_byte s) }))

-- the answer number and the thousandths; with a refusal 0 of them
pub data Told : Type 0 where
  tells : ℕ → ℤ → Told

abbrev pub told : Result ℤ Refusal → Told
told (Ok t) = tells 0 t
told (Err why) = refused_as tells (pos 0) why

unfoldable pub thousandths_of : List ℕ → Bool → Told
thousandths_of s signed =
    tested s (refused_as tells (pos 0)) (tells 0 (in_thousandths (value_of signed (word_of s)) (exponent_of (exponent_byte s))))

-- what `thousandths` promises
abbrev pub IsThousandths : List ℕ → Bool → Result ℤ Refusal → Type 0
IsThousandths s signed r = told r ≡ thousandths_of s signed
