-- For each public call of a value: two results that its promise allows are one.
-- Assumes nothing.
use Rattle.std.proofs.Common.{◌≡◌, ℕ, zero, suc, ◌≤◌, Bool, List, Some, None, Result, Ok, Err, ℤ, pos, refl, sym, ap, ◌∙◌, arith}
use Rattle.numbers.proofs.Alike.{alike_by_back}
use Rattle.answers.specs.Refusal as Refusal
use Rattle.answers.specs.declared.Refusal.{Refusal}
use Rattle.answers.proofs.NumbersHaveCases.{refusals, refusal_above}
use Rattle.fronius_meaning.specs.Measured as Measured
use Rattle.fronius_meaning.specs.Measured.{IsThousandths}
use Rattle.fronius_meaning.specs.Reading as Reading
use Rattle.fronius_meaning.specs.Reading.{IsReading}
use Rattle.fronius_meaning.specs.declared.reading.Reading.{Reading}

-- told alike is one: by the way back
pub measured_alike : (a b : Result ℤ Refusal) → Measured.told a ≡ Measured.told b → a ≡ b
measured_alike = alike_by_back Measured.told back there
  where
    back : Measured.Told → Result ℤ Refusal
    back (Measured.tells zero t) = Ok t
    back (Measured.tells (suc n) t) = Err (refusals.back (suc n))

    refused : (n : ℕ) → 8 ≤ n → back (Measured.tells n (pos 0)) ≡ Err (refusals.back n)
    refused zero h = absurd (omega arith)
    refused (suc n) h = refl

    there : (a : Result ℤ Refusal) → back (Measured.told a) ≡ a
    there (Ok t) = refl
    there (Err why) = refused (Refusal.number why) (refusal_above why) ∙ ap Err (refusals.case why)

pub read_alike : (a b : Result Reading Refusal) → Reading.told a ≡ Reading.told b → a ≡ b
read_alike = alike_by_back Reading.told back there
  where
    back : Reading.Told → Result Reading Refusal
    back (Reading.tells n (Some r)) = Ok r
    back (Reading.tells n None) = Err (refusals.back n)

    there : (a : Result Reading Refusal) → back (Reading.told a) ≡ a
    there (Ok r) = refl
    there (Err why) = ap Err (refusals.case why)

pub thousandths_one : (s : List ℕ) (signed : Bool) (a b : Result ℤ Refusal) → IsThousandths s signed a → IsThousandths s signed b → a ≡ b
thousandths_one s signed a b p q = measured_alike a b (p ∙ sym q)

pub reading_of_one : (device command : ℕ) (s : List ℕ) (a b : Result Reading Refusal) → IsReading device command s a → IsReading device command s b → a ≡ b
reading_of_one device command s a b p q = read_alike a b (p ∙ sym q)
