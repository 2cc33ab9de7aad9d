-- For each public call: two results that its promise allows are one.
-- Assumes nothing.
use Rattle.std.proofs.Common.{◌≡◌, ℕ, List, [], ◌∷◌, Result, Ok, Err, get_or, refl, sym, ◌∙◌}
use Rattle.numbers.proofs.Alike.{alike_by_back}
use Rattle.answers.proofs.NumbersHaveCases.{heard, heard_refused}
use Rattle.answers.specs.declared.Refusal.{Refusal}
use Rattle.eversolar_meaning.specs.Told.{told}
use Rattle.eversolar_meaning.specs.Energy.{IsEnergy}
use Rattle.eversolar_meaning.specs.Waits.{IsWait}

told_alike : (a b : Result ℕ Refusal) → told a ≡ told b → a ≡ b
told_alike = alike_by_back told (heard done Err) there
  where
    done : List ℕ → Result ℕ Refusal
    done others = Ok (get_or others 0 0)

    there : (a : Result ℕ Refusal) → heard done Err (told a) ≡ a
    there (Ok n) = refl
    there (Err why) = heard_refused done Err (0 ∷ []) why

pub total_energy_one : (control function : ℕ) (payload : List ℕ) (a b : Result ℕ Refusal)
    → IsEnergy control function payload a → IsEnergy control function payload b → a ≡ b
total_energy_one control function payload a b x y = told_alike a b (x ∙ sym y)

pub wait_of_one : (serial attempt : ℕ) (a b : Result ℕ Refusal) → IsWait serial attempt a → IsWait serial attempt b → a ≡ b
wait_of_one serial attempt a b x y = told_alike a b (x ∙ sym y)
