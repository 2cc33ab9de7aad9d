-- The waits after a register conflict, in intervals between the master's off-line queries (001, 1.2).
use Rattle.std.specs.Prelude.{ℕ, zero, suc, ◌/◌, ◌%◌, ◌-◌, ◌≡◌, ◌&&◌, Result, [], ◌∷◌, leb}
use Rattle.answers.specs.Answer.{Answer, answer, need}
use Rattle.answers.specs.Refusal.{refused}
use Rattle.answers.specs.declared.Refusal.{Refusal}
use Rattle.answers.specs.declared.Refusal.TheVariants.{NotForThisCall}
use Rattle.eversolar_meaning.specs.Told.{told}

-- the wait of attempt n + 1: attempt 1 waits 0; each later attempt waits the remainder by 15 of what is left,
-- and leaves the quotient by 15 to the attempt after it
unfoldable pub wait_at : ℕ → ℕ → ℕ
wait_at left zero = 0
wait_at left (suc zero) = left % 15
wait_at left (suc (suc n)) = wait_at (left / 15) (suc n)

-- attempts 1 to 4, else 17
unfoldable pub wait_of : ℕ → ℕ → Answer
wait_of serial attempt =
    need (leb 1 attempt && leb attempt 4) (refused 1 NotForThisCall)
    (answer 0 (wait_at serial (attempt - 1) ∷ []))

-- what `wait_of` promises of the serial number, the attempt and its result
abbrev pub IsWait : ℕ → ℕ → Result ℕ Refusal → Type 0
IsWait serial attempt r = told r ≡ wait_of serial attempt
