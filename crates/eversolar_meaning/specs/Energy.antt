-- The total energy of a reply 11/90.
use Rattle.std.specs.Prelude.{ℕ, ◌+◌, ◌*◌, ◌≡◌, ◌&&◌, Result, List, [], ◌∷◌, length, get_or, eqb, leb}
use Rattle.answers.specs.Answer.{Answer, answer, need}
use Rattle.answers.specs.Refusal.{refused}
use Rattle.answers.specs.declared.Refusal.{Refusal}
use Rattle.answers.specs.declared.Refusal.TheVariants.{NotForThisCall}
use Rattle.eversolar_words.specs.Words.{word}
use Rattle.eversolar_meaning.specs.Told.{told}

-- item k is the word at data bytes 2k and 2k + 1
unfoldable pub item : List ℕ → ℕ → ℕ
item payload k = word (get_or payload (2 * k) 0) (get_or payload (2 * k + 1) 0)

-- item 20 times 65,536 plus item 21, in tenths of a kWh. Another control or function, or fewer than 44 data bytes: 17
unfoldable pub energy_of : ℕ → ℕ → List ℕ → Answer
energy_of control function payload =
    need (eqb control 0x11 && eqb function 0x90 && leb 44 (length payload)) (refused 1 NotForThisCall)
    (answer 0 ((65536 * item payload 20 + item payload 21) ∷ []))

-- what `total_energy` promises of control, function, data and its result
abbrev pub IsEnergy : ℕ → ℕ → List ℕ → Result ℕ Refusal → Type 0
IsEnergy control function payload r = told r ≡ energy_of control function payload
