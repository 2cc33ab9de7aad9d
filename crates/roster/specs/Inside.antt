-- What the inner functions promise. No public promise cites these, so they need not be read.
use Rattle.std.specs.Prelude.{ℕ, suc, ◌+◌, ◌*◌, ◌≡◌, Bool, true, false, ◌&&◌, List, length, get_or, take, drop, set, ⊤, Option, Some, None, Result, Ok, Err}
use Rattle.answers.specs.Refusal.{refused}
use Rattle.answers.specs.declared.Refusal.{Refusal}
use Rattle.roster.specs.Roster.{serial_size, first, no_place, good, alone, spoilt, giving_sound, giving, finding}
use Rattle.roster.specs.Bytes.{place_size, places_of, bytes_of}
use Rattle.roster.specs.Calls.{Given, told_given}
use Rattle.roster.specs.declared.Place.{Place}

-- place k, where the bytes are
abbrev pub place_in : List ℕ → ℕ → Place
place_in bytes k = record { mark = get_or bytes (k * place_size) 0; serial = take serial_size (drop (k * place_size + 1) bytes) }

-- `place_sound`: all that is asked of place k with those behind it
abbrev pub sound_at : List ℕ → ℕ → Bool
sound_at bytes k = good (place_in bytes k) && alone (place_in bytes k) (drop (suc k) (places_of bytes))

-- the first place from one on that passes a test
abbrev pub FirstFrom : (Place → Bool) → List Place → ℕ → Option ℕ → Type 0
FirstFrom test ps from (Some k) = (no_place test (drop from ps) ≡ false) × (k ≡ from + first test (drop from ps))
FirstFrom test ps from None = no_place test (drop from ps) ≡ true

-- `usable`: the tests that giving and finding begin with, 18 and then 17
abbrev pub IsUsable : List ℕ → List ℕ → Result ⊤ Refusal → Type 0
IsUsable roster serial (Ok done) = (spoilt (places_of roster) ≡ false) × (length serial ≡ serial_size)
IsUsable roster serial (Err why) =
    (giving (places_of roster) serial ≡ (refused 1 why, places_of roster)) × (finding (places_of roster) serial ≡ refused 1 why)

-- `put`: one place is written
abbrev pub IsPut : List ℕ → ℕ → Place → List ℕ → Type 0
IsPut roster k p later = later ≡ bytes_of (set (places_of roster) k p)

-- `give_sound`
abbrev pub IsGivenSound : List ℕ → List ℕ → Given → List ℕ → Type 0
IsGivenSound roster serial r later =
    (told_given r ≡ (giving_sound (places_of roster) serial).0) × (later ≡ bytes_of (giving_sound (places_of roster) serial).1)
