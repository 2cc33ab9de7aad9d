-- What the inner functions promise. No public promise cites these, so they need not be read.
use Rattle.std.specs.Prelude.{ℕ, ◌≡◌, true, List, length, Result, Ok, Err}
use Rattle.answers.specs.declared.Refusal.{Refusal}
use Rattle.answers.specs.declared.Refusal.TheVariants.{Spoilt}
use Rattle.roster.specs.Roster.{spoilt}
use Rattle.roster.specs.Bytes.{roster_size, places_of}
use Rattle.roster.specs.declared.Place.{Place}

-- `gather`: bytes that hold these places, where there are 254; with another number they are spoilt
abbrev pub IsGathered : List Place → Result (List ℕ) Refusal → Type 0
IsGathered ps (Ok all) = (length all ≡ roster_size) × (places_of all ≡ ps)
IsGathered ps (Err why) = (why ≡ Spoilt) × (spoilt ps ≡ true)
