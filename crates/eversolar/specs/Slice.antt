-- The reader of a whole slice as its host meets it: what its answers show, and what its call promises.
use Rattle.std.specs.Prelude.{ℕ, List}
use Rattle.stream.specs.Slice.{Asked, Answers}
use Rattle.eversolar.specs.Rules.{rule}
use Rattle.eversolar.specs.Reader.{number, told, header}
use Rattle.eversolar.specs.declared.reader.Header.{Header}
use Rattle.eversolar.specs.declared.slice.Found.{Found}

-- at no place is anything known of the bytes before it: an AA there does not count
abbrev pub known_at : List ℕ → ℕ → Unit {0}
known_at slice place = tt

abbrev pub shown : Found → Asked Header
shown r = record { number = number r.answer; told = told r.answer; place = r.place }

-- what `answer_at` promises, of slice, place, lent buffer, result and the buffer afterwards
abbrev pub IsAnswerAt : List ℕ → ℕ → List ℕ → Found → List ℕ → Type 0
IsAnswerAt = Answers rule known_at header (λ m. m.payload) shown
