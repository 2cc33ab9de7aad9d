-- The reader of slices as its host meets it: what its answers tell, and what its call promises (document 02, Req 10).
use Rattle.std.specs.Prelude.{ℕ, List}
use Rattle.stream.specs.Slice.{Asked, Answers}
use Rattle.fronius.specs.Rules.{rule}
use Rattle.fronius.specs.Reader.{number, told, header}
use Rattle.fronius.specs.declared.reader.Header.{Header}
use Rattle.fronius.specs.declared.slice.Found.{Found}

-- nothing is known at a place of the bytes before it: 80s that stand there do not count
abbrev pub known_at : List ℕ → ℕ → Unit {0}
known_at slice place = tt

-- document 01's number of an answer, what it tells, and the place after it
abbrev pub shown : Found → Asked Header
shown r = record { number = number r.answer; told = told r.answer; place = r.place }

-- what `answer_at` promises, of slice, place, lent buffer, result and the buffer afterwards
abbrev pub IsAnswerAt : List ℕ → ℕ → List ℕ → Found → List ℕ → Type 0
IsAnswerAt = Answers rule known_at header (λ m. m.payload) shown
