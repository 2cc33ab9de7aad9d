-- The reader of slices as its host meets it (document 02, Req 10): what its call promises.
use Rattle.std.specs.Prelude.{ℕ, List}
use Rattle.stream.specs.Slice.{Asked, Answers}
use Rattle.drives.specs.Rules.{rule}
use Rattle.drives.specs.Reader.{number, told, header}
use Rattle.drives.specs.declared.reader.Header.{Header}
use Rattle.drives.specs.declared.slice.Found.{Found}

-- nothing is known of the bytes before a place: an opening byte is looked for
abbrev pub known_at : List ℕ → ℕ → Unit {0}
known_at slice place = tt

abbrev pub shown : Found → Asked Header
shown r = record { number = number r.answer; told = told r.answer; place = r.place }

-- what `answer_at` promises, of slice, place, lent buffer, result and the buffer afterwards
abbrev pub IsAnswerAt : List ℕ → ℕ → List ℕ → Found → List ℕ → Type 0
IsAnswerAt = Answers rule known_at header (λ m. m.payload) shown
