-- The reader of slices as its host meets it.
use Rattle.std.specs.Prelude.{ℕ, ◌-◌, Bool, false, cond, List, get_or, eqb}
use Rattle.stream.specs.Slice.{Asked, Answers}
use Rattle.comlynx.specs.Wire.{flag}
use Rattle.comlynx.specs.Rules.{rule}
use Rattle.comlynx.specs.Reader.{number, told, header}
use Rattle.comlynx.specs.declared.reader.Header.{Header}
use Rattle.comlynx.specs.declared.slice.Found.{Found}

-- the flag counts as just seen if the byte before the place is 7E
abbrev pub known_at : List ℕ → ℕ → Bool
known_at slice place = cond (eqb place 0) false (eqb (get_or slice (place - 1) 0) flag)

abbrev pub shown : Found → Asked Header
shown r = record { number = number r.answer; told = told r.answer; place = r.place }

-- what `answer_at` promises, of slice, place, lent buffer, result and the buffer afterwards
abbrev pub IsAnswerAt : List ℕ → ℕ → List ℕ → Found → List ℕ → Type 0
IsAnswerAt = Answers rule known_at header (λ m. m.payload) shown
