-- What a call tells that returns one number.
use Rattle.std.specs.Prelude.{ℕ, Result, Ok, Err, [], ◌∷◌}
use Rattle.answers.specs.Answer.{Answer, answer}
use Rattle.answers.specs.Refusal.{refused}
use Rattle.answers.specs.declared.Refusal.{Refusal}

abbrev pub told : Result ℕ Refusal → Answer
told (Ok n) = answer 0 (n ∷ [])
told (Err why) = refused 1 why
