-- What a writer tells and leaves: 0 and the length, with the bytes at the front of the lent buffer; or a refusal, and nothing written.
use Rattle.std.specs.Prelude.{ℕ, ◌≡◌, Bool, cond, List, [], ◌∷◌, ◌++◌, length, drop, ltb, Result, Ok, Err}
use Rattle.std.proofs.Math.Option.{Option, none, some}
use Rattle.answers.specs.Answer.{Answer, answer, number}
use Rattle.answers.specs.Refusal.{refused}
use Rattle.answers.specs.declared.Refusal.{Refusal}
use Rattle.answers.specs.declared.Refusal.TheVariants.{TooLong, NoRoom}

-- how many bytes stand at the front of the lent buffer, or why it is as it was
abbrev pub Written : Type 0
Written = Result ℕ Refusal

abbrev pub told : Written → Answer
told (Ok n) = answer 0 (n ∷ [])
told (Err why) = refused 1 why

-- the length, where something was written
abbrev pub length_of : Written → Option ℕ
length_of (Ok n) = some n
length_of (Err why) = none

-- the same as a number, 0 where nothing was
abbrev pub length_in : Written → ℕ
length_in (Ok n) = n
length_in (Err why) = 0

-- what `written_length` promises
abbrev pub IsLength : Written → ℕ → Type 0
IsLength w n = n ≡ length_in w

-- what `written_number` promises
abbrev pub IsWrittenNumber : Written → ℕ → Type 0
IsWrittenNumber w n = n ≡ number (told w)

-- WRITERS TEST 8, THEN 9 (room below the exact written length): what is told, and the lent buffer afterwards.
-- `too_long` says of the data whether they are too long to write; `frame` is what is to be written
unfoldable pub writing : Bool → List ℕ → List ℕ → Answer × List ℕ
writing too_long frame lent =
    cond too_long (refused 1 TooLong, lent)
    (cond (ltb (length lent) (length frame)) (refused 1 NoRoom, lent)
    (answer 0 (length frame ∷ []), frame ++ drop (length frame) lent))

-- what a writer promises of the lent buffer, its result and the buffer afterwards
abbrev pub Writes : Bool → List ℕ → List ℕ → Written → List ℕ → Type 0
Writes too_long frame lent w later = (told w ≡ (writing too_long frame lent).0) × (later ≡ (writing too_long frame lent).1)
