-- Whether a message expects a reply: "Station 255 in a request expects no reply" (document 02, Req 04; 003, "Broadcasting").
use Rattle.std.specs.Prelude.{ℕ, ◌≡◌, Bool, cond, not, ◌&&◌, Result, Ok, Err, [], ◌∷◌, eqb}
use Rattle.answers.specs.Answer.{Answer, answer, need}
use Rattle.answers.specs.Refusal.{refused}
use Rattle.answers.specs.declared.Refusal.{Refusal}
use Rattle.answers.specs.declared.Refusal.TheVariants.{WrongCharacter}
use Rattle.drives.specs.Wire.{enq, opens, is_hex}
use Rattle.drives_meaning.specs.declared.Expected.{Expected}
use Rattle.drives_meaning.specs.declared.Expected.TheVariants.{Reply, NoReply}

-- station 255 is FF: every drive
abbrev pub every_drive : (first second : ℕ) → Bool
every_drive first second = eqb first 0x46 && eqb second 0x46

-- a request expects a reply, unless it is for every drive; a reply expects none
abbrev pub expects : (opening first second : ℕ) → Bool
expects opening first second = eqb opening enq && not (every_drive first second)

-- 1 where a reply is expected, else 0
abbrev pub told : Result Expected Refusal → Answer
told (Ok Reply) = answer 0 (1 ∷ [])
told (Ok NoReply) = answer 0 (0 ∷ [])
told (Err why) = refused 1 why

-- a character outside its set, the opening byte outside its own too, is 21
unfoldable pub expected : (opening first second : ℕ) → Answer
expected opening first second =
    need (opens opening && (is_hex first && is_hex second)) (refused 1 WrongCharacter)
    (answer 0 (cond (expects opening first second) 1 0 ∷ []))

-- what `reply_expected` promises
abbrev pub IsReplyExpected : (opening first second : ℕ) → Result Expected Refusal → Type 0
IsReplyExpected opening first second r = told r ≡ expected opening first second
