-- Drives read byte by byte: what one byte does in any state, forged ones too.
use Rattle.std.specs.Prelude.{ℕ, min, ◌+◌, Bool, false, cond, List, take, set, replicate, eqb, ltb, leb}
use Rattle.std.proofs.Math.Option.{none, some}
use Rattle.stream.specs.Event.{Event}
use Rattle.stream.specs.Pieces.{Moved}
use Rattle.drives.specs.Wire.{Message, opens, eot}
use Rattle.drives.specs.Rules.{judged}
use Rattle.drives.specs.declared.reader.Reader.{Reader}
use Rattle.drives.specs.declared.reader.Move.{Move}
use Rattle.drives.specs.declared.reader.Move.TheVariants.{Skip, Open, Keep, Over, Close}

-- a reader holds the characters of the longest message: station, letter, data and sum
abbrev pub held_max : ℕ
held_max = 42

-- and counts so many: with opening byte and EOT that is 65,535
abbrev pub count_max : ℕ
count_max = 65533

-- a state by its stage, its count and its held bytes
abbrev pub holding : (stage count : ℕ) → List ℕ → Reader
holding stage count held = record { held = held; stage = stage; count = count }

-- stage 0: an opening byte is looked for
abbrev pub looking : List ℕ → Reader
looking held = holding 0 0 held

-- in a frame the stage is its opening byte: since that `count` characters have come, `count_max` standing for that or more. The first of them
-- stand at the front of `held`
abbrev pub inside : (opening count : ℕ) → List ℕ → Reader
inside opening count held = holding opening count held

abbrev pub fresh : Reader
fresh = looking (replicate held_max 0)

-- the range of each stage
unfoldable pub in_range : (stage count : ℕ) → Bool
in_range stage count = cond (eqb stage 0) (eqb count 0) (cond (opens stage) (leb count count_max) false)

-- what a byte b asks
unfoldable pub advance_of : (stage count b : ℕ) → Move
advance_of stage count b =
    cond (eqb stage 0) (cond (opens b) Open Skip)
    (cond (eqb b eot) Close (cond (ltb count held_max) Keep Over))

-- and what it does: what is left over in `held` stays there
abbrev pub on : Reader → Moved Reader (Event Message)
on s = record { state = s; event = none }

abbrev pub tells : Event Message → List ℕ → Moved Reader (Event Message)
tells e held = record { state = looking held; event = some e }

-- what the first `count` of the held bytes come to behind their opening byte
abbrev pub closed : (opening count : ℕ) → List ℕ → Event Message
closed opening count held = judged opening (count + 2) (take count held)

unfoldable pub moved : Move → Reader → ℕ → Moved Reader (Event Message)
moved Skip s b = on s
moved Open s b = on (inside b 0 s.held)
moved Keep s b = on (inside s.stage (s.count + 1) (set s.held s.count b))
moved Over s b = on (inside s.stage (min (s.count + 1) count_max) s.held)
moved Close s b = tells (closed s.stage s.count s.held) s.held

unfoldable pub next : Reader → ℕ → Moved Reader (Event Message)
next s b = moved (advance_of s.stage s.count b) s b
