-- Fronius read byte by byte: what one byte does in any state, forged ones too.
use Rattle.std.specs.Prelude.{ℕ, ◌+◌, Bool, false, cond, List, take, set, replicate, eqb, ltb, leb}
use Rattle.std.proofs.Math.Option.{none, some}
use Rattle.stream.specs.Event.{Event, damage}
use Rattle.stream.specs.Pieces.{Moved}
use Rattle.fronius.specs.Wire.{Message, payload_max, mark}
use Rattle.fronius.specs.Rules.{judged}
use Rattle.fronius.specs.declared.reader.Reader.{Reader}
use Rattle.fronius.specs.declared.reader.Move.{Move}
use Rattle.fronius.specs.declared.reader.Move.TheVariants.{Count, Open, Keep, Close, Bad}

abbrev pub holding : ℕ → ℕ → ℕ → List ℕ → Reader
holding stage count len held = record { held = held; stage = stage; count = count; len = len }

-- stage 0, the start: `count` successive 80 have come, 3 meaning that the length comes next
abbrev pub counting : ℕ → List ℕ → Reader
counting count held = holding 0 count 0 held

-- stage 1, the body: of 3 + len bytes `count` have come, and stand at the front of `held`
abbrev pub filling : ℕ → ℕ → List ℕ → Reader
filling count len held = holding 1 count len held

-- device, number, command and data: what a reader holds
abbrev pub held_max : ℕ
held_max = 3 + payload_max

abbrev pub fresh : Reader
fresh = counting 0 (replicate held_max 0)

-- the range of each stage; a field that the stage does not use is 0
unfoldable pub in_range : ℕ → ℕ → ℕ → Bool
in_range stage count len =
    cond (eqb stage 0) (cond (leb count 3) (eqb len 0) false)
    (cond (eqb stage 1) (cond (leb len payload_max) (leb count (3 + len)) false) false)

-- what a byte b asks
unfoldable pub advance_of : ℕ → ℕ → ℕ → ℕ → Move
advance_of stage count len b =
    cond (eqb stage 0)
    (cond (ltb count 3)
    (cond (eqb b mark) (Count (count + 1)) (Count 0))
    (cond (eqb b mark) (Count 3) (cond (ltb b mark) (Open b) Bad)))
    (cond (ltb count (3 + len)) Keep Close)

-- and what it does: what is left over in `held` stays there
abbrev pub on : Reader → Moved Reader (Event Message)
on s = record { state = s; event = none }

abbrev pub tells : Event Message → List ℕ → Moved Reader (Event Message)
tells e held = record { state = counting 0 held; event = some e }

unfoldable pub moved : Move → Reader → ℕ → Moved Reader (Event Message)
moved (Count n) s b = on (holding s.stage n s.len s.held)
moved (Open n) s b = on (filling 0 n s.held)
moved Keep s b = on (holding s.stage (s.count + 1) s.len (set s.held s.count b))
moved Close s b = tells (judged s.len (take (3 + s.len) s.held) b) s.held
moved Bad s b = tells (damage 7 4) s.held

unfoldable pub next : Reader → ℕ → Moved Reader (Event Message)
next s b = moved (advance_of s.stage s.count s.len b) s b
