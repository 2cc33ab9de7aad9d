-- Eversolar read byte by byte: what one byte does in any state, forged ones too.
use Rattle.std.specs.Prelude.{ℕ, ◌+◌, Bool, false, cond, ◌&&◌, List, take, drop, get_or, set, replicate, eqb, ltb, leb}
use Rattle.std.proofs.Math.Option.{none, some}
use Rattle.stream.specs.Event.{Event}
use Rattle.stream.specs.Pieces.{Moved}
use Rattle.eversolar_words.specs.Words.{word}
use Rattle.eversolar.specs.Wire.{Message, payload_max, first_mark, second_mark}
use Rattle.eversolar.specs.Rules.{judged}
use Rattle.eversolar.specs.declared.reader.Reader.{Reader}
use Rattle.eversolar.specs.declared.reader.Move.{Move}
use Rattle.eversolar.specs.declared.reader.Move.TheVariants.{Keep, Size, Close}

-- stages 0 and 1, looking for AA directly followed by 55: in stage 1 the byte before was AA
abbrev pub looking : ℕ → List ℕ → Reader
looking stage held = record { held = held; stage = stage; count = 0; len = 0 }

-- stages 2 and 3: since AA 55 `count` bytes have come, and stand at the front of `held`. In stage 2 the seventh, N, has not come;
-- in stage 3 it was `len`, and all bytes but the last are 8 + len
abbrev pub holding : ℕ → ℕ → ℕ → List ℕ → Reader
holding stage count len held = record { held = held; stage = stage; count = count; len = len }

-- six bytes, N, the data and the checksum's first byte: what a reader holds
abbrev pub held_max : ℕ
held_max = 8 + payload_max

abbrev pub fresh : Reader
fresh = looking 0 (replicate held_max 0)

-- the range of each stage; a field that the stage does not use is 0
unfoldable pub in_range : ℕ → ℕ → ℕ → Bool
in_range stage count len =
    cond (ltb stage 2) (cond (eqb count 0) (eqb len 0) false)
    (cond (eqb stage 2) (cond (leb count 6) (eqb len 0) false)
    (cond (eqb stage 3) (cond (leb len payload_max) (cond (leb 7 count) (leb count (8 + len)) false) false) false))

-- looking: the stage after a byte b
unfoldable pub looked_of : ℕ → ℕ → ℕ
looked_of stage b = cond (eqb stage 1 && eqb b second_mark) 2 (cond (eqb b first_mark) 1 0)

-- how many bytes are kept before the one that tells N, or the last
unfoldable pub most : ℕ → ℕ → ℕ
most stage len = cond (eqb stage 2) 6 (8 + len)

-- what a byte asks since AA 55
unfoldable pub advance_of : ℕ → ℕ → ℕ → Move
advance_of stage count len = cond (ltb count (most stage len)) Keep (cond (eqb stage 2) Size Close)

-- and what it does: what is left over in `held` stays there. N is the state's `len` alone
abbrev pub on : Reader → Moved Reader (Event Message)
on s = record { state = s; event = none }

abbrev pub tells : Event Message → List ℕ → Moved Reader (Event Message)
tells e held = record { state = looking 0 held; event = some e }

unfoldable pub moved : Move → Reader → ℕ → Moved Reader (Event Message)
moved Keep s b = on (holding s.stage (s.count + 1) s.len (set s.held s.count b))
moved Size s b = on (holding 3 7 b (set s.held 6 b))
moved Close s b =
    tells (judged (take 6 s.held) s.len (take s.len (drop 7 s.held)) (word (get_or s.held (7 + s.len) 0) b)) s.held

unfoldable pub next : Reader → ℕ → Moved Reader (Event Message)
next s b =
    cond (ltb s.stage 2) (on (holding (looked_of s.stage b) s.count s.len s.held))
    (moved (advance_of s.stage s.count s.len) s b)
