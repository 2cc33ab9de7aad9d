-- ComLynx read byte by byte: what one byte does in any state, forged ones too.
use Rattle.std.specs.Prelude.{ℕ, min, ◌+◌, Bool, false, cond, ◌&&◌, List, take, set, replicate, eqb, ltb, leb}
use Rattle.std.proofs.Math.Option.{none, some}
use Rattle.comlynx_checksum.specs.Checksum.{agrees}
use Rattle.stream.specs.Event.{Event, damage}
use Rattle.stream.specs.Pieces.{Moved}
use Rattle.comlynx.specs.Wire.{Message, body_max, flag, escape, flag_pair, escape_pair}
use Rattle.comlynx.specs.Rules.{lost_max, judged}
use Rattle.comlynx.specs.declared.reader.Reader.{Reader}
use Rattle.comlynx.specs.declared.reader.Move.{Move}
use Rattle.comlynx.specs.declared.reader.Move.TheVariants.{Skip, Open, Mark, Spoil, Keep, Over, Close, Fail}

-- a reader holds as many bytes as a body may have; this count means that there were more
abbrev pub too_many : ℕ
too_many = body_max + 1

-- a state by its stage, the bytes that have come since the flag, its count and its held bytes
abbrev pub holding : (stage came count : ℕ) → List ℕ → Reader
holding stage came count held = record { held = held; stage = stage; came = came; count = count }

-- stage 0: before the first flag
abbrev pub waiting : List ℕ → Reader
waiting held = holding 0 0 0 held

-- stage 1, in a stretch: `came` bytes of it have come as they were sent, `lost_max` standing for that or more. Its first `count` unstuffed bytes
-- stand at the front of `held`; `too_many` where they are more than it holds
abbrev pub inside : (came count : ℕ) → List ℕ → Reader
inside came count held = holding 1 came count held

-- stage 2: after its 7D
abbrev pub escaped : (came count : ℕ) → List ℕ → Reader
escaped came count held = holding 2 came count held

-- stage 3: in a stretch with a broken pair
abbrev pub broken : (came count : ℕ) → List ℕ → Reader
broken came count held = holding 3 came count held

-- n bytes more have come
abbrev pub more : (came n : ℕ) → ℕ
more came n = min (came + n) lost_max

abbrev pub fresh : Reader
fresh = waiting (replicate body_max 0)

-- the range of each stage
unfoldable pub in_range : (stage came count : ℕ) → Bool
in_range stage came count =
    cond (eqb stage 0) (eqb came 0 && eqb count 0) (cond (leb stage 3) (leb came lost_max && leb count too_many) false)

-- what a byte b asks; v is the byte that it stands for
unfoldable pub keep_of : ℕ → ℕ → Move
keep_of count v = cond (ltb count body_max) (Keep v) Over

unfoldable pub advance_of : ℕ → ℕ → ℕ → Move
advance_of stage count b =
    cond (eqb stage 0) (cond (eqb b flag) Open Skip)
    (cond (eqb stage 1)
    (cond (eqb b flag) (cond (eqb count 0) Open Close) (cond (eqb b escape) Mark (keep_of count b)))
    (cond (eqb stage 2)
    (cond (eqb b flag) Fail (cond (eqb b flag_pair) (keep_of count flag) (cond (eqb b escape_pair) (keep_of count escape) Spoil)))
    (cond (eqb b flag) Fail Spoil)))

-- and what it does: what is left over in `held` stays there; the flag that settles an event opens the next stretch
abbrev pub on : Reader → Moved Reader (Event Message)
on s = record { state = s; event = none }

abbrev pub tells : Event Message → List ℕ → Moved Reader (Event Message)
tells e held = record { state = inside 0 0 held; event = some e }

-- what the first `count` of the held bytes come to, for which `came` came
abbrev pub closed : (came count : ℕ) → List ℕ → Event Message
closed came count held = judged came count (agrees (take count held)) (take count held)

unfoldable pub moved : Move → Reader → Moved Reader (Event Message)
moved Skip s = on s
moved Open s = on (inside 0 0 s.held)
moved Mark s = on (escaped (more s.came 1) s.count s.held)
moved Spoil s = on (broken (more s.came 1) s.count s.held)
moved (Keep v) s = on (inside (more s.came 1) (s.count + 1) (set s.held s.count v))
moved Over s = on (inside (more s.came 1) too_many s.held)
moved Close s = tells (closed s.came s.count s.held) s.held
moved Fail s = tells (damage 2 s.came) s.held

unfoldable pub next : Reader → ℕ → Moved Reader (Event Message)
next s b = moved (advance_of s.stage s.count b) s
