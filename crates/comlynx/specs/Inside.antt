-- What the inner functions promise. No public promise cites this file: it need not be read.
use Rattle.std.specs.Prelude.{ℕ, min, ◌+◌, ◌-◌, ◌≤◌, ◌<◌, ◌≡◌, Bool, true, cond, ◌&&◌, ◌||◌, List, [], ◌∷◌, ◌++◌, length, take, drop, get_or, eqb, Option as Maybe, None, Some, Result, Ok, Err}
use Rattle.std.specs.Option.{unwrap_or}
use Rattle.std.proofs.Math.Option.{Option, none, some}
use Rattle.std.proofs.lemmas.List.Edits.{sets}
use Rattle.stream.specs.Event.{Event, damage, gives}
use Rattle.stream.specs.Event as Event
use Rattle.stream.specs.Call.{retold, delivered}
use Rattle.stream.specs.Pieces.{scan, scan_from}
use Rattle.stream.specs.Delivery as Delivery
use Rattle.stream.specs.Slice.{answered}
use Rattle.stream.specs.Slice as Slice
use Rattle.comlynx.specs.Wire.{Message, payload_max, flag, escape, flag_pair, escape_pair, stuffed, body_max}
use Rattle.comlynx.specs.Rules.{lost_max, judged, judge, within, rule}
use Rattle.comlynx.specs.Machine.{too_many, holding, inside, more, in_range, closed, next}
use Rattle.comlynx.specs.Reader.{told, header}
use Rattle.comlynx.specs.Slice.{known_at, shown}
use Rattle.comlynx.specs.declared.slice.Found.{Found}
use Rattle.comlynx.specs.declared.reader.Header.{Header}
use Rattle.comlynx.specs.declared.reader.Reader.{Reader}
use Rattle.comlynx.specs.declared.reader.Answer.{Answer}
use Rattle.comlynx.specs.declared.reader.Answer.TheVariants.{Message as Read, Damaged, Refused}
use Rattle.comlynx.specs.declared.reader.StepInPlace.{StepInPlace}
use Rattle.comlynx.specs.declared.reader.State.{State}
use Rattle.comlynx.specs.declared.reader.Ran.{Ran}
use Rattle.comlynx.specs.declared.reader.Closed.{Closed}
use Rattle.comlynx.specs.declared.reader.Closed.TheVariants.{Whole, Broken}
use Rattle.answers.specs.declared.Damage.{Damage}
use Rattle.answers.specs.declared.Refusal.{Refusal}

-- `fill`: the bytes from i up to j are taken into the stretch, and the call goes on from there
pub record Filled (count : ℕ) (held piece : List ℕ) (i j : ℕ) (later : List ℕ) : Type 0 where
  pub forward : i ≤ j
  pub within : j ≤ length piece
  pub room : count + (j - i) ≤ body_max
  pub goes :
      (came : ℕ) → came ≤ lost_max → scan_from next (inside came count held) piece i ≡ scan_from next (inside (more came (j - i)) (count + (j - i)) later) piece j

-- a state with the bytes held put to it
abbrev pub with_held : State → List ℕ → Reader
with_held s = holding s.stage s.came s.count

-- what a stretch comes to at the flag that closes it, and the event that the end of a run is
abbrev pub event_of : Closed → List ℕ → Event Message
event_of (Whole count came) held = closed came count held
event_of (Broken came) held = damage 2 came

abbrev pub event_at : Maybe Closed → List ℕ → Option (Event Message)
event_at None held = none
event_at (Some end) held = some (event_of end held)

-- `run_in`: the scan of the piece, which ends in a state in range
pub record Runs (s : State) (held piece : List ℕ) (r : Ran) (later : List ℕ) : Type 0 where
  pub ranged : in_range r.state.stage r.state.came r.state.count ≡ true
  pub scanned : scan next (with_held s held) piece ≡ record { state = with_held r.state later; event = event_at r.end later; used = r.used }

-- `refused`: the state as it was, and nothing used
abbrev pub refuses : State → Refusal → StepInPlace
refuses s why = record { stage = s.stage; came = s.came; count = s.count; answer = Refused why; used = 0 }

-- the last two of the first `count` held bytes are those that are due
abbrev pub due : ℕ → ℕ → ℕ → List ℕ → Bool
due count low high held = eqb (get_or held (count - 2) 0) low && eqb (get_or held (count - 1) 0) high

-- `judge`, `judge_closed` and `answer_to`: the answer tells the event
abbrev pub JudgedAs : Option (Event Message) → Answer → Type 0
JudgedAs event answer = told answer ≡ retold header (Event.outcome event)

abbrev pub Judges : (count came low high : ℕ) → List ℕ → Answer → Type 0
Judges count came low high held = JudgedAs (some (judged came count (due count low high held) (take count held)))

-- `judge_frame`: a header, or what is wrong: then all is lost, however much came
abbrev pub answer_of : ℕ → Result Header Damage → Answer
answer_of came (Ok h) = Read h
answer_of came (Err what) = Damaged what came

abbrev pub Finds : (count low high : ℕ) → List ℕ → Result Header Damage → Type 0
Finds count low high held r = (came : ℕ) → Judges count came low high held (answer_of came r)

-- `deliver`: a length that is told is one that a message has, header and data are there, and this is the lent buffer afterwards
abbrev pub Small : Answer → Type 0
Small answer = Delivery.Small (λ (h : Header). h.len) payload_max (told answer)

abbrev pub There : Answer → List ℕ → Type 0
There answer held = Delivery.Small (λ (h : Header). 8 + h.len) (length held) (told answer)

abbrev pub given : Answer → List ℕ → List ℕ → List ℕ
given answer = Delivery.given (λ (h : Header). h.len) 8 (told answer)

-- ---- the search for a byte

-- b is none of the bytes from `from` up to `to`
abbrev pub Absent : ℕ → List ℕ → ℕ → ℕ → Type 0
Absent b s from to = (k : ℕ) → from ≤ k → k < to → get_or s k 0 ≡ b → ⊥

-- `clear`: neither is a or b
abbrev pub Clear : (a b : ℕ) → List ℕ → ℕ → ℕ → Type 0
Clear a b s from to = Absent a s from to × Absent b s from to

-- passed over bytes that are not b
abbrev pub Searched : ℕ → List ℕ → ℕ → ℕ → Type 0
Searched b s from r = (from ≤ r) × (r ≤ length s) × Absent b s from r

-- `past_runs` and `past_half`: passed over bytes that are neither
abbrev pub Passed : (a b : ℕ) → List ℕ → ℕ → ℕ → Type 0
Passed a b s from r = (from ≤ r) × (r ≤ length s) × Clear a b s from r

-- `either_from`: and there one of them stands, if that is not the end
abbrev pub EitherAt : (a b : ℕ) → List ℕ → ℕ → ℕ → Type 0
EitherAt a b s from r = Passed a b s from r × (r < length s → eqb (get_or s r 0) a || eqb (get_or s r 0) b ≡ true)

-- `byte_from`: and there it stands
abbrev pub FirstAt : ℕ → List ℕ → ℕ → ℕ → Type 0
FirstAt b s from r = Searched b s from r × (r < length s → get_or s r 0 ≡ b)

-- ---- one whole stretch

-- so many bytes are held; `too_many` stands for none, where there was no room for all of them
abbrev pub held_count : Maybe ℕ → ℕ
held_count count = unwrap_or count too_many

-- they have room
abbrev pub Roomy : Maybe ℕ → Type 0
Roomy None = Unit {0}
Roomy (Some n) = n ≤ body_max

-- of the body u so many bytes are held
pub record Held (count : Maybe ℕ) (held u : List ℕ) : Type 0 where
  pub wide : length held ≡ body_max
  pub roomy : Roomy count
  pub counted : held_count count ≡ min (length u) too_many
  pub same : length u ≤ body_max → take (held_count count) held ≡ u

-- `keep_part`: whatever was held, these bytes are too
abbrev pub Keeps : Maybe ℕ → List ℕ → List ℕ → Maybe ℕ → List ℕ → Type 0
Keeps count held part r later = (u : List ℕ) → Held count held u → Held r later (u ++ part)

-- `pair_at`: the byte that the pair at this index stands for
abbrev pub pair_at : List ℕ → ℕ → Maybe ℕ
pair_at s at =
    let b = get_or s (at + 1) 0 in
    cond (eqb b flag_pair) (Some flag) (cond (eqb b escape_pair) (Some escape) None)

-- `unstuff`: the end tells what the stretch comes to
abbrev pub Unstuffs : List ℕ → Closed → List ℕ → Type 0
Unstuffs stretch end held = event_of end held ≡ judge stretch

-- `judge_stuffed` and `judge_plain`: what the stretch comes to is told and handed over
abbrev pub Settles : List ℕ → List ℕ → Answer → List ℕ → Type 0
Settles stretch lent r later = JudgedAs (some (judge stretch)) r × (later ≡ delivered (λ (m : Message). m.payload) (gives (judge stretch)) lent)

-- ---- a slice

-- `opened`: from there on a stretch is looked for
abbrev pub Opened : List ℕ → ℕ → ℕ → Type 0
Opened s place r = (place ≤ r) × (r ≤ length s) × (rule (known_at s place) (drop place s) ≡ within (r - place) [] (drop r s))

-- `past_flags`: from there on the same is found, and no flag stands there
abbrev pub PastFlags : List ℕ → ℕ → ℕ → Type 0
PastFlags s from r =
    (from ≤ r) × (r ≤ length s) × ((at : ℕ) → within at [] (drop from s) ≡ within (at + (r - from)) [] (drop r s))
    × (r < length s → get_or s r 0 ≡ flag → ⊥)

-- `answer_from`: what the rule finds from the place
abbrev pub AnswerFrom : List ℕ → ℕ → List ℕ → Found → List ℕ → Type 0
AnswerFrom slice place lent r later =
    let a = answered place (length slice) (rule (known_at slice place) (drop place slice)) in
    (shown r ≡ Slice.retells header a) × (later ≡ delivered (λ (m : Message). m.payload) a.told lent)

-- ---- the writer

-- `put` and `put_stuffed`: bytes are stored stuffed from `at` on, and the index after them is told
abbrev pub Stuffs : List ℕ → ℕ → List ℕ → ℕ → List ℕ → Type 0
Stuffs bytes at lent r later = (r ≡ at + length (stuffed bytes)) × (later ≡ sets lent at (stuffed bytes))

-- `put_frame`: flag, stuffed body, flag
abbrev pub framed : List ℕ → List ℕ → List ℕ → List ℕ
framed first payload last = flag ∷ (stuffed ((first ++ payload) ++ last) ++ (flag ∷ []))
