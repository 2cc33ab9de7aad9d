-- What the inner functions promise. No public promise cites this file: it need not be read.
use Rattle.std.specs.Prelude.{ℕ, ◌+◌, ◌-◌, ◌≤◌, ◌<◌, ◌≡◌, true, List, [], ◌∷◌, length, take, drop, get_or}
use Rattle.std.proofs.Math.Option.{Option, none, some}
use Rattle.stream.specs.Event.{Event, damage}
use Rattle.stream.specs.Event as Event
use Rattle.stream.specs.Call.{retold, delivered}
use Rattle.stream.specs.Pieces.{scan, scan_from}
use Rattle.stream.specs.Delivery as Delivery
use Rattle.stream.specs.Rule.{Settled}
use Rattle.stream.specs.Slice.{answered, retells}
use Rattle.fronius.specs.Wire.{Message, payload_max, mark}
use Rattle.fronius.specs.Rules.{judged, sized, sought}
use Rattle.fronius.specs.Machine.{holding, filling, in_range, next}
use Rattle.fronius.specs.Reader.{told, header}
use Rattle.fronius.specs.Slice.{shown}
use Rattle.fronius.specs.declared.reader.Header.{Header}
use Rattle.fronius.specs.declared.reader.Answer.{Answer}
use Rattle.fronius.specs.declared.reader.Answer.TheVariants.{Done}
use Rattle.fronius.specs.declared.reader.Reader.{Reader}
use Rattle.fronius.specs.declared.reader.State.{State}
use Rattle.fronius.specs.declared.reader.Entered.{Entered}
use Rattle.fronius.specs.declared.reader.Ran.{Ran}
use Rattle.fronius.specs.declared.reader.End.{End}
use Rattle.fronius.specs.declared.reader.End.TheVariants.{UsedUp, Closed, BadLength}
use Rattle.fronius.specs.declared.slice.Found.{Found}

-- `fill`: the bytes from i up to j are taken into the body, and the call goes on from there
pub record Filled (count len : ℕ) (held piece : List ℕ) (i j : ℕ) (later : List ℕ) : Type 0 where
  pub forward : i ≤ j
  pub within : j ≤ length piece
  pub room : count + (j - i) ≤ 3 + len
  pub goes : scan_from next (filling count len held) piece i ≡ scan_from next (filling (count + (j - i)) len later) piece j

-- `opens`: a start is looked for, and three marks and a length stand at the front
abbrev pub Opens : ℕ → List ℕ → Type 0
Opens stage piece =
    (stage ≡ 0) × (4 ≤ length piece) × (get_or piece 0 0 ≡ mark) × (get_or piece 1 0 ≡ mark) × (get_or piece 2 0 ≡ mark) × (get_or piece 3 0 < mark)

-- a state with the bytes held put to it
abbrev pub with_held : State → List ℕ → Reader
with_held s = holding s.stage s.count s.len

-- `enter`: the call goes on from there, in a state in range
pub record Enters (s : State) (held piece : List ℕ) (r : Entered) (later : List ℕ) : Type 0 where
  pub within : r.at ≤ length piece
  pub ranged : in_range r.state.stage r.state.count r.state.len ≡ true
  pub goes : scan_from next (with_held r.state later) piece r.at ≡ scan next (with_held s held) piece

-- the event that a frame is, by its length, the checksum that came and the held bytes
abbrev pub judged_frame : ℕ → ℕ → List ℕ → Option (Event Message)
judged_frame len sum held = some (judged len (take (3 + len) held) sum)

-- the event that the end of a run is
abbrev pub event_of : End → List ℕ → Option (Event Message)
event_of UsedUp held = none
event_of (Closed len sum) held = judged_frame len sum held
event_of BadLength held = some (damage 7 4)

-- a length that was read is one that a message has
abbrev pub Fits : End → Type 0
Fits UsedUp = Unit {0}
Fits (Closed len sum) = len ≤ payload_max
Fits BadLength = Unit {0}

-- `run_in`: the scan of the piece, which ends in a state in range
pub record Runs (s : State) (held piece : List ℕ) (r : Ran) (later : List ℕ) : Type 0 where
  pub fits : Fits r.end
  pub ranged : in_range r.state.stage r.state.count r.state.len ≡ true
  pub scanned : scan next (with_held s held) piece ≡ record { state = with_held r.state later; event = event_of r.end later; used = r.used }

-- `judge`: the answer tells the event
abbrev pub JudgedAs : Option (Event Message) → Answer → Type 0
JudgedAs event answer = told answer ≡ retold header (Event.outcome event)

-- `deliver`: a length that is told is one that a message has, header and data are held, and this is the lent buffer afterwards
abbrev pub Small : Answer → Type 0
Small answer = Delivery.Small (λ (h : Header). h.len) payload_max (told answer)

abbrev pub There : Answer → List ℕ → Type 0
There answer held = Delivery.Small (λ (h : Header). 3 + h.len) (length held) (told answer)

abbrev pub given : Answer → List ℕ → List ℕ → List ℕ
given answer = Delivery.given (λ (h : Header). h.len) 3 (told answer)

-- `put_lead`: all that stands before the data
abbrev pub lead : ℕ → ℕ → ℕ → ℕ → List ℕ
lead len device number command = mark ∷ mark ∷ mark ∷ len ∷ device ∷ number ∷ command ∷ []

-- ---- the reader of slices

-- `start_from`: what the search for a start finds from `from` on stands behind the three bytes at r; at the end of the slice that is nothing
pub record StartFrom (slice : List ℕ) (from r : ℕ) : Type 0 where
  pub forward : from ≤ r
  pub within : r ≤ length slice
  pub found : sought 0 (drop from slice) ≡ sized (r - from + 3) (drop (r + 3) slice)

-- `past_marks`: 80s where a length comes are passed over, and at r there is none
pub record PastMarks (slice : List ℕ) (from r : ℕ) : Type 0 where
  pub forward : from ≤ r
  pub other : get_or slice r 0 ≡ mark → ⊥
  pub found : (at : ℕ) → sized at (drop from slice) ≡ sized (at + (r - from)) (drop r slice)

-- `used_up`: nothing is told, and the place is the end
abbrev pub IsUsedUp : List ℕ → Found → Type 0
IsUsedUp slice r = r ≡ record { answer = Done; place = length slice }

-- what was found from a place on is answered, and delivered
abbrev pub Answered : List ℕ → ℕ → List ℕ → Option (Settled (Event Message)) → Found → List ℕ → Type 0
Answered slice place lent o r later =
    let a = answered place (length slice) o in
    (shown r ≡ retells header a) × (later ≡ delivered (λ (m : Message). m.payload) a.told lent)

-- `frame_at`: what is found from a length at k on, wherever the search for it began
abbrev pub FrameAt : List ℕ → ℕ → List ℕ → Found → List ℕ → Type 0
FrameAt slice k lent r later = (place : ℕ) → place ≤ k → Answered slice place lent (sized (k - place) (drop k slice)) r later

-- `answer_from`: what is found from the place on
abbrev pub AnswerFrom : List ℕ → ℕ → List ℕ → Found → List ℕ → Type 0
AnswerFrom slice place lent = Answered slice place lent (sought 0 (drop place slice))
