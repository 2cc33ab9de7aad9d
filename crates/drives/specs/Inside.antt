-- What the inner functions promise. No public promise cites this file: it need not be read.
use Rattle.std.specs.Prelude.{ℕ, ◌+◌, ◌-◌, ◌/◌, ◌%◌, ◌≤◌, ◌<◌, ◌≡◌, true, List, [], ◌∷◌, length, take, drop, get_or, Option as Maybe, None, Some}
use Rattle.std.proofs.Math.Option.{Option, none, some}
use Rattle.stream.specs.Event.{Event, gives}
use Rattle.stream.specs.Event as Event
use Rattle.stream.specs.Call.{retold, delivered}
use Rattle.stream.specs.Pieces.{scan, scan_from}
use Rattle.stream.specs.Delivery as Delivery
use Rattle.stream.specs.Slice as Slice
use Rattle.drives.specs.Wire.{Message, eot, hex_digit}
use Rattle.drives.specs.Rules.{judge, rule}
use Rattle.drives.specs.Machine.{held_max, count_max, holding, inside, in_range, closed, next}
use Rattle.drives.specs.Reader.{told, header}
use Rattle.drives.specs.Slice.{shown}
use Rattle.drives.specs.declared.reader.Header.{Header}
use Rattle.drives.specs.declared.reader.Answer.{Answer}
use Rattle.drives.specs.declared.slice.Found.{Found}
use Rattle.drives.specs.declared.slice.Frame.{Frame}
use Rattle.drives.specs.declared.reader.Ran.{Ran}
use Rattle.drives.specs.declared.reader.Closed.{Closed}

-- `fill`: the bytes from i up to j are taken into the frame, whatever opened it, and the call goes on from there
pub record Filled (count : ℕ) (held piece : List ℕ) (i j : ℕ) (later : List ℕ) : Type 0 where
  pub forward : i ≤ j
  pub within : j ≤ length piece
  pub room : count + (j - i) ≤ held_max
  pub goes :
      (opening : ℕ) → (opening ≡ 0 → ⊥)
      → scan_from next (inside opening count held) piece i ≡ scan_from next (inside opening (count + (j - i)) later) piece j

-- the event that the end of a run is
abbrev pub event_of : Maybe Closed → List ℕ → Option (Event Message)
event_of None held = none
event_of (Some end) held = some (closed end.opening end.count held)

-- a count that was read is one that a reader counts
abbrev pub Fits : Maybe Closed → Type 0
Fits None = Unit {0}
Fits (Some end) = end.count ≤ count_max

-- `run_in`: the scan of the piece, which ends in a state in range
pub record Runs (stage count : ℕ) (held piece : List ℕ) (r : Ran) (later : List ℕ) : Type 0 where
  pub fits : Fits r.end
  pub ranged : in_range r.stage r.count ≡ true
  pub scanned :
      scan next (holding stage count held) piece
      ≡ record { state = holding r.stage r.count later; event = event_of r.end later; used = r.used }

-- `judge`: the answer tells the event
abbrev pub JudgedAs : Option (Event Message) → Answer → Type 0
JudgedAs event answer = told answer ≡ retold header (Event.outcome event)

-- `deliver`: a length that is told is one that a message has, and this is the lent buffer afterwards
abbrev pub Small : Answer → Type 0
Small answer = Delivery.Small (λ (h : Header). h.len) 37 (told answer)

-- and so many are there, behind station and letter
abbrev pub There : Answer → List ℕ → Type 0
There answer held = Delivery.Small (λ (h : Header). 3 + h.len) (length held) (told answer)

abbrev pub given : Answer → List ℕ → List ℕ → List ℕ
given answer = Delivery.given (λ (h : Header). h.len) 3 (told answer)

-- ---- in a slice

-- `frame_from`: the rule finds the frame that stands there, its characters being those between the two indices
pub record FoundThere (slice : List ℕ) (place : ℕ) (frame : Frame) : Type 0 where
  pub ahead : place ≤ frame.opening
  pub behind : frame.opening < frame.eot
  pub inside : frame.eot < length slice
  pub finds :
      rule tt (drop place slice)
      ≡ some (record { event = judge (get_or slice frame.opening 0) (take (frame.eot - (frame.opening + 1)) (drop (frame.opening + 1) slice)); used = frame.eot + 1 - place })

-- or none, where there is none
abbrev pub FrameFrom : List ℕ → ℕ → Maybe Frame → Type 0
FrameFrom slice place None = rule tt (drop place slice) ≡ none
FrameFrom slice place (Some frame) = FoundThere slice place frame

-- `read_frame`: the answer tells what the frame comes to, and this is the lent buffer afterwards
abbrev pub FrameRead : (opening : ℕ) → (came lent : List ℕ) → Answer → List ℕ → Type 0
FrameRead opening came lent answer later =
    JudgedAs (some (judge opening came)) answer × (later ≡ delivered (λ (m : Message). m.payload) (gives (judge opening came)) lent)

-- `answer_from`: what the rule finds from the place on, where slice, place and buffer are not refused
abbrev pub AnswerFrom : List ℕ → ℕ → List ℕ → Found → List ℕ → Type 0
AnswerFrom slice place lent r later =
    let a = Slice.answered place (length slice) (rule tt (drop place slice)) in
    (shown r ≡ Slice.retells header a) × (later ≡ delivered (λ (m : Message). m.payload) a.told lent)

-- `put_lead`: all that stands before the data
abbrev pub lead : ℕ → ℕ → ℕ → ℕ → List ℕ
lead opening first second letter = opening ∷ first ∷ second ∷ letter ∷ []

-- `put_end`: all that stands behind the data
abbrev pub ending : ℕ → List ℕ
ending sum = hex_digit (sum / 16) ∷ hex_digit (sum % 16) ∷ eot ∷ []
