-- What the inner functions promise. No public promise cites this file: it need not be read.
use Rattle.std.specs.Prelude.{ℕ, ◌+◌, ◌-◌, ◌≤◌, ◌<◌, ◌≡◌, Bool, true, List, length, take, drop, get_or, leb, Option as Maybe, None, Some, Result, Ok, Err}
use Rattle.std.proofs.Math.Option.{Option, none, some}
use Rattle.stream.specs.Event.{Event}
use Rattle.stream.specs.Event as Event
use Rattle.stream.specs.Call.{retold, delivered}
use Rattle.stream.specs.Pieces.{scan, scan_from}
use Rattle.stream.specs.Delivery as Delivery
use Rattle.eversolar_words.specs.Words.{word}
use Rattle.eversolar.specs.Wire.{Message, payload_max}
use Rattle.eversolar.specs.Rules.{judged, frame, sought}
use Rattle.eversolar.specs.Machine.{holding, in_range, most, next}
use Rattle.eversolar.specs.Reader.{told, header}
use Rattle.eversolar.specs.declared.reader.Header.{Header}
use Rattle.eversolar.specs.declared.reader.Answer.{Answer}
use Rattle.eversolar.specs.declared.reader.Ran.{Ran}
use Rattle.eversolar.specs.declared.reader.Closed.{Closed}

-- `hunt`: the call goes on behind AA 55, in the lead; or there is none up to the end of the piece
abbrev pub Hunted : ℕ → List ℕ → ℕ → Result ℕ ℕ → Type 0
Hunted stage piece i (Ok j) =
    (i < j) × (j ≤ length piece) × ((count len : ℕ) (held : List ℕ) → scan_from next (holding stage count len held) piece i ≡ scan_from next (holding 2 count len held) piece j)
Hunted stage piece i (Err later) =
    (later < 2)
    × ((count len : ℕ) (held : List ℕ) → scan_from next (holding stage count len held) piece i ≡ scan_from next (holding later count len held) piece (length piece))

-- `fill`: the bytes from i up to j, one at least, are kept, and the call goes on from there
pub record Filled (stage count len : ℕ) (held piece : List ℕ) (i j : ℕ) (later : List ℕ) : Type 0 where
  pub forward : i < j
  pub within : j ≤ length piece
  pub room : count + (j - i) ≤ most stage len
  pub goes : scan_from next (holding stage count len held) piece i ≡ scan_from next (holding stage (count + (j - i)) len later) piece j

-- the event that a frame is, by its length, the last byte of its checksum and the held bytes
abbrev pub judged_frame : ℕ → ℕ → List ℕ → Option (Event Message)
judged_frame len last held = some (judged (take 6 held) len (take len (drop 7 held)) (word (get_or held (7 + len) 0) last))

-- the event that the end of a run is
abbrev pub event_of : Maybe Closed → List ℕ → Option (Event Message)
event_of None held = none
event_of (Some closed) held = judged_frame closed.len closed.last held

-- a length that was read is one that a message has
abbrev pub Fits : Maybe Closed → Type 0
Fits None = Unit {0}
Fits (Some closed) = closed.len ≤ payload_max

-- `run_in`: the scan of the piece, which ends in a state in range
pub record Runs (stage count len : ℕ) (held piece : List ℕ) (r : Ran) (later : List ℕ) : Type 0 where
  pub fits : Fits r.end
  pub ranged : in_range r.stage r.count r.len ≡ true
  pub scanned :
      scan next (holding stage count len held) piece
      ≡ record { state = holding r.stage r.count r.len later; event = event_of r.end later; used = r.used }

-- `judge`: the answer tells the event
abbrev pub JudgedAs : Option (Event Message) → Answer → Type 0
JudgedAs event answer = told answer ≡ retold header (Event.outcome event)

-- `deliver`: a length that is told is one that a message has, all its data are held, and this is the lent buffer afterwards
abbrev pub Small : Answer → Type 0
Small answer = Delivery.Small (λ (h : Header). h.len) payload_max (told answer)

abbrev pub There : Answer → List ℕ → Type 0
There answer held = Delivery.Small (λ (h : Header). 7 + h.len) (length held) (told answer)

abbrev pub given : Answer → List ℕ → List ℕ → List ℕ
given answer = Delivery.given (λ (h : Header). h.len) 7 (told answer)

-- `mark_from`: from i on AA 55 stands first at j; or it stands nowhere, and no frame is found
pub record Marked (slice : List ℕ) (i j : ℕ) : Type 0 where
  pub forward : i ≤ j
  pub within : j ≤ length slice
  pub finds : sought 0 (drop i slice) ≡ frame (j - i + 2) (drop (j + 2) slice)

abbrev pub MarkFrom : List ℕ → ℕ → Maybe ℕ → Type 0
MarkFrom slice i None = sought 0 (drop i slice) ≡ none
MarkFrom slice i (Some j) = Marked slice i j

-- `is_whole`: from AA 55 on there are the bytes of a frame, 11 plus N (while N is not there, it counts as 0, and the checksum is missing)
abbrev pub whole_at : List ℕ → ℕ → Bool
whole_at slice mark = leb (11 + get_or slice (mark + 2 + 6) 0) (length slice - mark)

-- `frame_from`: from i on AA 55 stands first at j, and all of that frame is there; or no frame is found
abbrev pub FrameFrom : List ℕ → ℕ → Maybe ℕ → Type 0
FrameFrom slice i None = sought 0 (drop i slice) ≡ none
FrameFrom slice i (Some j) = Marked slice i j × (11 + get_or slice (j + 2 + 6) 0 ≤ length slice - j)

-- `judge_at`: the answer tells the event that a frame is, by its length and the bytes behind its AA 55; and this is the lent buffer afterwards
pub record JudgedAt (len : ℕ) (body lent : List ℕ) (answer : Answer) (later : List ℕ) : Type 0 where
  pub tells : JudgedAs (judged_frame len (get_or body (8 + len) 0) body) answer
  pub leaves : later ≡ delivered (λ (m : Message). m.payload) (Event.outcome (judged_frame len (get_or body (8 + len) 0) body)) lent
