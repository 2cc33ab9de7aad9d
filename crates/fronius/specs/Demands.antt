-- Fronius as a family, and what is demanded of it: as of every family, and what is its own.
use Rattle.std.specs.Prelude.{ℕ, ◌+◌, ◌<◌, ◌≡◌, ◌⊎◌, List, [], ◌∷◌, length, take, get_or}
use Rattle.std.proofs.Math.Option.{some}
use Rattle.answers.specs.Written.{length_of}
use Rattle.answers.specs.Written.{Written}
use Rattle.stream.specs.Event.{damage}
use Rattle.stream.specs.Call.{seen_by}
use Rattle.stream.specs.Family.{Family}
use Rattle.stream.specs.Slice.{SliceReader}
use Rattle.stream.specs.Slice as Slice
use Rattle.stream.specs.Demands.{Demands, EndsWith}
use Rattle.stream.specs.Storm.{AfterStorm, NeverRead}
use Rattle.fronius.specs.Wire.{Message, Takes, wire}
use Rattle.fronius.specs.Rules.{rule}
use Rattle.fronius.specs.Machine.{fresh}
use Rattle.fronius.specs.Reader.{join, shown, IsStep}
use Rattle.fronius.specs.Slice.{known_at, shown as shownAt, IsAnswerAt}
use Rattle.fronius.specs.Writer.{IsWritten}
use Rattle.fronius.specs.declared.reader.Reader.{Reader}
use Rattle.fronius.specs.declared.reader.Step.{Step}
use Rattle.fronius.specs.declared.slice.Found.{Found}

abbrev pub fronius : Family
fronius = record {
  Message = Message;
  Takes = Takes;
  wire = wire;
  Known = Unit {0};
  at_start = tt;
  after_event = tt;
  rule = rule;
  Written = Written;
  Writes = λ m. IsWritten m.device m.number m.command m.payload;
  wrote = length_of;
  State = Reader;
  fresh = fresh;
  Result = Step;
  Steps = IsStep;
  seen = seen_by join shown;
}

-- WHAT IS DEMANDED OF FRONIUS: demands 1 to 3 of document 01, each a field of `Demands`, over the rule, the writer and the reader above
abbrev pub Demanded : Type 0
Demanded = Demands fronius

-- its reader of slices: no byte before a place counts, so a fresh streaming reader is handed none first
abbrev pub slices : SliceReader fronius
slices = record { known_at = known_at; handed_first = λ known. []; Found = Found; Answers = IsAnswerAt; seen = Slice.seen_by join shownAt }

-- AND OF THAT READER (document 02, Req 10): from each place, and over a whole slice, it tells what the streaming reader tells
abbrev pub SlicesAsStreams : Type 0
SlicesAsStreams = Slice.SlicesAsStreams fronius slices

-- ---- its own

-- a frame that is lost with a damage, as far as it was read: its length N is its fourth byte. With a 6 all of it is lost, 8 plus N;
-- with a 7, where N is above 80, the three 80 and N
pub record LostWith (n lost : ℕ) (frame : List ℕ) : Type 0 where
  pub starts : take 3 frame ≡ 0x80 ∷ 0x80 ∷ 0x80 ∷ []
  pub counted : length frame ≡ lost
  pub numbered : ((n ≡ 6) × (lost ≡ 8 + get_or frame 3 0)) ⊎ ((n ≡ 7) × (lost ≡ 4) × (0x80 < get_or frame 3 0))

-- WHAT A DAMAGE LOSES: the bytes used up to then end with a frame that is lost, whatever came before, further 80 too
abbrev pub Lost : Type 0
Lost =
    (bs : List ℕ) (n lost p : ℕ) → rule tt bs ≡ some (record { event = damage n lost; used = p })
    → (frame : List ℕ) × LostWith n lost frame × EndsWith frame (take p bs)

-- ---- after a storm (document 02, Req 13)

-- the front of a frame that nobody finished, with 3 for the length of its data
abbrev pub unfinished : List ℕ
unfinished = 0x80 ∷ 0x80 ∷ 0x80 ∷ 0x03 ∷ []

-- a message whose data look like such a front
abbrev pub unlucky : Message
unlucky = record { device = 0x01; number = 0x01; command = 0x11; payload = 0x80 ∷ 0x80 ∷ 0x80 ∷ 0x04 ∷ [] }

-- WHAT HOLDS OF COMLYNX DOES NOT HOLD HERE: behind that front this message is never read, however often it is written
pub record NotAfterStorm : Type 0 where
  pub never_read : NeverRead fronius unfinished unlucky
  pub fails : AfterStorm fronius fresh → ⊥
