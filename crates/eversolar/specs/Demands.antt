-- Eversolar as a family, and what is demanded of it: as of every family, and what is its own.
use Rattle.std.specs.Prelude.{ℕ, ◌+◌, ◌≡◌, List, [], ◌∷◌, length, take, get_or}
use Rattle.std.proofs.Math.Option.{some}
use Rattle.answers.specs.Written.{length_of}
use Rattle.answers.specs.Written.{Written}
use Rattle.stream.specs.Event.{damage}
use Rattle.stream.specs.Call.{seen_by}
use Rattle.stream.specs.Family.{Family}
use Rattle.stream.specs.Demands.{Demands, EndsWith}
use Rattle.stream.specs.Storm.{AfterStorm, NeverRead}
use Rattle.stream.specs.Slice.{SliceReader}
use Rattle.stream.specs.Slice as Slice
use Rattle.eversolar.specs.Wire.{Message, Takes, wire}
use Rattle.eversolar.specs.Rules.{rule}
use Rattle.eversolar.specs.Machine.{fresh}
use Rattle.eversolar.specs.Reader.{join, shown, IsStep}
use Rattle.eversolar.specs.Slice.{known_at, IsAnswerAt}
use Rattle.eversolar.specs.Slice as OfSlices
use Rattle.eversolar.specs.Writer.{IsWritten}
use Rattle.eversolar.specs.declared.reader.Reader.{Reader}
use Rattle.eversolar.specs.declared.reader.Step.{Step}
use Rattle.eversolar.specs.declared.slice.Found.{Found}

abbrev pub eversolar : Family
eversolar = record {
  Message = Message;
  Takes = Takes;
  wire = wire;
  Known = Unit {0};
  at_start = tt;
  after_event = tt;
  rule = rule;
  Written = Written;
  Writes = λ m. IsWritten m.source_first m.source_second m.destination_first m.destination_second m.control m.function m.payload;
  wrote = length_of;
  State = Reader;
  fresh = fresh;
  Result = Step;
  Steps = IsStep;
  seen = seen_by join shown;
}

-- WHAT IS DEMANDED OF EVERSOLAR: demands 1 to 3 of document 01, each a field of `Demands`, over the rule, the writer and the reader above
abbrev pub Demanded : Type 0
Demanded = Demands eversolar

-- its reader of slices, to a host: at no place does a byte before it count
abbrev pub slices : SliceReader eversolar
slices = record {
  known_at = known_at;
  handed_first = λ known. [];
  Found = Found;
  Answers = IsAnswerAt;
  seen = Slice.seen_by join OfSlices.shown;
}

-- WHAT IS DEMANDED OF THAT (document 02, Req 10): asked from place to place, it tells what the streaming reader tells
abbrev pub SlicesAsStreams : Type 0
SlicesAsStreams = Slice.SlicesAsStreams eversolar slices

-- ---- its own

-- a frame that is lost with a damage, which is a 6: all of it, 11 plus N, and its length N is its ninth byte
pub record LostWith (n lost : ℕ) (frame : List ℕ) : Type 0 where
  pub starts : take 2 frame ≡ 0xAA ∷ 0x55 ∷ []
  pub counted : length frame ≡ lost
  pub numbered : (n ≡ 6) × (lost ≡ 11 + get_or frame 8 0)

-- WHAT A DAMAGE LOSES: the bytes used up to then end with a frame that is lost, whatever came before
abbrev pub Lost : Type 0
Lost =
    (bs : List ℕ) (n lost p : ℕ) → rule tt bs ≡ some (record { event = damage n lost; used = p })
    → (frame : List ℕ) × LostWith n lost frame × EndsWith frame (take p bs)

-- ---- after a storm (document 02, Req 13)

-- the front of a frame that nobody finished, with 7 for the length of its data
abbrev pub unfinished : List ℕ
unfinished = 0xAA ∷ 0x55 ∷ 0x00 ∷ 0x00 ∷ 0x00 ∷ 0x00 ∷ 0x00 ∷ 0x00 ∷ 0x07 ∷ []

-- a message whose data look like such a front
abbrev pub unlucky : Message
unlucky = record {
  source_first = 0x01;
  source_second = 0x00;
  destination_first = 0x00;
  destination_second = 0x11;
  control = 0x11;
  function = 0x03;
  payload = 0xAA ∷ 0x55 ∷ 0x00 ∷ 0x00 ∷ 0x00 ∷ 0x00 ∷ 0x00 ∷ 0x00 ∷ 0x09 ∷ [];
}

-- WHAT HOLDS OF COMLYNX DOES NOT HOLD HERE: behind that front this message is never read, however often it is written
pub record NotAfterStorm : Type 0 where
  pub never_read : NeverRead eversolar unfinished unlucky
  pub fails : AfterStorm eversolar fresh → ⊥
