-- Drives as a family, and what is demanded of it: as of every family, and what is its own.
use Rattle.std.specs.Prelude.{ℕ, min, ◌+◌, ◌≡◌, true, false, List, [], ◌∷◌, ◌++◌, length, take}
use Rattle.std.proofs.Math.Option.{none, some}
use Rattle.answers.specs.Written.{length_of}
use Rattle.answers.specs.Written.{Written}
use Rattle.stream.specs.Event.{damage}
use Rattle.stream.specs.Call.{seen_by}
use Rattle.stream.specs.Family.{Family}
use Rattle.stream.specs.Demands.{Demands, EndsWith}
use Rattle.stream.specs.Slice.{SliceReader}
use Rattle.stream.specs.Slice as Slice
use Rattle.stream.specs.Storm.{AfterStorm, Swallowed}
use Rattle.stream.specs.Storm as Storm
use Rattle.drives.specs.Wire.{Message, Takes, opens, wire}
use Rattle.drives.specs.Rules.{judge, rule}
use Rattle.drives.specs.Machine.{fresh}
use Rattle.drives.specs.Reader.{join, shown, IsStep, whole}
use Rattle.drives.specs.Slice.{known_at, shown as shownAt, IsAnswerAt}
use Rattle.drives.specs.Writer.{IsWritten}
use Rattle.drives.specs.declared.reader.Reader.{Reader}
use Rattle.drives.specs.declared.reader.Step.{Step}
use Rattle.drives.specs.declared.slice.Found.{Found}

abbrev pub drives : Family
drives = record {
  Message = Message;
  Takes = Takes;
  wire = wire;
  Known = Unit {0};
  at_start = tt;
  after_event = tt;
  rule = rule;
  Written = Written;
  Writes = λ m. IsWritten m.opening m.station_first m.station_second m.letter m.payload;
  wrote = length_of;
  State = Reader;
  fresh = fresh;
  Result = Step;
  Steps = IsStep;
  seen = seen_by join shown;
}

-- WHAT IS DEMANDED OF DRIVES: demands 1 to 3 of document 01, each a field of `Demands`, over the rule, the writer and the reader above
abbrev pub Demanded : Type 0
Demanded = Demands drives

-- its reader of slices (document 02, Req 10), to its host: nothing is known of the bytes before a place
abbrev pub slices : SliceReader drives
slices = record {
  known_at = known_at;
  handed_first = λ known. [];
  Found = Found;
  Answers = IsAnswerAt;
  seen = Slice.seen_by join shownAt;
}

-- A SLICE IS ANSWERED AS A FRESH STREAMING READER ANSWERS IT, asked from any place on and from place to place
abbrev pub SlicesAsStreams : Type 0
SlicesAsStreams = Slice.SlicesAsStreams drives slices

-- ---- its own

-- no opening byte is among these
abbrev pub NoOpening : List ℕ → Type 0
NoOpening [] = Unit {0}
NoOpening (b ∷ bs) = (opens b ≡ false) × NoOpening bs

-- no EOT is
abbrev pub NoEot : List ℕ → Type 0
NoEot [] = Unit {0}
NoEot (b ∷ bs) = (b ≡ 0x04 → ⊥) × NoEot bs

-- BYTES BEFORE AN OPENING BYTE ARE IGNORED; A FRAME IS JUDGED AT ITS EOT, whatever stands in it and whatever follows. Every list of bytes is one of these three
pub record FoundAtEot : Type 0 where
  pub frame :
      (noise came rest : List ℕ) (opening : ℕ) → NoOpening noise → opens opening ≡ true → NoEot came
      → rule tt (noise ++ (opening ∷ (came ++ (0x04 ∷ rest)))) ≡ some (record { event = judge opening came; used = length noise + (length came + 2) })
  pub unfinished : (noise came : List ℕ) (opening : ℕ) → NoOpening noise → opens opening ≡ true → NoEot came → rule tt (noise ++ (opening ∷ came)) ≡ none
  pub nothing : (noise : List ℕ) → NoOpening noise → rule tt noise ≡ none

-- a frame that is lost with a damage, from its opening byte through its EOT, 65,535 standing for that many bytes or more
pub record LostWith (lost : ℕ) (frame : List ℕ) : Type 0 where
  pub opening : ℕ
  pub came : List ℕ
  pub opens : opens opening ≡ true
  pub is : frame ≡ opening ∷ (came ++ (0x04 ∷ []))
  pub counted : lost ≡ min (length frame) 65535

-- WHAT A DAMAGE LOSES: the bytes used up to then end with a frame that is lost, whatever came before
abbrev pub Lost : Type 0
Lost =
    (bs : List ℕ) (n lost p : ℕ) → rule tt bs ≡ some (record { event = damage n lost; used = p })
    → (frame : List ℕ) × LostWith lost frame × EndsWith frame (take p bs)

-- ---- after a storm (document 02, Req 13)

-- the example of page 003: station 01 is asked for one value from address 3000
abbrev pub request : Message
request = record { opening = 0x05; station_first = 0x30; station_second = 0x31; letter = 0x52; payload = 0x33 ∷ 0x30 ∷ 0x30 ∷ 0x30 ∷ 0x31 ∷ [] }

-- an opening byte, alone
abbrev pub stray : List ℕ
stray = 0x05 ∷ []

-- WHAT HOLDS OF COMLYNX DOES NOT HOLD HERE: behind it this message is lost
pub record NotAfterStorm : Type 0 where
  pub takes : Takes request
  pub swallowed : Swallowed drives stray request 1
  pub fails : AfterStorm drives fresh → ⊥

-- BUT NO MORE THAN THE FIRST MESSAGE is lost, from any state in range that has all its held bytes, forged ones too
abbrev pub AllButFirst : Type 0
AllButFirst = (s : Reader) → whole s ≡ true → Storm.AllButFirst drives s
