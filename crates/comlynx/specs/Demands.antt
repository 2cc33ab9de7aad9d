-- ComLynx as a family, and what is demanded of it: as of every family, and what is its own.
use Rattle.std.specs.Prelude.{ℕ, min, ◌+◌, ◌≤◌, ◌≡◌, Bool, true, false, cond, ◌||◌, List, [], ◌∷◌, ◌++◌, length, eqb}
use Rattle.answers.specs.Written.{length_of}
use Rattle.answers.specs.Written.{Written}
use Rattle.stream.specs.Event.{Event, damage}
use Rattle.stream.specs.Call.{seen_by}
use Rattle.stream.specs.Written.{Each}
use Rattle.stream.specs.Rule.{Settled, readings}
use Rattle.stream.specs.Family.{Family}
use Rattle.stream.specs.Demands.{Demands}
use Rattle.stream.specs.Storm as Storm
use Rattle.stream.specs.Slice.{SliceReader}
use Rattle.stream.specs.Slice as Stream
use Rattle.comlynx.specs.Wire.{Message, Takes, payload_max, body, flag, escape, wire}
use Rattle.comlynx.specs.Rules.{judge, rule}
use Rattle.comlynx.specs.Machine.{fresh}
use Rattle.comlynx.specs.Reader.{join, shown, IsStep, whole}
use Rattle.comlynx.specs.Slice.{known_at, IsAnswerAt}
use Rattle.comlynx.specs.Slice as Slice
use Rattle.comlynx.specs.Writer.{IsWritten}
use Rattle.comlynx.specs.declared.reader.Reader.{Reader}
use Rattle.comlynx.specs.declared.reader.Step.{Step}
use Rattle.comlynx.specs.declared.slice.Found.{Found}

-- what is known is whether a flag was just seen: at the start none was; after an event the flag that settled it was
abbrev pub comlynx : Family
comlynx = record {
  Message = Message;
  Takes = Takes;
  wire = wire;
  Known = Bool;
  at_start = false;
  after_event = true;
  rule = rule;
  Written = Written;
  Writes = λ m. IsWritten m.source m.destination m.kind m.payload;
  wrote = length_of;
  State = Reader;
  fresh = fresh;
  Result = Step;
  Steps = IsStep;
  seen = seen_by join shown;
}

-- WHAT IS DEMANDED OF COMLYNX: demands 1 to 3 of document 01, each a field of `Demands`, over the rule, the writer and the reader above
abbrev pub Demanded : Type 0
Demanded = Demands comlynx

-- its reader of slices: where the flag counts as just seen, a fresh streaming reader is handed it first
abbrev pub slices : SliceReader comlynx
slices = record {
  known_at = known_at;
  handed_first = λ known. cond known (flag ∷ []) [];
  Found = Found;
  Answers = IsAnswerAt;
  seen = Stream.seen_by join Slice.shown;
}

-- WHAT IS DEMANDED OF ITS READER OF SLICES (document 02, Req 10), each a field of stream's `SlicesAsStreams`
abbrev pub SlicesAsStreams : Type 0
SlicesAsStreams = Stream.SlicesAsStreams comlynx slices

-- ---- its own

-- a stretch: no flag is among its bytes
abbrev pub Stretch : List ℕ → Type 0
Stretch [] = Unit {0}
Stretch (b ∷ bs) = (b ≡ flag → ⊥) × Stretch bs

-- stretches one after another, each up to and with the flag that closes it, which opens the next
abbrev pub each_closed : List (List ℕ) → List ℕ
each_closed [] = []
each_closed (w ∷ ws) = w ++ (flag ∷ each_closed ws)

-- each of them judged at that flag, where `at` bytes came before; an empty one gives nothing
abbrev pub each_judged : ℕ → List (List ℕ) → List (Settled (Event Message))
each_judged at [] = []
each_judged at ([] ∷ ws) = each_judged (at + 1) ws
each_judged at ((b ∷ w) ∷ ws) = let n = at + length (b ∷ w) + 1 in record { event = judge (b ∷ w); used = n } ∷ each_judged n ws

-- EACH STRETCH IS SHOWN ONCE: whatever stands before the first flag and after the last, what is found is each stretch between two successive
-- flags, judged at the second one, in order
abbrev pub ShownOnce : Type 0
ShownOnce =
    (noise rest : List ℕ) (ws : List (List ℕ)) → Stretch noise → Stretch rest → Each Stretch ws
    → readings rule true false (noise ++ (flag ∷ (each_closed ws ++ rest))) ≡ each_judged (length noise + 1) ws

-- HOW MUCH IS LOST: with each damage the bytes between the two flags, as they were sent; 65,535 stands for that or more
abbrev pub Lost : Type 0
Lost = (w : List ℕ) (n lost : ℕ) → judge w ≡ damage n lost → lost ≡ min (length w) 65535

-- AFTER A STORM, from any state in range that has all its held bytes, forged ones too: the messages that follow are told exactly, following at most
-- one more answer, given at the first one's opening flag
abbrev pub AfterStorm : Type 0
AfterStorm = (s : Reader) → whole s ≡ true → Storm.AfterStorm comlynx s × Storm.HandedAfterStorm comlynx s

-- how many bytes stuffing adds
abbrev pub special : List ℕ → ℕ
special [] = 0
special (b ∷ bs) = cond (eqb b flag || eqb b escape) 1 0 + special bs

-- the exact length of a frame, and 532 bytes always hold one
abbrev pub Room : Type 0
Room =
    (m : Message) → length m.payload ≤ payload_max
    → (length (wire m) ≡ 12 + length m.payload + special (body m)) × (length (wire m) ≤ 532)
