-- The reader as its host meets it: what its answers tell, and what its calls promise.
use Rattle.std.specs.Prelude.{ℕ, ◌≡◌, Bool, List, length, take}
use Rattle.answers.specs.Refusal as Refusal
use Rattle.answers.specs.Damage as Damage
use Rattle.stream.specs.Event.{message, damage, Told, done, gives, refuses}
use Rattle.stream.specs.Call.{Seen, Steps}
use Rattle.stream.specs.Call as Call
use Rattle.eversolar.specs.Wire.{Message}
use Rattle.eversolar.specs.Machine as Machine
use Rattle.eversolar.specs.declared.reader.Reader.{Reader}
use Rattle.eversolar.specs.declared.reader.Header.{Header}
use Rattle.eversolar.specs.declared.reader.Step.{Step}
use Rattle.eversolar.specs.declared.reader.StepInPlace.{StepInPlace}
use Rattle.eversolar.specs.declared.reader.Answer.{Answer}
use Rattle.eversolar.specs.declared.reader.Answer.TheVariants.{Done, Message as Read, Damaged, Refused}

-- document 01's table of answers, case by case: the number of each,
abbrev pub number : Answer → ℕ
number Done = 0
number (Read h) = 1
number (Damaged what lost) = Damage.number what
number (Refused why) = Refusal.number why

-- and what is told by it: with 1 the header, with a damage the bytes lost
abbrev pub told : Answer → Told Header
told Done = done
told (Read h) = gives (message h)
told (Damaged what lost) = gives (damage (Damage.number what) lost)
told (Refused why) = refuses (Refusal.number why)

abbrev pub shown : Step → Seen Reader Header
shown r = record { state = r.reader; number = number r.answer; told = told r.answer; used = r.used }

-- a message's header; and the message again, from its header and the buffer at whose front its data stand
abbrev pub header : Message → Header
header m = record {
  source_first = m.source_first;
  source_second = m.source_second;
  destination_first = m.destination_first;
  destination_second = m.destination_second;
  control = m.control;
  function = m.function;
  len = length m.payload;
}

abbrev pub join : Header → List ℕ → Message
join h later = record {
  source_first = h.source_first;
  source_second = h.source_second;
  destination_first = h.destination_first;
  destination_second = h.destination_second;
  control = h.control;
  function = h.function;
  payload = take h.len later;
}

-- stage, held count and held data length lie in that stage's range
abbrev pub in_range : Reader → Bool
in_range s = Machine.in_range s.stage s.count s.len

-- what `Reader::fresh` promises
abbrev pub IsFresh : Reader → Type 0
IsFresh r = r ≡ Machine.fresh

-- what `Reader::step` promises, of state, piece, lent buffer, result and the buffer afterwards
abbrev pub IsStep : Reader → List ℕ → List ℕ → Step → List ℕ → Type 0
IsStep = Steps Machine.next in_range header (λ m. m.payload) shown

-- ---- the same call on a state in parts, whose held bytes are lent

abbrev pub whole : Reader → Bool
whole = Call.whole (λ s. s.held) Machine.held_max in_range

-- what it hands back is a step, with the held bytes put to it
abbrev pub together : List ℕ → StepInPlace → Step
together held r = record { reader = Machine.holding r.stage r.count r.len held; answer = r.answer; used = r.used }

-- what `step_in_place` promises, of the parts, piece, lent buffer, result, and the held bytes and the buffer afterwards:
-- what `step` promises of the state put together
abbrev pub IsStepInPlace : ℕ → ℕ → ℕ → List ℕ → List ℕ → List ℕ → StepInPlace → List ℕ → List ℕ → Type 0
IsStepInPlace stage count len held piece lent r heldLater later =
    Steps Machine.next whole header (λ m. m.payload) shown (Machine.holding stage count len held) piece lent (together heldLater r) later
