-- Eversolar's reader of slices tells what its streaming reader tells.
-- Assumes nothing.
use Prim.Native.Nat.{ℕ, ◌+◌}
use mathlib.Core.Path.{refl}
use Rattle.stream.proofs.SlicesAsStreams.{SliceFacts, answers_seen, answers_keeps, step_answers, leaves_same}
use Rattle.stream.proofs.SlicesAsStreams as Stream
use Rattle.eversolar.specs.Rules.{rule}
use Rattle.eversolar.specs.Machine.{next}
use Rattle.eversolar.specs.Reader.{in_range, header, join}
use Rattle.eversolar.specs.Reader as Reader
use Rattle.eversolar.specs.Slice.{known_at, shown}
use Rattle.eversolar.specs.Demands.{eversolar, slices, SlicesAsStreams}
use Rattle.eversolar.specs.declared.reader.Step.{Step}
use Rattle.eversolar.specs.declared.slice.Found.{Found}
use Rattle.eversolar.proofs.MachineFollowsRule.{fresh_rests}
use Rattle.eversolar.proofs.FamilyFacts.{joins, facts}

-- the answer of a step, with the place after it
abbrev found_of : Step → ℕ → Found
found_of q place = record { answer = q.answer; place = place }

slice_facts : SliceFacts eversolar facts slices
unfolding facts
slice_facts = record {
  asks = answers_seen rule known_at header (λ m. m.payload) shown join joins;
  keeps = answers_keeps rule known_at header (λ m. m.payload) shown join joins;
  start = λ slice. refl;
  edge = λ slice place p e. refl;
  handed_bytes = λ known. tt;
  ready = λ known. fresh_rests;
  as_step = λ s slice lent later place q fits inside room ranged st e. record {
    result = found_of q (place + q.used);
    later = later;
    answers = step_answers rule known_at header (λ m. m.payload) shown next in_range Reader.shown found_of (λ q k. refl) s slice lent later place q fits inside room ranged st e;
  };
  leaves = leaves_same rule known_at header (λ m. m.payload) shown next in_range Reader.shown join joins;
}

pub slices_as_streams : SlicesAsStreams
slices_as_streams = Stream.slices_as_streams eversolar facts slices slice_facts
