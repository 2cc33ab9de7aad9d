-- A slice is answered as a fresh streaming reader answers it: the facts that the drives' reader of slices shows.
-- Assumes nothing.
use Prim.Native.Nat.{ℕ, ◌+◌}
use mathlib.Core.Path.{refl}
use Rattle.stream.proofs.SlicesAsStreams.{answers_seen, answers_keeps, step_answers, leaves_same, SliceFacts}
use Rattle.stream.proofs.SlicesAsStreams as Slices
use Rattle.drives.specs.Rules.{rule}
use Rattle.drives.specs.Machine.{next}
use Rattle.drives.specs.Reader.{in_range, header, join, shown}
use Rattle.drives.specs.Slice.{known_at, shown as shownAt}
use Rattle.drives.specs.Demands.{drives, slices, SlicesAsStreams}
use Rattle.drives.specs.declared.reader.Step.{Step}
use Rattle.drives.specs.declared.slice.Found.{Found}
use Rattle.drives.proofs.MachineFollowsRule.{fresh_rests}
use Rattle.drives.proofs.FamilyFacts.{joins, facts}

-- the answer of a step, put to a place
abbrev found_of : Step → ℕ → Found
found_of q place = record { answer = q.answer; place = place }

slice_facts_lem : SliceFacts drives facts slices
unfolding facts
slice_facts_lem = record {
  asks = answers_seen rule known_at header (λ m. m.payload) shownAt join joins;
  keeps = answers_keeps rule known_at header (λ m. m.payload) shownAt join joins;
  start = λ slice. refl;
  edge = λ slice place p e. refl;
  handed_bytes = λ known. tt;
  ready = λ known. fresh_rests;
  as_step = λ s slice lent later place q h i j k st e. record {
    result = found_of q (place + q.used);
    later = later;
    answers = step_answers rule known_at header (λ m. m.payload) shownAt next in_range shown found_of (λ r n. refl) s slice lent later place q h i j k st e;
  };
  leaves = leaves_same rule known_at header (λ m. m.payload) shownAt next in_range shown join joins;
}

pub slices_as_streams : SlicesAsStreams
slices_as_streams = Slices.slices_as_streams drives facts slices slice_facts_lem
