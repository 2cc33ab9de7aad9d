-- The facts that the reader of slices shows, and what is demanded of it.
-- Assumes nothing.
use Prim.Native.Nat.{ℕ, ◌+◌}
use mathlib.Core.Path.{◌≡◌, refl, sym, ap, ◌∙◌, subst}
use mathlib.Core.Bool.{Bool, true}
use lib.ListN.{drop}
use Rattle.stream.specs.Event.{Event}
use Rattle.stream.specs.Pieces.{Moved, scan}
use Rattle.stream.proofs.FamilyFacts.{found}
use Rattle.stream.proofs.SlicesAsStreams.{answers_seen, answers_keeps, step_answers, leaves_same, SliceFacts}
use Rattle.stream.proofs.SlicesAsStreams as Slices
use Rattle.fronius.specs.Wire.{Message}
use Rattle.fronius.specs.Rules.{rule}
use Rattle.fronius.specs.Machine.{next}
use Rattle.fronius.specs.Reader.{in_range, header, join, shown}
use Rattle.fronius.specs.Slice.{known_at, shown as shownAt}
use Rattle.fronius.specs.Demands.{fronius, slices, SlicesAsStreams}
use Rattle.fronius.specs.declared.reader.Reader.{Reader}
use Rattle.fronius.specs.declared.reader.Step.{Step}
use Rattle.fronius.specs.declared.slice.Found.{Found}
use Rattle.fronius.proofs.FamilyFacts.{joins, facts, machine, ranges}

-- the answer of a step, put to a place
abbrev found_of : Step → ℕ → Found
found_of q place = record { answer = q.answer; place = place }

own : SliceFacts fronius facts slices
own = record {
  asks = answers_seen rule known_at header (λ m. m.payload) shownAt join joins;
  keeps = answers_keeps rule known_at header (λ m. m.payload) shownAt join joins;
  start = λ slice. refl;
  edge = λ slice place p e. refl;
  handed_bytes = λ known. tt;
  ready = λ known. facts.at_start_lem;
  as_step = λ s slice lent later place q h i j k st e.
      let bs = drop place slice in
      let ranged : in_range s ≡ true = ap (λ (r : Reader → Bool). r s) (sym ranges) ∙ k in
      let finds = subst (λ (n : Reader → ℕ → Moved Reader (Event Message)). rule tt bs ≡ found (scan n s bs).event (scan n s bs).used) machine e in
      record {
        result = found_of q (place + q.used);
        later = later;
        answers = step_answers rule known_at header (λ m. m.payload) shownAt next in_range shown found_of (λ q k. refl) s slice lent later place q h i j ranged st finds;
      };
  leaves = leaves_same rule known_at header (λ m. m.payload) shownAt next in_range shown join joins;
}

pub slices_as_streams : SlicesAsStreams
slices_as_streams = Slices.slices_as_streams fronius facts slices own
