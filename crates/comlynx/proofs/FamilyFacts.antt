-- The facts that ComLynx shows.
-- Assumes nothing.
use Prim.Native.Nat.{ℕ}
use mathlib.Core.Path.{◌≡◌, refl, ap}
use mathlib.Core.List.{List, ◌++◌}
use lib.ListN.{length}
use lib.Seq.{take-append_seam}
use lib.Dec.{ltb}
use Rattle.answers.proofs.WriterPromise.{writes_frame, writes_nothing}
use Rattle.stream.proofs.PromiseOfStep.{steps_seen, steps_keeps}
use Rattle.stream.proofs.FamilyFacts.{Facts}
use Rattle.comlynx.specs.Wire.{Message, payload_max, wire}
use Rattle.comlynx.specs.Machine.{next}
use Rattle.comlynx.specs.Machine as Machine
use Rattle.comlynx.specs.Reader.{in_range, header, join, shown}
use Rattle.comlynx.specs.Demands.{comlynx}
use Rattle.comlynx.proofs.MachineFollowsRule.{At, at_fresh, follows}
use Rattle.comlynx.proofs.ResultsExist.{results}
use Rattle.comlynx.proofs.AcceptedIsWritten.{last_known, borne_out}
use Rattle.comlynx.proofs.WrittenIsRead.{reads, wire_bytes}

-- header and data make up the message
pub joins : (m : Message) (rest : List ℕ) → join (header m) (m.payload ++ rest) ≡ m
joins m rest = ap {B = Message} (λ (l : List ℕ). record { source = m.source; destination = m.destination; kind = m.kind; payload = l }) (take-append_seam m.payload rest)

unfoldable pub facts : Facts comlynx
unfolding Machine.in_range
facts = record {
  next = next;
  At = At;
  at_start_lem = at_fresh;
  follows = follows;
  last_known = last_known;
  none_at_start = refl;
  borne_out = borne_out;
  reads = λ known m t. reads m known t.fits;
  wire_bytes = wire_bytes;
  in_range = in_range;
  fresh_in_range = refl;
  steps = steps_seen next in_range header (λ m. m.payload) shown join joins;
  results = results;
  stays_in_range = λ s piece lent later r st. st.2;
  keeps = steps_keeps next in_range header (λ m. m.payload) shown join joins;
  writes = λ m lent later w n. writes_frame (ltb payload_max (length m.payload)) (wire m) lent later w n;
  writes_nothing = λ m lent later w. writes_nothing (ltb payload_max (length m.payload)) (wire m) lent later w;
}

-- the machine that they speak of, and its states in range
pub machine : facts.next ≡ next
unfolding facts
machine = refl

pub ranges : facts.in_range ≡ in_range
unfolding facts
ranges = refl
