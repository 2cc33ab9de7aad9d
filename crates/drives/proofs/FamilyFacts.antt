-- The facts that drives show.
-- Assumes nothing.
use Rattle.std.specs.Prelude.{Ok, Err}
use Prim.Native.Nat.{ℕ}
use mathlib.Core.Path.{◌≡◌, refl, ap}
use mathlib.Core.Bool.{Bool, true, false}
use mathlib.Core.Option.{none, some}
use mathlib.Core.List.{List, [], ◌++◌}
use lib.ListN.{length, take}
use lib.Seq.{take-append_seam}
use Rattle.numbers.proofs.Alike.{zero_is_one}
use Rattle.answers.specs.Refusal.{refused}
use Rattle.answers.specs.Written.{told, length_of, writing}
use Rattle.answers.specs.declared.Refusal.TheVariants.{WrongCharacter}
use Rattle.answers.specs.Written.{Written}
use Rattle.answers.proofs.WriterPromise.{writes_frame, writes_nothing}
use Rattle.stream.proofs.PromiseOfStep.{steps_seen, steps_keeps}
use Rattle.stream.proofs.FamilyFacts.{Facts}
use Rattle.stream.proofs.FollowsByBytes.{follows_by}
use Rattle.drives.specs.Wire.{Message, wire}
use Rattle.drives.specs.Machine.{next}
use Rattle.drives.specs.Machine as Machine
use Rattle.drives.specs.Reader.{in_range, header, join, shown}
use Rattle.drives.specs.Writer.{too_long, in_sets, framing, WritesMessage}
use Rattle.drives.specs.Demands.{drives}
use Rattle.drives.proofs.MachineFollowsRule.{Rests, rule_found, fresh_rests}
use Rattle.drives.proofs.WrittenIsRead.{reads, wire_bytes}
use Rattle.drives.proofs.ResultsExist.{results}
use Rattle.drives.proofs.AcceptedIsWritten.{borne_out}

-- ---- the writer: but for a character outside its set, the promise is that of every writer

refused_none : {A : Type 0} (w : Written) (n : ℕ) → told w ≡ refused 1 WrongCharacter → length_of w ≡ some n → A
refused_none (Ok k) n e l = zero_is_one cc
refused_none (Err why) n e l = zero_is_one cc

pub writes : (m : Message) (lent later : List ℕ) (w : Written) (n : ℕ) → WritesMessage m lent w later → length_of w ≡ some n
    → (take n later ≡ wire m) × (n ≡ length (wire m))
unfolding framing writing
writes m lent later w n x e = go (too_long m) (in_sets m) x.0 x.1
  where
    go : (long sets : Bool) → told w ≡ (framing long sets (wire m) lent).0 → later ≡ (framing long sets (wire m) lent).1
        → (take n later ≡ wire m) × (n ≡ length (wire m))
    go true sets p q = writes_frame true (wire m) lent later w n (p, q) e
    go false true p q = writes_frame false (wire m) lent later w n (p, q) e
    go false false p q = refused_none w n p e

pub writes_none : (m : Message) (lent later : List ℕ) (w : Written) → WritesMessage m lent w later → length_of w ≡ none → later ≡ lent
unfolding framing writing
writes_none m lent later w x e = go (too_long m) (in_sets m) x.0 x.1
  where
    go : (long sets : Bool) → told w ≡ (framing long sets (wire m) lent).0 → later ≡ (framing long sets (wire m) lent).1 → later ≡ lent
    go true sets p q = q
    go false true p q = writes_nothing false (wire m) lent later w (p, q) e
    go false false p q = q

-- header and data make up the message
pub joins : (m : Message) (rest : List ℕ) → join (header m) (m.payload ++ rest) ≡ m
joins m rest =
    ap {B = Message} (λ (l : List ℕ). record { opening = m.opening; station_first = m.station_first; station_second = m.station_second; letter = m.letter; payload = l })
    (take-append_seam m.payload rest)

unfoldable pub facts : Facts drives
unfolding Machine.in_range
facts = record {
  next = next;
  At = λ known. Rests;
  at_start_lem = fresh_rests;
  follows = λ known s r bs g. follows_by (rule_found s r bs);
  last_known = λ known. [];
  none_at_start = refl;
  borne_out = λ known bs g p e. borne_out bs g p e;
  reads = λ known m t. reads m t;
  wire_bytes = wire_bytes;
  in_range = in_range;
  fresh_in_range = refl;
  steps = steps_seen next in_range header (λ m. m.payload) shown join joins;
  results = results;
  stays_in_range = λ s piece lent later r st. st.2;
  keeps = steps_keeps next in_range header (λ m. m.payload) shown join joins;
  writes = writes;
  writes_nothing = writes_none;
}

-- the machine that they speak of, and its states in range
pub machine : facts.next ≡ next
unfolding facts
machine = refl

pub ranges : facts.in_range ≡ in_range
unfolding facts
ranges = refl
