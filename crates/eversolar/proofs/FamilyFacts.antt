-- The facts that Eversolar shows.
-- Assumes nothing.
use Prim.Native.Nat.{ℕ, ◌+◌, ◌≤◌}
use mathlib.Core.Path.{◌≡◌, refl, sym, ap, ◌∙◌}
use mathlib.Core.Option.{some}
use mathlib.Core.List.{List, [], ◌∷◌, ◌++◌}
use lib.ListN.{length, take, get_or, length-append}
use lib.Seq.{take-append_seam, get_or-drop, get_or-append-add}
use lib.Dec.{T, ltb}
use lib.Pow.{are_bytes}
use borrow.Author.Tests.{le-ltb, eq-eqb}
use native.Mathlib.Nat.{mod-lt}
use native.Mathlib.Omega.{arith}
use Rattle.answers.proofs.WriterPromise.{writes_frame, writes_nothing}
use Rattle.stream.specs.Event.{message}
use Rattle.stream.proofs.BytesOfParts.{bytes_cons, bytes_append}
use Rattle.stream.proofs.PromiseOfStep.{steps_seen, steps_keeps}
use Rattle.stream.proofs.FamilyFacts.{Facts}
use Rattle.stream.proofs.FollowsByBytes.{follows_by}
use Rattle.eversolar_words.specs.Words.{word, word_bytes}
use Rattle.eversolar.specs.Wire.{Message, Takes, payload_max, first_mark, second_mark, checksum, six_of, earlier, wire}
use Rattle.numbers.specs.Lists.{total}
use Rattle.eversolar.specs.Rules.{frame, sought, rule, judged}
use Rattle.eversolar.specs.Machine.{next}
use Rattle.eversolar.specs.Machine as Machine
use Rattle.eversolar.specs.Reader.{in_range, header, join, shown}
use Rattle.eversolar.specs.Demands.{eversolar}
use Rattle.eversolar_words.proofs.WordLaws.{word_length, word_bytes_lem, word_again}
use Rattle.eversolar.proofs.WriterWritesFrame.{wire_length}
use Rattle.eversolar.proofs.MachineFollowsRule.{Rests, rule_found, fresh_rests}
use Rattle.eversolar.proofs.ResultsExist.{results}
use Rattle.eversolar.proofs.AcceptedIsWritten.{borne_out}

-- ---- the rule reads what is written

module _ (m : Message) where
  abbrev n : ℕ
  n = length m.payload

  abbrev sum : ℕ
  sum = checksum (earlier m)

  -- what stands behind AA 55
  abbrev rest : List ℕ
  rest = (six_of m ++ (n ∷ m.payload)) ++ word_bytes sum

  first : get_or rest (7 + n) 0 ≡ get_or (word_bytes sum) 0 0
  first =
      let at : n ≡ n + 0 = omega arith in
      sym (get_or-drop 7 rest n 0) ∙ ap (λ (k : ℕ). get_or (m.payload ++ word_bytes sum) k 0) at ∙ get_or-append-add m.payload (word_bytes sum) 0 0

  second : get_or rest (8 + n) 0 ≡ get_or (word_bytes sum) 1 0
  second =
      let at : 8 + n ≡ 7 + (n + 1) = omega arith in
      ap (λ (k : ℕ). get_or rest k 0) at ∙ sym (get_or-drop 7 rest (n + 1) 0) ∙ get_or-append-add m.payload (word_bytes sum) 1 0

  came : word (get_or rest (7 + n) 0) (get_or rest (8 + n) 0) ≡ sum
  came = ap (λ (x : ℕ). word x (get_or rest (8 + n) 0)) first ∙ ap (word (get_or (word_bytes sum) 0 0)) second ∙ word_again sum

  framed : frame 2 rest ≡ some (record { event = message m; used = 2 + (9 + n) })
  unfolding frame judged
  framed =
      let long : length rest ≡ 9 + n = simp length-append (omega (arith, word_length sum)) in
      let payload : take n (m.payload ++ word_bytes sum) ≡ m.payload = take-append_seam m.payload (word_bytes sum) in
      rw (le-ltb (length rest) (9 + n) (omega arith), came, payload, eq-eqb sum sum refl)

  pub read : rule tt (wire m) ≡ some (record { event = message m; used = length (wire m) })
  unfolding sought
  read =
      let count : length (wire m) ≡ 2 + (9 + n) = omega (arith, wire_length m) in
      rw count framed

pub wire_bytes : (m : Message) → Takes m → T (are_bytes (wire m))
unfolding checksum
wire_bytes m t =
    let n = length m.payload in
    let fits : n ≤ payload_max = t.fits in
    let sum = checksum (earlier m) in
    let five = m.source_second ∷ m.destination_first ∷ m.destination_second ∷ m.control ∷ m.function ∷ n ∷ m.payload in
    let four = m.destination_first ∷ m.destination_second ∷ m.control ∷ m.function ∷ n ∷ m.payload in
    let three = m.destination_second ∷ m.control ∷ m.function ∷ n ∷ m.payload in
    let two = m.control ∷ m.function ∷ n ∷ m.payload in
    let six =
    bytes_cons m.source_first five t.source_first
    (bytes_cons m.source_second four t.source_second
    (bytes_cons m.destination_first three t.destination_first
    (bytes_cons m.destination_second two t.destination_second
    (bytes_cons m.control (m.function ∷ n ∷ m.payload) t.control
    (bytes_cons m.function (n ∷ m.payload) t.function (bytes_cons n m.payload (omega arith) t.payload)))))) in
    bytes_append (earlier m) (word_bytes sum)
    (bytes_cons first_mark (second_mark ∷ m.source_first ∷ five) (omega arith) (bytes_cons second_mark (m.source_first ∷ five) (omega arith) six))
    (word_bytes_lem sum (mod-lt (total (earlier m)) (omega arith)))

-- header and data make up the message
pub joins : (m : Message) (rest : List ℕ) → join (header m) (m.payload ++ rest) ≡ m
joins m rest =
    ap {B = Message} (λ (l : List ℕ). record { source_first = m.source_first; source_second = m.source_second; destination_first = m.destination_first; destination_second = m.destination_second; control = m.control; function = m.function; payload = l }) (take-append_seam m.payload rest)

unfoldable pub facts : Facts eversolar
unfolding Machine.in_range
facts = record {
  next = next;
  At = λ known. Rests;
  at_start_lem = fresh_rests;
  follows = λ known s r bs g. follows_by (rule_found s r bs g);
  last_known = λ known. [];
  none_at_start = refl;
  borne_out = λ known bs g p e. borne_out bs g p e;
  reads = λ known m t. read m;
  wire_bytes = wire_bytes;
  in_range = in_range;
  fresh_in_range = refl;
  steps = steps_seen next in_range header (λ m. m.payload) shown join joins;
  results = results;
  stays_in_range = λ s piece lent later r st. st.2;
  keeps = steps_keeps next in_range header (λ m. m.payload) shown join joins;
  writes = λ m lent later w n. writes_frame (ltb payload_max (length m.payload)) (wire m) lent later w n;
  writes_nothing = λ m lent later w. writes_nothing (ltb payload_max (length m.payload)) (wire m) lent later w;
}

-- the machine that they speak of, and its states in range
pub machine : facts.next ≡ next
unfolding facts
machine = refl

pub ranges : facts.in_range ≡ in_range
unfolding facts
ranges = refl
