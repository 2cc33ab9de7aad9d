-- The facts that Fronius shows.
-- Assumes nothing.
use Prim.Native.Nat.{ℕ, ◌+◌, ◌≤◌}
use mathlib.Core.Path.{◌≡◌, refl, ap}
use mathlib.Core.Option.{some}
use mathlib.Core.List.{List, [], ◌∷◌, ◌++◌}
use lib.ListN.{length, take, get_or, length-append}
use lib.Seq.{take-append_seam, take_at, get_or_at}
use lib.Dec.{T, ltb}
use lib.Pow.{are_bytes}
use borrow.Author.Tests.{le-ltb, eq-eqb, ne_eqb}
use native.Mathlib.Nat.{mod-lt}
use native.Mathlib.Omega.{arith}
use Rattle.answers.proofs.WriterPromise.{writes_frame, writes_nothing}
use Rattle.stream.specs.Event.{message}
use Rattle.stream.proofs.BytesOfParts.{bytes_cons, bytes_append}
use Rattle.stream.proofs.PromiseOfStep.{steps_seen, steps_keeps}
use Rattle.stream.proofs.FamilyFacts.{Facts}
use Rattle.stream.proofs.FollowsByBytes.{follows_by}
use Rattle.fronius.specs.Wire.{Message, Takes, payload_max, mark, checksum, body, wire}
use Rattle.numbers.specs.Lists.{total}
use Rattle.fronius.specs.Rules.{frame, sized, sought, rule, judged}
use Rattle.fronius.specs.Machine.{next}
use Rattle.fronius.specs.Machine as Machine
use Rattle.fronius.specs.Reader.{in_range, header, join, shown}
use Rattle.fronius.specs.Demands.{fronius}
use Rattle.fronius.proofs.MachineFollowsRule.{Rests, rule_found, fresh_rests}
use Rattle.fronius.proofs.ResultsExist.{results}
use Rattle.fronius.proofs.AcceptedIsWritten.{borne_out}

-- ---- the rule reads what is written

module _ (m : Message) (t : Takes m) where
  abbrev sum : ℕ
  sum = checksum (length m.payload ∷ body m)

  framed : frame 4 (length m.payload) (body m ++ (sum ∷ [])) ≡ some (record { event = message m; used = 4 + (length m.payload + 4) })
  unfolding frame judged
  framed =
      let n = length m.payload in
      let long : length (body m ++ (sum ∷ [])) ≡ n + 4 = simp length-append (omega arith) in
      let first : take (n + 3) (body m ++ (sum ∷ [])) ≡ body m = take_at (body m) (sum ∷ []) (n + 3) (omega arith) in
      let last : get_or (body m ++ (sum ∷ [])) (n + 3) 0 ≡ sum = get_or_at (body m) sum [] 0 (n + 3) (omega arith) in
      rw (le-ltb (length (body m ++ (sum ∷ []))) (n + 4) (omega arith), first, last, eq-eqb sum sum refl)

  read : rule tt (wire m) ≡ some (record { event = message m; used = length (wire m) })
  unfolding sought sized
  read =
      let n = length m.payload in
      let small : n ≤ payload_max = t.fits in
      let count : length (wire m) ≡ 4 + (n + 4) = simp length-append (omega arith) in
      rw (ne_eqb n mark (λ e. omega arith), le-ltb mark n (omega arith), count) framed

wire_bytes : (m : Message) → Takes m → T (are_bytes (wire m))
unfolding checksum
wire_bytes m t =
    let n = length m.payload in
    let fits : n ≤ payload_max = t.fits in
    let rest : List ℕ = body m ++ (checksum (n ∷ body m) ∷ []) in
    let sum : T (are_bytes (checksum (n ∷ body m) ∷ [])) = bytes_cons (checksum (n ∷ body m)) [] (mod-lt (total (n ∷ body m)) (omega arith)) tt in
    let parts : T (are_bytes (body m)) =
    bytes_cons m.device (m.number ∷ m.command ∷ m.payload) t.device
    (bytes_cons m.number (m.command ∷ m.payload) t.number (bytes_cons m.command m.payload t.command t.payload)) in
    bytes_cons mark (mark ∷ mark ∷ n ∷ rest) (omega arith)
    (bytes_cons mark (mark ∷ n ∷ rest) (omega arith)
    (bytes_cons mark (n ∷ rest) (omega arith) (bytes_cons n rest (omega arith) (bytes_append (body m) (checksum (n ∷ body m) ∷ []) parts sum))))

-- header and data make up the message
pub joins : (m : Message) (rest : List ℕ) → join (header m) (m.payload ++ rest) ≡ m
joins m rest = ap {B = Message} (λ (l : List ℕ). record { device = m.device; number = m.number; command = m.command; payload = l }) (take-append_seam m.payload rest)

pub facts : Facts fronius
unfolding Machine.in_range
facts = record {
  next = next;
  At = λ known. Rests;
  at_start_lem = fresh_rests;
  follows = λ known s r bs g. follows_by (rule_found s r bs);
  last_known = λ known. [];
  none_at_start = refl;
  borne_out = λ known bs g p e. borne_out bs g p e;
  reads = λ known m t. read m t;
  wire_bytes = wire_bytes;
  in_range = in_range;
  fresh_in_range = refl;
  steps = steps_seen next in_range header (λ m. m.payload) shown join joins;
  results = results;
  stays_in_range = λ s piece lent later r st. st.2;
  keeps = steps_keeps next in_range header (λ m. m.payload) shown join joins;
  writes = λ m lent later w n. writes_frame (ltb payload_max (length m.payload)) (wire m) lent later w n;
  writes_nothing = λ m lent later w. writes_nothing (ltb payload_max (length m.payload)) (wire m) lent later w;
}

-- the machine that they speak of, and its states in range
pub machine : facts.next ≡ next
unfolding facts
machine = refl

pub ranges : facts.in_range ≡ in_range
unfolding facts
ranges = refl
