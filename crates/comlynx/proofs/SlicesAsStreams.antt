-- The reader of slices tells what the streaming reader tells: an event stands at a flag, so that at the place after it a flag was just seen.
-- Assumes nothing.
use Prim.Native.Nat.{ℕ, suc, ◌+◌, ◌-◌, ◌<◌}
use mathlib.Core.Path.{◌≡◌, refl, sym, ap, ◌∙◌}
use mathlib.Core.Bool.{Bool, true, false, cond}
use mathlib.Core.Option.{some}
use mathlib.Core.List.{List, [], ◌∷◌, ◌++◌}
use lib.ListN.{length, drop, get_or, length-replicate}
use lib.Seq.{get_or-drop}
use lib.Dec.{T, eqb}
use lib.Pow.{are_bytes}
use borrow.Author.Tests.{eqb-true, eq-eqb, ne_eqb}
use native.Mathlib.Omega.{arith}
use Rattle.numbers.proofs.Alike.{zero_is_one}
use Rattle.stream.specs.Event.{Event}
use Rattle.stream.specs.Pieces.{scan}
use Rattle.stream.specs.Rule.{Settled}
use Rattle.stream.proofs.SlicesAsStreams.{SliceFacts, answers_seen, answers_keeps, step_answers, leaves_same}
use Rattle.stream.proofs.SlicesAsStreams as Stream
use Rattle.comlynx.specs.Wire.{Message, flag, body_max}
use Rattle.comlynx.specs.Rules.{within, before, rule}
use Rattle.comlynx.specs.Machine.{fresh, next}
use Rattle.comlynx.specs.Reader.{in_range, header, join}
use Rattle.comlynx.specs.Reader as Reader
use Rattle.comlynx.specs.Slice.{known_at, shown}
use Rattle.comlynx.specs.Demands.{comlynx, slices, SlicesAsStreams}
use Rattle.comlynx.specs.declared.reader.Step.{Step}
use Rattle.comlynx.specs.declared.slice.Found.{Found}
use Rattle.comlynx.proofs.MachineMoves.{flag_first}
use Rattle.comlynx.proofs.MachineFollowsRule.{At, at_fresh}
use Rattle.comlynx.proofs.FamilyFacts.{joins, facts}

-- ---- an event stands at a flag

-- `at` bytes came before bs: the byte that settles the event is one of bs, and a flag
record Edge (at : ℕ) (bs : List ℕ) (p : Settled (Event Message)) : Type 0 where
  past : at < p.used
  flagged : get_or bs (p.used - at - 1) 0 ≡ flag

edge_cons : (at b : ℕ) (bs : List ℕ) (p : Settled (Event Message)) → Edge (at + 1) bs p → Edge at (b ∷ bs) p
edge_cons at b bs p e =
    let k : p.used - at - 1 ≡ suc (p.used - (at + 1) - 1) = omega (arith, e.past) in
    record { past = omega (arith, e.past); flagged = ap (λ (n : ℕ). get_or (b ∷ bs) n 0) k ∙ e.flagged }

in_test : {X : Type 0} (Q : Type 0) (t : Bool) (x y z : X) → cond t x y ≡ z → (t ≡ true → x ≡ z → Q) → (t ≡ false → y ≡ z → Q) → Q
in_test Q true x y z h f g = f refl h
in_test Q false x y z h f g = g refl h

within_edge : (bs : List ℕ) (at : ℕ) (came : List ℕ) (p : Settled (Event Message)) → within at came bs ≡ some p → Edge at bs p
unfolding within
within_edge [] at came p h = zero_is_one cc
within_edge (b ∷ bs) at came p h =
    in_test (Edge at (b ∷ bs) p) (eqb b flag) _ _ _ h
    (λ e q. in_test (Edge at (b ∷ bs) p) (eqb (length came) 0) _ _ _ q
    (λ f r. edge_cons at b bs p (within_edge bs (at + 1) [] p r))
    (λ f r.
    let used : at + 1 ≡ p.used = cc in
    let k : p.used - at - 1 ≡ 0 = omega arith in
    record { past = omega arith; flagged = ap (λ (n : ℕ). get_or (b ∷ bs) n 0) k ∙ eqb-true b flag e }))
    (λ e q. edge_cons at b bs p (within_edge bs (at + 1) (came ++ (b ∷ [])) p q))

before_edge : (bs : List ℕ) (at : ℕ) (p : Settled (Event Message)) → before at bs ≡ some p → Edge at bs p
unfolding before
before_edge [] at p h = zero_is_one cc
before_edge (b ∷ bs) at p h =
    in_test (Edge at (b ∷ bs) p) (eqb b flag) _ _ _ h
    (λ e q. edge_cons at b bs p (within_edge bs (at + 1) [] p q))
    (λ e q. edge_cons at b bs p (before_edge bs (at + 1) p q))

rule_edge : (known : Bool) (bs : List ℕ) (p : Settled (Event Message)) → rule known bs ≡ some p → Edge 0 bs p
rule_edge false bs p h = before_edge bs 0 p h
rule_edge true bs p h = within_edge bs 0 [] p h

edge : (slice : List ℕ) (place : ℕ) (p : Settled (Event Message)) → rule (known_at slice place) (drop place slice) ≡ some p → known_at slice (place + p.used) ≡ true
edge slice place p h =
    let e = rule_edge (known_at slice place) (drop place slice) p h in
    let some-there : 0 < p.used = e.past in
    let k : place + p.used - 1 ≡ place + (p.used - 0 - 1) = omega arith in
    rw (ne_eqb (place + p.used) 0 (λ z. omega arith))
    (eq-eqb (get_or slice (place + p.used - 1) 0) flag (ap (λ (n : ℕ). get_or slice n 0) k ∙ sym (get_or-drop place slice (p.used - 0 - 1) 0) ∙ e.flagged))

-- ---- a fresh reader that was handed the flag stands where a stretch begins

ready : (known : Bool) → At known (scan next fresh (cond known (flag ∷ []) [])).state
ready false = at_fresh
ready true = rw (flag_first fresh.held) (record { held = fresh.held; full = length-replicate {A = ℕ} body_max 0; is = refl })

handed_bytes : (known : Bool) → T (are_bytes (cond known (flag ∷ []) []))
handed_bytes false = tt
handed_bytes true = tt

-- ---- the facts

found_of : Step → ℕ → Found
found_of q k = record { answer = q.answer; place = k }

slice_facts_lem : SliceFacts comlynx facts slices
unfolding facts found_of
slice_facts_lem = record {
  asks = answers_seen rule known_at header (λ m. m.payload) shown join joins;
  keeps = answers_keeps rule known_at header (λ m. m.payload) shown join joins;
  start = λ slice. refl;
  edge = edge;
  handed_bytes = handed_bytes;
  ready = ready;
  as_step = λ s slice lent later place q h i j k st e. record {
    result = found_of q (place + q.used);
    later = later;
    answers = step_answers rule known_at header (λ m. m.payload) shown next in_range Reader.shown found_of (λ x n. refl) s slice lent later place q h i j k st e;
  };
  leaves = leaves_same rule known_at header (λ m. m.payload) shown next in_range Reader.shown join joins;
}

pub slices_as_streams : SlicesAsStreams
slices_as_streams = Stream.slices_as_streams comlynx facts slices slice_facts_lem
