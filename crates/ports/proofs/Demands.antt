-- The demands of the ports.
-- Assumes nothing.
use Prim.Native.Nat.{ℕ}
use mathlib.Core.Path.{◌≡◌, refl, sym, ap, ◌∙◌, subst}
use mathlib.Core.Logic.{◌⊎◌, inl, inr}
use mathlib.Core.Bool.{Bool, true, false, cond}
use mathlib.Core.Option.{Option, none, some}
use mathlib.Core.List.{List, [], ◌∷◌}
use lib.ListN.{length}
use lib.Dec.{ltb}
use native.Mathlib.Omega.{arith}
use Rattle.numbers.proofs.Alike.{zero_is_one}
use Rattle.answers.specs.declared.Refusal.{Refusal}
use Rattle.answers.proofs.NumbersHaveCases.{damages}
use Rattle.stream.specs.Event.{Event, message, refuses, outcome}
use Rattle.stream.specs.Pieces.{Called, scan}
use Rattle.stream.specs.Call.{Seen, lent_least, unmoved, answered}
use Rattle.stream.specs.Family.{Family, Call, Allowed}
use Rattle.stream.proofs.Demands as Stream
use Rattle.stream.proofs.FamilyFacts.{Facts}
use Rattle.ports.specs.Ports.{Seat, row_of, seat_at, number, stepped, StepsOn}
use Rattle.ports.specs.Demands.{Apart, PortCall, AllowedOn, OwnCalls, ends, another, its, EachAlone, Kept, WrongPort}
use Rattle.ports.specs.declared.Ports.{Ports}
use Rattle.ports.specs.declared.Step.{Step}
use Rattle.ports.specs.declared.Answer.{Answer}
use Rattle.ports.specs.declared.Answer.TheVariants.{Done, ComLynx, Eversolar, Fronius, Drives, Damaged, Refused}
use Rattle.ports.proofs.TableLaws.{some_one, same_seat, no_none, within, outside}
use Rattle.ports.proofs.EveryRow.{facts_of}

-- ---- no reader refuses with 12

no_refusal : {M : Type 0} (o : Option (Event M)) (n : ℕ) → outcome o ≡ refuses n → ⊥
no_refusal none n h = zero_is_one cc
no_refusal (some e) n h = zero_is_one cc

not_12 : {S M : Type 0} (t u : Bool) (s : S) (c : Called S (Event M)) → (cond t (cond u (unmoved {M = M} 9 s) (answered c)) (unmoved 18 s)).told ≡ refuses 12 → ⊥
not_12 true true s c h = let z : ◌≡◌ {A = ℕ} 9 12 = cc in omega arith
not_12 true false s c h = no_refusal c.event 12 h
not_12 false u s c h = let z : ◌≡◌ {A = ℕ} 18 12 = cc in omega arith

-- only a refusal has the number 12
refused_12 : (a : Answer) → number a ≡ 12 → (why : Refusal) × (a ≡ Refused why)
refused_12 Done h = absurd (omega arith)
refused_12 (ComLynx m) h = absurd (omega arith)
refused_12 (Eversolar m) h = absurd (omega arith)
refused_12 (Fronius m) h = absurd (omega arith)
refused_12 (Drives m) h = absurd (omega arith)
refused_12 (Damaged what lost) h = let twelve : ◌≡◌ {A = ℕ} 0 1 = rw h at (damages.once what) in absurd (omega arith)
refused_12 (Refused why) h = (why, refl)

-- ---- on any port of the table

module _ (seat : Seat) where
  abbrev F : Family
  F = (row_of seat).family

  abbrev facts : Facts F
  facts = (facts_of seat).facts

  as_kept : (ports : Ports) (piece lent later : List ℕ) (r : Step) (why : Refusal) → StepsOn (some seat) ports piece lent r later
      → r.answer ≡ Refused why → (r.ports ≡ ports) × (r.used ≡ 0) × (later ≡ lent)
  as_kept ports piece lent later r why (s, step, e, n) h =
      let tells = (facts_of seat).refusal s later why (ap (λ (v : Step). v.answer) (sym e) ∙ h) in
      let k = (Stream.kept F facts).2 ((row_of seat).get ports) piece lent later s _ step tells in
      let same : (row_of seat).reader s ≡ (row_of seat).get ports = sym ((facts_of seat).reader s later) ∙ k.0 in (
        ap (λ (v : Step). v.ports) e ∙ ap ((row_of seat).put ports) same ∙ (facts_of seat).puts_own ports,
        ap (λ (v : Step). v.used) e ∙ sym ((facts_of seat).used s later) ∙ k.1,
        facts.keeps ((row_of seat).get ports) piece lent later s step (λ m g. no_refusal (some (message m)) _ (sym g ∙ tells)),
      )

  as_not_12 : (ports : Ports) (piece lent later : List ℕ) (r : Step) → StepsOn (some seat) ports piece lent r later → number r.answer ≡ 12 → ⊥
  as_not_12 ports piece lent later r (s, step, e, n) h =
      let at = (row_of seat).get ports in
      let own : number ((row_of seat).answer s) ≡ 12 = ap (λ (v : Step). number v.answer) (sym e) ∙ h in
      let refusal = refused_12 ((row_of seat).answer s) own in
      let tells = (facts_of seat).refusal s later refusal.0 refusal.1 ∙ ap refuses (sym (ap number refusal.1) ∙ own) in
      not_12 (facts.in_range at) (ltb (length lent) lent_least) at (scan facts.next at piece)
      (sym (ap (λ (v : Seen F.State F.Message). v.told) (facts.steps at piece lent later s step)) ∙ tells)

  -- a call on another port, or on none
  on_other : (on : Option Seat) (ports : Ports) (piece lent later : List ℕ) (r : Step) → StepsOn on ports piece lent r later
      → (on ≡ some seat → ⊥) → (row_of seat).get r.ports ≡ (row_of seat).get ports
  on_other none ports piece lent later r (e, same, k) n = ap (λ (v : Step). (row_of seat).get v.ports) e
  on_other (some other) ports piece lent later r (s, step, e, k) n =
      ap (λ (v : Step). (row_of seat).get v.ports) e ∙ (facts_of other).others seat ports ((row_of other).reader s) (λ same. n (ap some same))

  -- the calls on it among cs, from these readers
  abbrev Found : Ports → List PortCall → Type 0
  Found ports cs = (owns : List (Call F.Result)) × OwnCalls seat cs owns × Allowed F ((row_of seat).get ports) owns

  -- one call more, on this port or on another
  one_more : (ports : Ports) (c : PortCall) (cs : List PortCall) → AllowedOn ports (c ∷ cs)
      → (seat_at c.port ≡ some seat) ⊎ (seat_at c.port ≡ some seat → ⊥) → Found c.call.result.ports cs → Found ports (c ∷ cs)
  one_more ports c cs al (inl e) (owns, own, allowed) =
      let k = c.call in
      let step = subst (λ (l : Option Seat). StepsOn l ports k.piece k.lent k.result k.later) e al.1 in
      let s = step.0 in
      let again : stepped seat ports s ≡ stepped seat (stepped seat ports s).ports s =
      ap {B = Step} (λ (v : Ports). record { ports = v; answer = (row_of seat).answer s; used = (row_of seat).used s }) (sym ((facts_of seat).puts_again ports ((row_of seat).reader s) ((row_of seat).reader s))) in
      let same = step.2 ∙ again ∙ ap (λ (v : Step). stepped seat v.ports s) (sym step.2) in
      let on = ap (λ (v : Step). (row_of seat).get v.ports) step.2 ∙ (facts_of seat).got ports ((row_of seat).reader s) ∙ sym ((facts_of seat).reader s k.later) in (
        record { piece = k.piece; lent = k.lent; result = s; later = k.later } ∷ owns,
        its e (record { piece = refl; lent = refl; result = same; later = refl }) own,
        (al.0, step.1, subst (λ (v : F.State). Allowed F v owns) on allowed),
      )
  one_more ports c cs al (inr n) (owns, own, allowed) =
      let k = c.call in
      let left = on_other (seat_at c.port) ports k.piece k.lent k.later k.result al.1 n in
      (owns, another n own, subst (λ (v : F.State). Allowed F v owns) left allowed)

  -- a port has this row, or it has not
  is_it : (on : Option Seat) → (on ≡ some seat) ⊎ (on ≡ some seat → ⊥)
  is_it none = inr (λ e. no_none seat (sym e))
  is_it (some other) = go (same_seat other seat)
    where
      go : (other ≡ seat) ⊎ (other ≡ seat → ⊥) → (some other ≡ some seat) ⊎ (some other ≡ some seat → ⊥)
      go (inl e) = inl (ap some e)
      go (inr n) = inr (λ e. n (some_one e))

  alone : (ports : Ports) (cs : List PortCall) → AllowedOn ports cs → Found ports cs
  alone ports [] al = ([], ends, tt)
  alone ports (c ∷ cs) al = one_more ports c cs al (is_it (seat_at c.port)) (alone c.call.result.ports cs al.2)

-- ---- the demands

pub apart : Apart
apart seat ports port = on_other seat (seat_at port) ports

pub each_alone : EachAlone
each_alone = alone

on_kept : (on : Option Seat) (ports : Ports) (piece lent later : List ℕ) (r : Step) (why : Refusal) → StepsOn on ports piece lent r later
    → r.answer ≡ Refused why → (r.ports ≡ ports) × (r.used ≡ 0) × (later ≡ lent)
on_kept none = λ ports piece lent later r why s h. (ap (λ (v : Step). v.ports) s.0, ap (λ (v : Step). v.used) s.0, s.1)
on_kept (some seat) = as_kept seat

pub kept : Kept
kept ports port = on_kept (seat_at port) ports

on_12 : (on : Option Seat) (ports : Ports) (piece lent later : List ℕ) (r : Step) → StepsOn on ports piece lent r later → number r.answer ≡ 12 → on ≡ none
on_12 none ports piece lent later r s h = refl
on_12 (some seat) ports piece lent later r s h = absurd (as_not_12 seat ports piece lent later r s h)

pub wrong_port : WrongPort
wrong_port ports port piece lent later r s = (
  λ h inside. within port inside (on_12 (seat_at port) ports piece lent later r s h),
  λ out. ap (λ (v : Step). number v.answer) (subst (λ (l : Option Seat). StepsOn l ports piece lent r later) (outside port out) s).0,
)
