use mathlib.Core.Path.{◌≡◌, refl, sym, ◌∙◌, ap, subst}
use mathlib.Core.Option.{none, some}
use mathlib.Core.List.{List}
use Prim.Native.Nat.{ℕ, ◌+◌, ◌-◌, ◌<◌, ◌≤◌}
use lib.ListN.{get_or}
use native.Mathlib.Omega.{arith}
use Rattle.stream.specs.Event.{Event}
use Rattle.stream.specs.Pieces.{Called, scan, scan_from}
use Rattle.stream.proofs.LoopScans.{from_start, from_goes, from_tells, from_end}
use Rattle.comlynx.specs.Wire.{Message, body_max}
use Rattle.comlynx.specs.Rules.{lost_max}
use Rattle.comlynx.specs.Machine.{too_many, inside, escaped, broken, more, on, moved, next}
use Rattle.comlynx.specs.declared.reader.Reader.{Reader}
use Rattle.comlynx.specs.declared.reader.Move.{Move}
use Rattle.comlynx.specs.declared.reader.Move.TheVariants.{Skip, Open, Mark, Spoil, Keep, Over, Close, Fail}
use Rattle.comlynx.specs.Inside.{with_held}
use Rattle.comlynx.proofs.StageRanges.{within, range_of, in_range_lem, range_count, more_most, more_more, Asked, asked}
use Rattle.comlynx.proofs.reader.run_in.Goals as goal
use Rattle.comlynx.proofs.reader.run_in.Goals.{After-advance-m}

pub loop-i-init : goal.loop-i-init
loop-i-init c =
    let a = c.args in (
      omega arith,
      range_of a.state.stage a.state.came a.state.count c.requires,
      from_start next (with_held a.state a.held.now) a.piece.now,
    )

-- where a byte's move is known: the state before the byte, the piece, how far, and the whole call
abbrev St : After-advance-m → Reader
St c = let l = c.loop-i in with_held l.state l.held

abbrev P : After-advance-m → List ℕ
P c = c.args.piece.now

abbrev I : After-advance-m → ℕ
I c = c.loop-i.i

abbrev Whole : After-advance-m → Called Reader (Event Message)
Whole c = let a = c.args in scan next (with_held a.state a.held.now) (P c)

-- a count that `plus` gave is in range
capped : (r came n : ℕ) → r ≡ more came n → r ≤ lost_max
capped r came n e = omega (arith, e, more_most came n)

-- what the move says of the state, and what the byte does
few : (c : After-advance-m) → c.loop-i.state.count ≤ too_many
few c = range_count _ _ _ c.loop-i.invariant.1

kept : (c : After-advance-m) (v : ℕ) → c.advance-m.result ≡ Keep v → c.loop-i.state.count < body_max
kept c v e = subst (Asked c.loop-i.state.count) (sym c.advance-m.ensures ∙ e) (asked c.loop-i.state.stage c.loop-i.state.count (get_or (P c) (I c) 0))

does : (c : After-advance-m) (m : Move) → c.advance-m.result ≡ m → next (St c) (get_or (P c) (I c) 0) ≡ moved m (St c)
unfolding next
does c m e = ap (λ (x : Move). moved x (St c)) (sym c.advance-m.ensures ∙ e)

again : (c : After-advance-m) (m : Move) (t : Reader) → c.advance-m.result ≡ m → moved m (St c) ≡ record { state = t; event = none }
    → scan_from next t (P c) (I c + 1) ≡ Whole c
again c m t e f = sym (from_goes next (St c) t (P c) (I c) c.loop-i-test.true (does c m e ∙ f)) ∙ c.loop-i.invariant.2

tells : (c : After-advance-m) (m : Move) (x : Event Message) (t : Reader) → c.advance-m.result ≡ m → moved m (St c) ≡ record { state = t; event = some x }
    → Whole c ≡ record { state = t; event = some x; used = I c + 1 }
tells c m x t e f = sym c.loop-i.invariant.2 ∙ from_tells next (St c) t x (P c) (I c) c.loop-i-test.true (does c m e ∙ f)

pub loop-i-preserved-in-Skip : goal.loop-i-preserved-in-Skip
unfolding moved
loop-i-preserved-in-Skip c =
    let k = (goal.at.loop-i-preserved-in-Skip c).After-advance-m in
    (omega arith, c.loop-i.invariant.1, again k Skip _ c.in-Skip.is refl)

pub loop-i-preserved-in-Open : goal.loop-i-preserved-in-Open
unfolding moved
loop-i-preserved-in-Open c =
    let k = (goal.at.loop-i-preserved-in-Open c).After-advance-m in
    (omega arith, within (omega arith) (omega arith) (omega arith) (omega arith), again k Open _ c.in-Open.is refl)

pub loop-i-preserved-in-Mark : goal.loop-i-preserved-in-Mark
unfolding moved
loop-i-preserved-in-Mark c =
    let l = c.loop-i in
    let k = (goal.at.loop-i-preserved-in-Mark c).After-advance-m in (
      omega arith,
      within (omega arith) (omega arith) (capped _ _ _ c.plus.ensures) (few k),
      again k Mark _ c.in-Mark.is (ap (λ (r : ℕ). on (escaped r l.state.count l.held)) (sym c.plus.ensures)),
    )

pub loop-i-preserved-in-Spoil : goal.loop-i-preserved-in-Spoil
unfolding moved
loop-i-preserved-in-Spoil c =
    let l = c.loop-i in
    let k = (goal.at.loop-i-preserved-in-Spoil c).After-advance-m in (
      omega arith,
      within (omega arith) (omega arith) (capped _ _ _ c.plus-in-Spoil.ensures) (few k),
      again k Spoil _ c.in-Spoil.is (ap (λ (r : ℕ). on (broken r l.state.count l.held)) (sym c.plus-in-Spoil.ensures)),
    )

pub bounds-held-state : goal.bounds-held-state
bounds-held-state c = let h = kept (goal.at.bounds-held-state c).After-advance-m _ c.in-Keep.is in omega arith

pub fill-j-requires : goal.fill-j-requires
fill-j-requires c =
    let h = kept (goal.at.fill-j-requires c).After-advance-m _ c.in-Keep.is in
    (omega arith, omega arith)

pub loop-i-preserved-in-Keep : goal.loop-i-preserved-in-Keep
unfolding moved
loop-i-preserved-in-Keep c =
    let k = (goal.at.loop-i-preserved-in-Keep c).After-advance-m in
    let f = c.fill-j.ensures in
    let l = c.loop-i in
    let taken = c.fill-j.result - (l.i + 1) in
    let sent = c.plus-in-Keep.ensures ∙ sym (more_more l.state.came 1 taken) in (
      f.within,
      within (omega arith) (omega arith) (capped _ _ _ c.plus-in-Keep.ensures) (omega (arith, f.room)),
      ap (λ (r : ℕ). scan_from next (inside r (l.state.count + 1 + taken) c.fill-j.new.held) (P k) c.fill-j.result) sent
          ∙ sym (f.goes (more l.state.came 1) (more_most l.state.came 1))
          ∙ again k (Keep _) _ c.in-Keep.is refl,
    )

pub loop-i-preserved : goal.loop-i-preserved
unfolding moved
loop-i-preserved c =
    let l = c.loop-i in
    let k = (goal.at.loop-i-preserved c).After-advance-m in (
      omega arith,
      within (omega arith) (omega arith) (capped _ _ _ c.plus-in-Over.ensures) (omega arith),
      again k Over _ c.in-Over.is (ap (λ (r : ℕ). on (inside r too_many l.held)) (sym c.plus-in-Over.ensures)),
    )

pub returns-in-Close : goal.returns-in-Close
unfolding moved
returns-in-Close c =
    let k = (goal.at.returns-in-Close c).After-advance-m in
    record { ranged = in_range_lem _ _ _ (within (omega arith) (omega arith) (omega arith) (omega arith)); scanned = tells k Close _ _ c.in-Close.is refl }

pub returns-in-Fail : goal.returns-in-Fail
unfolding moved
returns-in-Fail c =
    let k = (goal.at.returns-in-Fail c).After-advance-m in
    record { ranged = in_range_lem _ _ _ (within (omega arith) (omega arith) (omega arith) (omega arith)); scanned = tells k Fail _ _ c.in-Fail.is refl }

pub returns : goal.returns
returns c =
    let l = c.loop-i in
    record {
      ranged = in_range_lem _ _ _ l.invariant.1;
      scanned = sym l.invariant.2 ∙ from_end next (with_held l.state l.held) c.args.piece.now l.i c.loop-i-test.false;
    }
