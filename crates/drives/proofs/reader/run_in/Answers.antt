use mathlib.Core.Path.{subst}
use mathlib.Core.Option.{none, some}
use mathlib.Core.List.{List}
use Rattle.stream.specs.Event.{Event}
use Rattle.stream.specs.Pieces.{Called, scan_from}
use Rattle.stream.proofs.LoopScans.{from_start, from_goes, from_tells, from_end}
use Rattle.drives.specs.Wire.{Message}
use Rattle.drives.specs.Machine.{holding, inside, on, advance_of, moved, next}
use Rattle.drives.specs.declared.reader.Reader.{Reader}
use Rattle.drives.specs.declared.reader.Move.{Move}
use Rattle.drives.specs.declared.reader.Move.TheVariants.{Skip, Open, Keep, Over, Close}
use Rattle.drives.proofs.StageRanges.{Range, looks, reads, range_of, in_range_lem, not_looking, Asked, asked}
use native.Mathlib.Omega.{arith}
use Prim.Native.Nat.{ℕ, ◌+◌, ◌<◌}
use mathlib.Core.Path.{◌≡◌, refl, sym, ◌∙◌, ap}
use lib.ListN.{length, get_or}
use Rattle.drives.proofs.reader.run_in.Goals as goal

pub loop-i-init : goal.loop-i-init
loop-i-init c =
    let a = c.args in
    (omega arith, range_of a.stage a.count c.requires, from_start next (holding a.stage a.count a.held.now) a.piece.now)

-- what a byte's move says of the state before it
asks : (stage count b : ℕ) (m : Move) → advance_of stage count b ≡ m → Range stage count → Asked stage count b m
asks stage count b m e r = subst (Asked stage count b) e (asked stage count b r)

-- what the byte does, and how the call goes on
module _ (stage count : ℕ) (held piece : List ℕ) (i : ℕ) (m : Move) (e : advance_of stage count (get_or piece i 0) ≡ m) where
  does : next (holding stage count held) (get_or piece i 0) ≡ moved m (holding stage count held) (get_or piece i 0)
  unfolding next
  does = ap (λ (x : Move). moved x (holding stage count held) (get_or piece i 0)) e

  again : {whole : Called Reader (Event Message)} → i < length piece → scan_from next (holding stage count held) piece i ≡ whole → (t : Reader)
      → moved m (holding stage count held) (get_or piece i 0) ≡ record { state = t; event = none } → scan_from next t piece (i + 1) ≡ whole
  again h w t f = sym (from_goes next (holding stage count held) t piece i h (does ∙ f)) ∙ w

  tells : {whole : Called Reader (Event Message)} → i < length piece → scan_from next (holding stage count held) piece i ≡ whole → (x : Event Message) (t : Reader)
      → moved m (holding stage count held) (get_or piece i 0) ≡ record { state = t; event = some x } → whole ≡ record { state = t; event = some x; used = i + 1 }
  tells h w x t f = sym w ∙ from_tells next (holding stage count held) t x piece i h (does ∙ f)

pub loop-i-preserved-in-Skip : goal.loop-i-preserved-in-Skip
unfolding moved
loop-i-preserved-in-Skip c =
    let l = c.loop-i in
    let p = c.args.piece.now in
    let e : advance_of l.stage l.count (get_or p l.i 0) ≡ Skip = sym c.advance-m.ensures ∙ c.in-Skip.is in
    (omega arith, l.invariant.1, again l.stage l.count l.held p l.i Skip e c.loop-i-test.true l.invariant.2 _ refl)

pub loop-i-preserved-in-Open : goal.loop-i-preserved-in-Open
unfolding moved
loop-i-preserved-in-Open c =
    let l = c.loop-i in
    let p = c.args.piece.now in
    let e : advance_of l.stage l.count (get_or p l.i 0) ≡ Open = sym c.advance-m.ensures ∙ c.in-Open.is in
    let h : Asked l.stage l.count (get_or p l.i 0) Open = asks _ _ _ Open e l.invariant.1 in
    (omega arith, reads h.2 (omega arith), again l.stage l.count l.held p l.i Open e c.loop-i-test.true l.invariant.2 _ refl)

pub bounds-held-count : goal.bounds-held-count
bounds-held-count c =
    let l = c.loop-i in
    let p = c.args.piece.now in
    let e : advance_of l.stage l.count (get_or p l.i 0) ≡ Keep = sym c.advance-m.ensures ∙ c.in-Keep.is in
    let h : Asked l.stage l.count (get_or p l.i 0) Keep = asks _ _ _ Keep e l.invariant.1 in
    omega arith

pub overflow_add-next : goal.overflow_add-next
overflow_add-next c =
    let l = c.loop-i in
    let p = c.args.piece.now in
    let e : advance_of l.stage l.count (get_or p l.i 0) ≡ Keep = sym c.advance-m.ensures ∙ c.in-Keep.is in
    let h : Asked l.stage l.count (get_or p l.i 0) Keep = asks _ _ _ Keep e l.invariant.1 in
    omega arith

pub fill-j-requires : goal.fill-j-requires
fill-j-requires c =
    let l = c.loop-i in
    let p = c.args.piece.now in
    let e : advance_of l.stage l.count (get_or p l.i 0) ≡ Keep = sym c.advance-m.ensures ∙ c.in-Keep.is in
    let h : Asked l.stage l.count (get_or p l.i 0) Keep = asks _ _ _ Keep e l.invariant.1 in
    (omega arith, omega arith)

pub overflow_sub-count : goal.overflow_sub-count
overflow_sub-count c = c.fill-j.ensures.forward

pub overflow_add-count : goal.overflow_add-count
overflow_add-count c = omega (arith, c.fill-j.ensures.room)

pub loop-i-smaller-in-Keep : goal.loop-i-smaller-in-Keep
loop-i-smaller-in-Keep c = let f = c.fill-j.ensures in omega (arith, f.forward, f.within)

pub loop-i-preserved-in-Keep : goal.loop-i-preserved-in-Keep
unfolding moved
loop-i-preserved-in-Keep c =
    let l = c.loop-i in
    let p = c.args.piece.now in
    let e : advance_of l.stage l.count (get_or p l.i 0) ≡ Keep = sym c.advance-m.ensures ∙ c.in-Keep.is in
    let h : Asked l.stage l.count (get_or p l.i 0) Keep = asks _ _ _ Keep e l.invariant.1 in
    let f = c.fill-j.ensures in (
      f.within,
      reads h.0 (omega (arith, f.room)),
      sym (f.goes l.stage (not_looking l.stage h.0)) ∙ again l.stage l.count l.held p l.i Keep e c.loop-i-test.true l.invariant.2 _ refl,
    )

pub overflow_add-count-in-Over : goal.overflow_add-count-in-Over
overflow_add-count-in-Over c =
    let l = c.loop-i in
    let p = c.args.piece.now in
    let e : advance_of l.stage l.count (get_or p l.i 0) ≡ Over = sym c.advance-m.ensures ∙ c.in-Over.is in
    let h : Asked l.stage l.count (get_or p l.i 0) Over = asks _ _ _ Over e l.invariant.1 in
    omega arith

pub loop-i-preserved : goal.loop-i-preserved
unfolding moved
loop-i-preserved c =
    let l = c.loop-i in
    let p = c.args.piece.now in
    let e : advance_of l.stage l.count (get_or p l.i 0) ≡ Over = sym c.advance-m.ensures ∙ c.in-Over.is in
    let h : Asked l.stage l.count (get_or p l.i 0) Over = asks _ _ _ Over e l.invariant.1 in (
      omega arith,
      reads h.0 (omega arith),
      again l.stage l.count l.held p l.i Over e c.loop-i-test.true l.invariant.2 _ (ap (λ (n : ℕ). on (inside l.stage n l.held)) (sym c.min-count.ensures)),
    )

pub returns-in-Close : goal.returns-in-Close
unfolding moved
returns-in-Close c =
    let l = c.loop-i in
    let p = c.args.piece.now in
    let e : advance_of l.stage l.count (get_or p l.i 0) ≡ Close = sym c.advance-m.ensures ∙ c.in-Close.is in
    let h : Asked l.stage l.count (get_or p l.i 0) Close = asks _ _ _ Close e l.invariant.1 in
    record { fits = h.2; ranged = in_range_lem _ _ (looks refl refl); scanned = tells l.stage l.count l.held p l.i Close e c.loop-i-test.true l.invariant.2 _ _ refl }

pub returns : goal.returns
returns c =
    let l = c.loop-i in
    record {
      fits = tt;
      ranged = in_range_lem _ _ l.invariant.1;
      scanned = sym l.invariant.2 ∙ from_end next (holding l.stage l.count l.held) c.args.piece.now l.i c.loop-i-test.false;
    }
