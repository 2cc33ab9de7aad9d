use Prim.Native.Nat.{ℕ, ◌+◌, ◌-◌, ◌<◌, ◌≤◌}
use mathlib.Core.Path.{subst, ◌≡◌, refl, sym, ◌∙◌, ap}
use mathlib.Core.Option.{none, some}
use mathlib.Core.List.{List}
use lib.ListN.{length, get_or}
use borrow.Author.Tests.{le-ltb}
use native.Mathlib.Omega.{arith}
use Rattle.stream.specs.Event.{Event}
use Rattle.stream.specs.Pieces.{Called, scan_from}
use Rattle.stream.proofs.LoopScans.{from_start, from_goes, from_tells, from_end}
use Rattle.eversolar.specs.Wire.{Message}
use Rattle.eversolar.specs.Machine.{holding, moved, next, advance_of}
use Rattle.eversolar.specs.declared.reader.Reader.{Reader}
use Rattle.eversolar.specs.declared.reader.Move.{Move}
use Rattle.eversolar.specs.declared.reader.Move.TheVariants.{Keep, Size, Close}
use Rattle.eversolar.proofs.StageRanges.{Range, look, body, range_of, in_range_lem, range_len, keeps_range, Asked, asked}
use Rattle.eversolar.proofs.reader.run_in.Goals as goal

-- a state behind AA 55, the piece, and how far: what a byte's move says of the state
asks : (stage count len : ℕ) (m : Move) → 2 ≤ stage → Range stage count len → m ≡ advance_of stage count len → Asked stage count len m
asks stage count len m two r e = subst (Asked stage count len) (sym e) (asked stage count len two r)

module _ (stage count len : ℕ) (held piece : List ℕ) (i : ℕ) (m : Move) (whole : Called Reader (Event Message)) where
  abbrev s : Reader
  s = holding stage count len held

  -- what the byte does,
  does : 2 ≤ stage → m ≡ advance_of stage count len → next s (get_or piece i 0) ≡ moved m s (get_or piece i 0)
  unfolding next
  does two e = rw (le-ltb stage 2 two) (ap (λ (x : Move). moved x s (get_or piece i 0)) (sym e))

  -- where it settles nothing,
  again : (t : Reader) → i < length piece → 2 ≤ stage → m ≡ advance_of stage count len → scan_from next s piece i ≡ whole
      → moved m s (get_or piece i 0) ≡ record { state = t; event = none } → scan_from next t piece (i + 1) ≡ whole
  again t there two e w f = sym (from_goes next s t piece i there (does two e ∙ f)) ∙ w

  -- and where it ends a frame
  tells : (x : Event Message) (t : Reader) → i < length piece → 2 ≤ stage → m ≡ advance_of stage count len → scan_from next s piece i ≡ whole
      → moved m s (get_or piece i 0) ≡ record { state = t; event = some x } → whole ≡ record { state = t; event = some x; used = i + 1 }
  tells x t there two e w f = sym w ∙ from_tells next s t x piece i there (does two e ∙ f)

pub loop-i-init : goal.loop-i-init
loop-i-init c =
    let a = c.args in (
      omega arith,
      range_of a.stage a.count a.len c.requires,
      from_start next (holding a.stage a.count a.len a.held.now) a.piece.now,
    )

pub fill-kept-requires : goal.fill-kept-requires
fill-kept-requires c =
    let l = c.loop-i in
    let h = asks l.stage l.count l.len Keep c.if-stage-lt-IN_LEAD.false l.invariant.1 c.in-Keep.ensures in
    (c.if-stage-lt-IN_LEAD.false, range_len _ _ _ l.invariant.1, omega (arith, h), omega arith)

pub loop-i-preserved-in-Keep : goal.loop-i-preserved-in-Keep
loop-i-preserved-in-Keep c =
    let l = c.loop-i in
    let f = c.fill-kept.ensures in
    let n = l.count + (c.fill-kept.result - l.i) in (
      f.within,
      keeps_range l.stage l.count l.len n c.if-stage-lt-IN_LEAD.false l.invariant.1 (omega arith) f.room,
      sym f.goes ∙ l.invariant.2,
    )

pub loop-i-preserved : goal.loop-i-preserved
unfolding moved
loop-i-preserved c =
    let l = c.loop-i in
    let small : get_or c.args.piece.now l.i 0 < 256 = omega (arith, c.type_inv.piece l.i) in
    let length_read = c.from-len.ensures in (
      omega arith,
      body refl (omega arith) (omega arith) (omega arith),
      rw length_read (again l.stage l.count l.len l.held c.args.piece.now l.i Size _ _ c.loop-i-test.true c.if-stage-lt-IN_LEAD.false c.in-Size.ensures l.invariant.2 refl),
    )

pub returns-in-Close : goal.returns-in-Close
unfolding moved
returns-in-Close c =
    let l = c.loop-i in
    record {
      fits = range_len _ _ _ l.invariant.1;
      ranged = in_range_lem _ _ _ (look (omega arith) refl refl);
      scanned = tells l.stage l.count l.len l.held c.args.piece.now l.i Close _ _ _ c.loop-i-test.true c.if-stage-lt-IN_LEAD.false c.in-Close.ensures l.invariant.2 refl;
    }

pub returns : goal.returns
returns c =
    let l = c.loop-i in
    record {
      fits = tt;
      ranged = in_range_lem _ _ _ l.invariant.1;
      scanned = sym l.invariant.2 ∙ from_end next (holding l.stage l.count l.len l.held) c.args.piece.now l.i c.loop-i-test.false;
    }
