use Prim.Native.Nat.{ℕ, ◌+◌, ◌<◌}
use mathlib.Core.Path.{◌≡◌, ◌∙◌}
use mathlib.Core.List.{List}
use lib.ListN.{length, get_or}
use borrow.Author.Tests.{eq-eqb, ne_eqb}
use native.Mathlib.Omega.{arith}
use Rattle.stream.specs.Pieces.{scan_from}
use Rattle.stream.proofs.LoopScans.{from_goes}
use Rattle.eversolar.specs.Machine.{holding, looked_of, next}
use Rattle.eversolar.proofs.MachineMoves.{look_on}
use Rattle.eversolar.proofs.reader.hunt.Goals as goal

-- where a byte at index i is there and stage s stands, it leads to stage t
goes : (p : List ℕ) (i s t : ℕ) → i < length p → s < 2 → looked_of s (get_or p i 0) ≡ t
    → (count len : ℕ) (held : List ℕ) → scan_from next (holding s count len held) p i ≡ scan_from next (holding t count len held) p (i + 1)
goes p i s t there lt e count len held =
    from_goes next (holding s count len held) (holding t count len held) p i there (look_on s t count len held (get_or p i 0) lt e)

pub loop-i-preserved-then-b : goal.loop-i-preserved-then-b
unfolding looked_of
loop-i-preserved-then-b c = (
  omega arith,
  omega arith,
  omega arith,
  λ count len held. c.loop-i.invariant.3 count len held
      ∙ goes c.args.piece.now c.loop-i.i c.loop-i.stage 1 c.if-piece-i.false c.loop-i.invariant.2 (rw (c.if-stage-b.false, eq-eqb _ _ c.if-b.true)) count len held,
)

pub loop-i-preserved : goal.loop-i-preserved
unfolding looked_of
loop-i-preserved c = (
  omega arith,
  omega arith,
  omega arith,
  λ count len held. c.loop-i.invariant.3 count len held
      ∙ goes c.args.piece.now c.loop-i.i c.loop-i.stage 0 c.if-piece-i.false c.loop-i.invariant.2 (rw (c.if-stage-b.false, ne_eqb _ _ c.if-b.false)) count len held,
)

pub returns-then-stage-b : goal.returns-then-stage-b
unfolding looked_of
returns-then-stage-b c = (
  omega arith,
  omega arith,
  λ count len held. c.loop-i.invariant.3 count len held
      ∙ goes c.args.piece.now c.loop-i.i c.loop-i.stage 2 c.if-piece-i.false c.loop-i.invariant.2 (rw c.if-stage-b.true) count len held,
)
