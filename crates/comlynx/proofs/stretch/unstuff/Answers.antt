-- a front is taken in, and behind it stands an escape
use Rattle.comlynx.proofs.StretchUnstuffed.{so_far_first, so_far_part, so_far_pair, so_far_broken, so_far_all}
use Rattle.comlynx.specs.Machine.{closed}
use Prim.Native.Nat.{ℕ, ◌+◌}
use mathlib.Core.Path.{sym, ap, ◌∙◌}
use native.Mathlib.Omega.{arith}
use borrow.Author.Rules.{rules}
use Rattle.comlynx.proofs.stretch.unstuff.Goals as goal

pub loop-i-init : goal.loop-i-init
loop-i-init c =
    let a = c.args in
    (so_far_first a.stretch.now a.held.now a.first _ _ (search rules) c.requires.0 c.keep_part-count.ensures, c.requires.1)

pub returns-in_default : goal.returns-in_default
returns-in_default c =
    let l = c.loop-i in
    let h = c.loop-i-test.true in
    so_far_broken c.args.stretch.now l.count l.held l.i _ l.invariant.0 h (l.invariant.1 h) (sym c.in_default.is ∙ c.pair_at.ensures) (omega (arith, c.plus-came.ensures))

-- what its pair stands for is taken in too
pub loop-i-preserved : goal.loop-i-preserved
loop-i-preserved c =
    let s = c.args.stretch.now in
    let l = c.loop-i in
    let h = c.loop-i-test.true in
    let taken = so_far_pair s l.count l.held l.i c.in-Some.v _ _ l.invariant.0 h (l.invariant.1 h) (sym c.in-Some.is ∙ c.pair_at.ensures) c.keep_part-more.ensures in
    (so_far_part s c.keep_part-more.result c.keep_part-more.new.held (l.i + 2) c.byte_from-i.result _ _ taken c.byte_from-i.ensures.0 c.keep_part-count-in-loop-i.ensures, c.byte_from-i.ensures.1)

pub returns : goal.returns
returns c =
    let l = c.loop-i in
    let s = c.args.stretch.now in
    ap (λ (n : ℕ). closed c.plus-came.result n l.held) c.unwrap_or.ensures
    ∙ so_far_all s l.count l.held l.i c.plus-came.result l.invariant.0 c.loop-i-test.false (omega (arith, c.plus-came.ensures))
