use Prim.Native.Nat.{ℕ, ◌+◌, ◌-◌}
use mathlib.Core.Path.{◌≡◌, ◌∙◌, ap}
use mathlib.Core.Bool.{false}
use lib.ListN.{drop}
use borrow.Author.Tests.{eq-eqb, ne_eqb}
use native.Mathlib.Omega.{arith}
use Rattle.eversolar.specs.Rules.{sought}
use Rattle.eversolar.proofs.SearchFindsFrame.{marks, misses, meets, ends}
use Rattle.eversolar.proofs.slice.mark_from.Goals.{else-slice-i-via-then-slice-i+else-slice-i-eq-SECOND_MARK, else-slice-i-via-else-slice-i}
use Rattle.eversolar.proofs.slice.mark_from.Goals as goal

pub returns-then-slice-i-eq-SECOND_MARK : goal.returns-then-slice-i-eq-SECOND_MARK
returns-then-slice-i-eq-SECOND_MARK c =
    let s = c.args.slice.now in
    let i = c.loop-i.i in
    record {
      forward = omega arith;
      within = omega arith;
      finds = c.loop-i.invariant.2 ∙ meets s i (i - c.args.from) (omega arith) (rw (eq-eqb _ _ c.if-slice-i.true, c.if-slice-i-eq-SECOND_MARK.true));
    }

pub loop-i-preserved : goal.loop-i-preserved
loop-i-preserved c =
    let s = c.args.slice.now in
    let i = c.loop-i.i in
    let from = c.args.from in
    let one : i - from + 1 ≡ i + 1 - from = omega arith in
    let missed : marks s i ≡ false = elim c.else-slice-i.branch [
      | else-slice-i-via-then-slice-i+else-slice-i-eq-SECOND_MARK w ↦ rw (eq-eqb _ _ w.if-slice-i.true, ne_eqb _ _ w.if-slice-i-eq-SECOND_MARK.false)
      | else-slice-i-via-else-slice-i w ↦ rw (ne_eqb _ _ w.if-slice-i.false)
    ] in
    (omega arith, omega arith, c.loop-i.invariant.2 ∙ misses s i (i - from) (omega arith) missed ∙ ap (λ (n : ℕ). sought n (drop (i + 1) s)) one)

pub returns : goal.returns
returns c =
    let s = c.args.slice.now in
    let i = c.loop-i.i in
    c.loop-i.invariant.2 ∙ ends s i (i - c.args.from) (omega arith)
