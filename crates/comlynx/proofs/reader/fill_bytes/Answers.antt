use Prim.Native.Nat.{ℕ, ◌+◌, ◌-◌}
use Rattle.comlynx.proofs.FillScans.{filled_more, filled_one}
use borrow.Author.Rules.{rules}
use native.Mathlib.Omega.{arith}
use Rattle.comlynx.proofs.reader.fill_bytes.Goals as goal

-- one plain byte more
pub loop-i-preserved : goal.loop-i-preserved
loop-i-preserved c =
    let a = c.args in
    let l = c.loop-i in
    let at : ℕ = a.count + (l.i - a.from) in
    filled_more a.count a.held.now a.piece.now a.from l.i l.held at (l.i + 1) _ (omega arith) l.invariant
    (filled_one at l.held a.piece.now l.i (omega arith) (omega arith) (search rules))
