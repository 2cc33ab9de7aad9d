-- `remove` meets its promise: 18, then 16, then the place is written over.
use mathlib.Core.Path.{refl, sym, ◌∙◌}
use native.Mathlib.Omega.{arith}
use Rattle.roster.proofs.SoundTest.{fine_size}
use Rattle.roster.proofs.CallEnds.{held, remove_spoilt, remove_none, remove_done}
use Rattle.roster.proofs.remove.Goals as goal

pub returns-then-is_spoilt : goal.returns-then-is_spoilt
returns-then-is_spoilt c = remove_spoilt c.args.roster.now c.args.address (sym c.is_spoilt.ensures ∙ c.if-is_spoilt.true)

pub none_at-requires : goal.none_at-requires
none_at-requires c = fine_size _ (sym c.is_spoilt.ensures ∙ c.if-is_spoilt.false)

pub returns-then-none_at : goal.returns-then-none_at
returns-then-none_at c =
    remove_none c.args.roster.now c.args.address (sym c.is_spoilt.ensures ∙ c.if-is_spoilt.false) (sym c.none_at.ensures ∙ c.if-none_at.true)

pub overflow_sub-k : goal.overflow_sub-k
overflow_sub-k c = omega (arith, (held _ _ (sym c.none_at.ensures ∙ c.if-none_at.false)).above)

pub put-requires : goal.put-requires
put-requires c =
    let holder = held _ _ (sym c.none_at.ensures ∙ c.if-none_at.false) in
    (fine_size _ (sym c.is_spoilt.ensures ∙ c.if-is_spoilt.false), omega (arith, holder.above, holder.within), refl)

pub returns : goal.returns
returns c =
    remove_done c.args.roster.now c.args.address _ (sym c.is_spoilt.ensures ∙ c.if-is_spoilt.false) (sym c.none_at.ensures ∙ c.if-none_at.false) c.put.ensures
