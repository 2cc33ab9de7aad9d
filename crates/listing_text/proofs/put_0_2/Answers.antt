-- `put_0_2` meets its promise: one field behind the other.
use native.Mathlib.Omega.{arith}
use mathlib.Core.List.{[], ◌∷◌}
use Rattle.listing_text.proofs.MessageWrites.{before_join}
use Rattle.listing_text.proofs.put_0_2.Goals as goal

pub put_start-p-requires : goal.put_start-p-requires
put_start-p-requires c = omega arith

pub put_none-q-requires : goal.put_none-q-requires
put_none-q-requires c = omega arith

pub put_two-requires : goal.put_two-requires
put_two-requires c = omega arith

pub returns : goal.returns
returns c =
    let r = c in
    let q = r in
    let p = q in
    let a = p.args in
    record { put = before_join a.port [] (a.to1 ∷ a.to2 ∷ []) a.lent.now p.put_start-p.new.lent q.put_none-q.new.lent r.put_two.new.lent p.put_start-p.result q.put_none-q.result r.put_two.result p.put_start-p.ensures.put q.put_none-q.ensures.put r.put_two.ensures.put; value = omega arith }
