-- `put_two` meets its promise: two digits, and the field of the other byte behind them.
use native.Mathlib.Omega.{arith}
use mathlib.Core.List.{[], ◌∷◌, ◌++◌}
use Rattle.listing_text.specs.Lines.{hex, field}
use Rattle.listing_text.proofs.PutsJoin.{then}
use Rattle.listing_text.proofs.hex.put_two.Goals as goal

pub put_byte-p-requires : goal.put_byte-p-requires
put_byte-p-requires c = omega arith

pub put_one-requires : goal.put_one-requires
put_one-requires c = omega arith

pub returns : goal.returns
returns c =
    let s = c in
    let r = s in
    let a = r.args in
    let p = r.put_byte-p in
    let q = s.put_one in
    record { put = then a.lent.now p.new.lent q.new.lent (hex (a.a ∷ [])) (field (a.b ∷ []) ++ (32 ∷ [])) a.at p.result q.result p.ensures q.ensures.put; value = omega (arith, p.ensures.0, q.ensures.value) }
