-- `put_one` meets its promise: two digits, and a space behind them.
use native.Mathlib.Omega.{arith}
use mathlib.Core.List.{[], ◌∷◌}
use Rattle.listing_text.specs.Lines.{hex}
use Rattle.listing_text.proofs.PutsJoin.{and}
use Rattle.listing_text.proofs.hex.put_one.Goals as goal

pub put_byte-p-requires : goal.put_byte-p-requires
put_byte-p-requires c = omega arith

pub returns : goal.returns
returns c =
    let r = c in
    let a = r.args in
    let p = r.put_byte-p in
    record { put = and a.lent.now p.new.lent (hex (a.a ∷ [])) a.at p.result 32 p.ensures; value = omega (arith, p.ensures.0) }
