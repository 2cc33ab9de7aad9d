-- `put_number` meets its promise: one digit or more, and a byte behind them.
use native.Mathlib.Omega.{arith}
use Prim.Native.Nat.{◌+◌}
use mathlib.Core.Path.{refl, ap}
use mathlib.Core.List.{[], ◌∷◌}
use lib.ListN.{length, set, length-set}
use Rattle.listing_text.specs.Lines.{decimal}
use Rattle.listing_text.proofs.FieldLengths.{decimal_digit, decimal_10}
use Rattle.listing_text.proofs.PutsJoin.{and}
use Rattle.listing_text.proofs.decimal.put_number.Goals as goal

pub bounds-lent-at-then-n-le9 : goal.bounds-lent-at-then-n-le9
bounds-lent-at-then-n-le9 c = simp length-set (omega (arith, decimal_10 c.args.n (omega arith)))

pub returns-then-n-le9 : goal.returns-then-n-le9
returns-then-n-le9 c =
    let a = c.args in
    let d = 48 + a.n in
    let one = decimal_digit a.n (omega arith) in
    let put = and a.lent.now (set a.lent.now a.at d) (d ∷ []) a.at (a.at + 1) a.after (refl, refl) in
    record { put = rw one (omega arith, put.1); value = omega (arith, ap length one) }

pub returns : goal.returns
returns c =
    let a = c.args in
    let r = c.put_decimal-p in
    record { put = and a.lent.now r.new.lent (decimal a.n) a.at r.result a.after r.ensures; value = omega (arith, r.ensures.0) }
