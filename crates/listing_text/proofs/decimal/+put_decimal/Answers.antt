-- `put_decimal` meets its promise: the digits of what is left of the number, and the last.
use native.Mathlib.Omega.{arith}
use Prim.Native.Nat.{◌/◌, ◌%◌, ◌+◌}
use Rattle.listing_text.specs.Lines.{decimal}
use Rattle.listing_text.proofs.FieldLengths.{decimal_one, decimal_more, decimal_longer, decimal_some}
use Rattle.listing_text.proofs.PutsJoin.{and}
use Rattle.listing_text.proofs.decimal.+put_decimal.Goals as goal

pub bounds-lent-at : goal.bounds-lent-at
bounds-lent-at t c = omega (arith, decimal_some c.args.n)

pub returns-then-n-lt10 : goal.returns-then-n-lt10
returns-then-n-lt10 t c =
    let e = decimal_one c.args.n (omega arith) in
    (rw e, rw e)

pub put_decimal-p-requires : goal.put_decimal-p-requires
put_decimal-p-requires t c = (omega arith, omega (arith, decimal_longer c.args.n (omega arith)))

pub bounds-lent-p : goal.bounds-lent-p
bounds-lent-p t c = omega (arith, decimal_longer c.args.n (omega arith), c.put_decimal-p.ensures.0)

pub overflow_add-result-2 : goal.overflow_add-result-2
overflow_add-result-2 t c = omega (arith, decimal_longer c.args.n (omega arith), c.put_decimal-p.ensures.0)

pub returns : goal.returns
returns t c =
    let a = c.args in
    let r = c.put_decimal-p in
    rw (decimal_more a.n (omega arith)) (and a.lent.now r.new.lent (decimal (a.n / 10)) a.at r.result (48 + a.n % 10) r.ensures)
