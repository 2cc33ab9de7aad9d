-- `places` meets its promise: a digit, and those of what is left of the number.
use native.Mathlib.Omega.{arith}
use Rattle.listing_text.proofs.FieldLengths.{decimal_one, decimal_longer, decimal_64}
use Rattle.listing_text.proofs.decimal.+places.Goals as goal

pub returns-then-n-ge10 : goal.returns-then-n-ge10
returns-then-n-ge10 t c =
    let n = c.args.n in
    let long = decimal_longer n (omega arith) in
    record { value = omega (arith, long, c.places.ensures.value); upper_bound = omega (arith, long, c.places.ensures.value, decimal_64 n (omega arith)) }

pub returns : goal.returns
returns t c = record { value = rw (decimal_one c.args.n (omega arith)); upper_bound = omega arith }
