-- `pattern`: what equals itself is no NaN.
use Rattle.std.proofs.Common.{◌≡◌, false}
use mathlib.Core.Bool.{not, true≢false}
use lib.Dec.{T}
use lib.Ieee.{Float, nan, inf, fin, eq, ne, is_nan}
use Rattle.test_probe_calls.proofs.values.pattern.Goals as goal

no_nan : (x : Float) → ne x x ≡ false → T (not (is_nan x))
unfolding ne eq is_nan
no_nan nan e = absurd (true≢false e)
no_nan (inf s) e = tt
no_nan (fin s m k) e = tt

pub float_to_bits-result : goal.float_to_bits-result
float_to_bits-result c = no_nan c.args.x c.if-x.false
