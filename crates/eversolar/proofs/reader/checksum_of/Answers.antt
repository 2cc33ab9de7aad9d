use Prim.Native.Nat.{◌%◌, ◌+◌, ◌-◌, ℕ}
use Rattle.eversolar.specs.Wire.{checksum}
use Rattle.eversolar.proofs.MachineMoves.{total_earlier}
use native.Mathlib.Omega.{arith}
use mathlib.Core.Path.{◌≡◌, ap}
use lib.ListN.{take, drop}
use Rattle.eversolar.proofs.reader.checksum_of.Goals as goal

pub returns : goal.returns
unfolding checksum
returns c =
    let a = c.args in
    let s = a.s.now in
    let cut : 7 + a.len - 7 ≡ a.len = omega arith in
    ap (λ (n : ℕ). n % 65536) (omega (arith, c.from.ensures, c.from-2.ensures, c.total_of.ensures.0, rw cut at c.total_of-2.ensures.0, total_earlier (take 6 s) a.len (take a.len (drop 7 s))))
