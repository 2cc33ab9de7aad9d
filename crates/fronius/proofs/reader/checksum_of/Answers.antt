-- `reader::checksum_of`: the sum, modulo 256.
use native.Mathlib.Omega.{arith}
use Rattle.fronius.specs.Wire.{checksum}
use Rattle.fronius.proofs.reader.checksum_of.Goals as goal

pub returns : goal.returns
unfolding checksum
returns c = omega (arith, c.total_of.ensures, c.from.ensures)
