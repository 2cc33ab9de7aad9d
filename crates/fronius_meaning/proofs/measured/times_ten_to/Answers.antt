-- `fronius_meaning::measured::times_ten_to` meets its contract.
use mathlib.Core.Path.{◌∙◌}
use native.Mathlib.Omega.{arith}
use mir.Syntax.{w64}
use mir.ValLaws.{to_z-of_z}
use Rattle.fronius_meaning.proofs.ValueBounds.{product_small, machine_product, ten_le}
use Rattle.fronius_meaning.proofs.measured.times_ten_to.Goals as goal

pub overflow_cast-result : goal.overflow_cast-result
overflow_cast-result c = record { sfits = omega (arith, c.ten_to.ensures, ten_le _ c.requires.1) }

pub overflow_mul-result : goal.overflow_mul-result
overflow_mul-result c =
    rw (machine_product c.args.v c.args.k c.ten_to.result c.ranges.v c.ten_to.ensures c.requires.1)
    (record { sfits = product_small c.args.v c.args.k c.requires.0 c.requires.1 })

pub returns : goal.returns
returns c =
    to_z-of_z w64 _ (overflow_mul-result c) ∙ machine_product c.args.v c.args.k c.ten_to.result c.ranges.v c.ten_to.ensures c.requires.1
