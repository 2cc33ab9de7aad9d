-- `comlynx_checksum_bitwise::two` meets its contract.
use mathlib.Core.Path.{◌∙◌, ap}
use Rattle.comlynx_checksum.specs.Checksum.{bit_step, bit_steps}
use Rattle.comlynx_checksum_bitwise.proofs.two.Goals as goal

pub returns : goal.returns
unfolding bit_steps
returns c = c.bit-2.ensures ∙ ap bit_step c.bit.ensures
