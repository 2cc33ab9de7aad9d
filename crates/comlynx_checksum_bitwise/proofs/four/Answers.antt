-- `comlynx_checksum_bitwise::four` meets its contract.
use mathlib.Core.Path.{◌∙◌, ap}
use Rattle.comlynx_checksum.specs.Checksum.{bit_steps}
use Rattle.comlynx_checksum_bitwise.proofs.four.Goals as goal

pub returns : goal.returns
unfolding bit_steps
returns c = c.two-2.ensures ∙ ap (bit_steps 2) c.two.ensures
