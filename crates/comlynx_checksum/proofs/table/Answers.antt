-- `comlynx_checksum::table` meets its contract: antt computes all entries by the rule and compares.
use mathlib.Core.Path.{refl}
use Rattle.comlynx_checksum.specs.Checksum.{folded, bit_step, bit_steps, entry}
use Rattle.comlynx_checksum.specs.Table.{tabulate, checksum_table}
use Rattle.comlynx_checksum.proofs.table.Goals as goal

pub returns : goal.returns
unfolding folded bit_step bit_steps entry tabulate checksum_table
returns c = refl
