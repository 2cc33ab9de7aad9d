-- `comlynx_checksum::next` meets its contract: what stands in the table is what the rule gives.
use native.Mathlib.Omega.{arith}
use Rattle.comlynx_checksum.proofs.ChecksumByBytes.{next_by_table}
use Rattle.comlynx_checksum.proofs.next.Goals as goal

pub returns : goal.returns
returns c = rw (c.requires, c.from-2.ensures, c.from.ensures) (next_by_table c.args.state c.args.byte (omega arith))
