-- `comlynx_checksum_bitwise::of` meets its contract: the checksum goes on from its start.
use borrow.Author.Rules.{rules}
use Rattle.comlynx_checksum.specs.Checksum.{checksum_of}
use Rattle.comlynx_checksum_bitwise.proofs.of.Goals as goal

pub returns : goal.returns
unfolding checksum_of
returns c = search rules
