-- `comlynx_checksum::sent_of` meets its contract: the complement, in two parts.
use borrow.Author.Rules.{rules}
use Rattle.comlynx_checksum.specs.Checksum.{sent_after}
use Rattle.comlynx_checksum.proofs.sent_of.Goals as goal

pub returns : goal.returns
unfolding sent_after
returns c = search rules
