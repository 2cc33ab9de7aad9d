-- `comlynx_checksum_bitwise::more` meets its contract. The invariant: from the state reached, the bytes left lead to the whole checksum.
use Rattle.std.specs.Prelude.{◌≡◌, drop}
use Rattle.comlynx_checksum.specs.Checksum.{checksum_from}
use Rattle.comlynx_checksum_bitwise.proofs.more.Given as goal

abbrev pub invariant-loop-byte : goal.invariant-loop-byte
invariant-loop-byte l = checksum_from l.after (drop l.byte-index l.bytes) ≡ checksum_from l.state l.bytes
