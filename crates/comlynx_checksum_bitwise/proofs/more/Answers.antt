-- `comlynx_checksum_bitwise::more` meets its contract: a turn takes one byte more, and behind the last byte the state is the whole checksum.
use native.Mathlib.Omega.{arith}
use Rattle.comlynx_checksum.proofs.ChecksumByBytes.{turn, ended}
use Rattle.comlynx_checksum_bitwise.proofs.more.Goals as goal

pub loop-byte-preserved : goal.loop-byte-preserved
loop-byte-preserved c =
    let l = c.loop-byte in
    turn c.args.bytes.now l.after l.byte-index c.next-after.result _ (omega arith) c.next-after.ensures l.invariant

pub returns : goal.returns
returns c = ended c.args.bytes.now _ c.loop-byte.byte-index _ (omega arith) c.loop-byte.invariant
