-- `comlynx_checksum_bitwise::next` meets its contract: a byte's step is eight bits' steps.
use native.Mathlib.Omega.{arith}
use Rattle.comlynx_checksum.specs.Checksum.{bit_steps}
use Rattle.comlynx_checksum.proofs.ChecksumByBytes.{next_by_bits}
use Rattle.comlynx_checksum_bitwise.proofs.next.Goals as goal

pub returns : goal.returns
unfolding bit_steps
returns c =
    let a = c.args in
    rw (c.four-2.ensures, c.four.ensures, c.from.ensures) (next_by_bits a.state a.byte (omega arith))
