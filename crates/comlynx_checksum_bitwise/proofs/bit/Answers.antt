-- `comlynx_checksum_bitwise::bit` meets its contract, whichever bit falls out.
use mathlib.Core.Path.{◌≡◌}
use Prim.Native.Nat.{ℕ, ◌%◌, ◌/◌}
use native.Mathlib.Omega.{arith}
use lib.Bits.{bit_xor}
use Rattle.comlynx_checksum.specs.Checksum.{poly, folded, bit_step}
use Rattle.comlynx_checksum_bitwise.proofs.bit.Goals as goal

one_falls_out : (x : ℕ) → x % 2 ≡ 1 → bit_xor (x / 2) poly ≡ bit_step x
unfolding bit_step folded
one_falls_out x e = rw e

none_falls_out : (x : ℕ) → (x % 2 ≡ 1 → ⊥) → x / 2 ≡ bit_step x
unfolding bit_step folded
none_falls_out x n = let e : x % 2 ≡ 0 = omega arith in rw e

pub returns-then-state-eq1 : goal.returns-then-state-eq1
returns-then-state-eq1 c = one_falls_out c.args.state c.if-state-eq1.true

pub returns-else-state-eq1 : goal.returns-else-state-eq1
returns-else-state-eq1 c = none_falls_out c.args.state c.if-state-eq1.false
