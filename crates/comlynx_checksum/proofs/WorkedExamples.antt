-- Two worked examples, computed from the definitions.
-- Assumes nothing.
use mathlib.Core.Path.{◌≡◌, refl}
use mathlib.Core.List.{List, [], ◌∷◌}
use Prim.Native.Nat.{ℕ}
use Rattle.comlynx_checksum.specs.Checksum.{folded, bit_step, bit_steps, entry, checksum_next, checksum_from, checksum_of, sent_after, sent}

-- the ping of case P1: its state and what is sent
pub ping : List ℕ
ping = 0xFF ∷ 0x03 ∷ 0x00 ∷ 0x02 ∷ 0x11 ∷ 0xFF ∷ 0x00 ∷ 0x15 ∷ []

pub ping_state : checksum_of ping ≡ 0x6E86
unfolding ping folded bit_step bit_steps entry checksum_next checksum_from checksum_of
ping_state = refl

pub ping_sent : sent ping ≡ 0x79 ∷ 0x91 ∷ []
unfolding ping folded bit_step bit_steps entry checksum_next checksum_from checksum_of sent_after sent
ping_sent = refl

-- the check value of CRC-16/X-25, 906E over "123456789"
pub digits : List ℕ
digits = 0x31 ∷ 0x32 ∷ 0x33 ∷ 0x34 ∷ 0x35 ∷ 0x36 ∷ 0x37 ∷ 0x38 ∷ 0x39 ∷ []

pub digits_sent : sent digits ≡ 0x6E ∷ 0x90 ∷ []
unfolding digits folded bit_step bit_steps entry checksum_next checksum_from checksum_of sent_after sent
digits_sent = refl
