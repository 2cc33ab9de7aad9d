-- The laws of the checksum: a bit's step is linear in exclusive-or, so a byte's step is eight of them; and lists go byte by byte.
-- Assumes nothing.
use mathlib.Core.Path.{◌≡◌, refl, sym, ap, ap₂, ◌∙◌}
use mathlib.Core.List.{List, [], ◌∷◌, ◌++◌}
use Prim.Native.Nat.{ℕ, zero, suc, ◌+◌, ◌*◌, ◌/◌, ◌%◌, ◌^◌, ◌<◌, ◌≤◌}
use native.Mathlib.Nat.{mod-eq_of_lt}
use native.Mathlib.Numerals.{add-one}
use native.Mathlib.Omega.{arith}
use lib.Arith.{bin_ind}
use lib.Bits.{bit_xor, bit_and, differ, xor_step, xor_shr, xor_mod, xor_comm, xor_self, xor_zero_r, xor_shifted, shifted_half, shifted_even, and_mask, mask_lt}
use lib.ListN.{length, get_or, take, drop, drop_of_length-le}
use lib.Pow.{split}
use lib.Seq.{drop-cons, take-suc}
use Rattle.comlynx_checksum.specs.Checksum.{poly, folded, bit_step, bit_steps, entry, checksum_next, checksum_from, checksum_of}
use Rattle.comlynx_checksum.specs.Table.{checksum_table}
use Rattle.comlynx_checksum.proofs.TableByRule.{get_d_tabulate}

-- ---- exclusive-or is associative

bit_case : (P : ℕ → Type 0) → P 0 → P 1 → (x : ℕ) → P (x % 2)
bit_case P p q x = go (x % 2) (omega arith)
  where
    go : (y : ℕ) → y < 2 → P y
    go zero h = p
    go (suc zero) h = q
    go (suc (suc y)) h = absurd (omega arith)

differ_assoc : (x y z : ℕ) → differ (bit_xor (x % 2) (y % 2)) (z % 2) ≡ differ (x % 2) (bit_xor (y % 2) (z % 2))
differ_assoc x y z =
    bit_case (λ a. differ (bit_xor a (y % 2)) (z % 2) ≡ differ a (bit_xor (y % 2) (z % 2)))
    (bit_case (λ b. differ b (z % 2) ≡ bit_xor b (z % 2)) refl (bit_case (λ c. differ 1 c ≡ bit_xor 1 c) refl refl z) y)
    (bit_case (λ b. differ (bit_xor 1 b) (z % 2) ≡ differ 1 (bit_xor b (z % 2)))
    (bit_case (λ c. differ 1 c ≡ differ 1 (bit_xor 0 c)) refl refl z)
    (bit_case (λ c. differ 0 c ≡ differ 1 (bit_xor 1 c)) refl refl z) y) x

pub xor_assoc : (a b c : ℕ) → bit_xor (bit_xor a b) c ≡ bit_xor a (bit_xor b c)
xor_assoc a =
    bin_ind (λ (n : ℕ). (b c : ℕ) → bit_xor (bit_xor n b) c ≡ bit_xor n (bit_xor b c)) (λ b c. refl)
    (λ n ih b c. xor_step (bit_xor n b) c
    ∙ ap₂ (λ (x y : ℕ). bit_xor x (c / 2) * 2 + differ y (c % 2)) (xor_shr n b 1) (xor_mod n b 1)
    ∙ ap₂ (λ (x y : ℕ). x * 2 + y) (ih (b / 2) (c / 2)) (differ_assoc n b c)
    ∙ sym (ap₂ (λ (x y : ℕ). bit_xor (n / 2) x * 2 + differ (n % 2) y) (xor_shr b c 1) (xor_mod b c 1))
    ∙ sym (xor_step n (bit_xor b c))) a

-- ---- a bit's step is linear

folded_xor : (x y h k : ℕ) → folded (bit_xor (x % 2) (y % 2)) (bit_xor h k) ≡ bit_xor (folded (x % 2) h) (folded (y % 2) k)
unfolding folded
folded_xor x y h k =
    bit_case (λ a. folded (bit_xor a (y % 2)) (bit_xor h k) ≡ bit_xor (folded a h) (folded (y % 2) k))
    (bit_case (λ b. folded b (bit_xor h k) ≡ bit_xor h (folded b k)) refl (xor_assoc h k poly) y)
    (bit_case (λ b. folded (bit_xor 1 b) (bit_xor h k) ≡ bit_xor (bit_xor h poly) (folded b k))
    (xor_assoc h k poly ∙ ap (bit_xor h) (xor_comm k poly) ∙ sym (xor_assoc h poly k))
    (ap (bit_xor h) (cancel k) ∙ sym (xor_assoc h poly (bit_xor k poly))) y) x
  where
    cancel : (k : ℕ) → k ≡ bit_xor poly (bit_xor k poly)
    cancel k =
        sym (xor_zero_r k) ∙ ap (bit_xor k) (sym (xor_self poly)) ∙ sym (xor_assoc k poly poly)
        ∙ xor_comm (bit_xor k poly) poly

step_xor : (a b : ℕ) → bit_step (bit_xor a b) ≡ bit_xor (bit_step a) (bit_step b)
unfolding bit_step
step_xor a b = ap₂ folded (xor_mod a b 1) (xor_shr a b 1) ∙ folded_xor a b (a / 2) (b / 2)

pub steps_xor : (n a b : ℕ) → bit_steps n (bit_xor a b) ≡ bit_xor (bit_steps n a) (bit_steps n b)
unfolding bit_steps
steps_xor zero a b = refl
steps_xor (suc n) a b = ap (bit_steps n) (step_xor a b) ∙ steps_xor n (bit_step a) (bit_step b)

-- n steps only shift what stands above the n low bits
pub steps_shifted : (n h : ℕ) → bit_steps n (h * 2 ^ n) ≡ h
unfolding bit_steps bit_step folded
steps_shifted zero h = omega arith
steps_shifted (suc n) h = ap (bit_steps n) (ap₂ folded (shifted_even h n) (shifted_half h n)) ∙ steps_shifted n h

eight : (x : ℕ) → bit_steps 8 x ≡ bit_xor (x / 256) (entry (x % 256))
unfolding entry
eight x =
    ap (bit_steps 8) (sym (xor_shifted (x / 256) 8 (x % 256) (omega arith) ∙ split x 8))
    ∙ steps_xor 8 (x / 256 * 256) (x % 256)
    ∙ ap (λ (h : ℕ). bit_xor h (bit_steps 8 (x % 256))) (steps_shifted 8 (x / 256))

-- ---- a byte's step, bit by bit and by the table

low_xor : (f b : ℕ) → b < 256 → bit_xor f b % 256 ≡ bit_xor (f % 256) b
low_xor f b h = xor_mod f b 8 ∙ ap (bit_xor (f % 256)) (mod-eq_of_lt h)

pub next_by_bits : (f b : ℕ) → b < 256 → bit_steps 8 (bit_xor f b) ≡ checksum_next f b
unfolding checksum_next
next_by_bits f b h =
    eight (bit_xor f b)
    ∙ ap₂ (λ (x y : ℕ). bit_xor x (entry y))
    (xor_shr f b 8 ∙ ap (bit_xor (f / 256)) (omega arith) ∙ xor_zero_r (f / 256)) (low_xor f b h)

pub next_by_table : (f b : ℕ) → b < 256 → bit_xor (f / 256) (get_or checksum_table (bit_and (bit_xor f b) 255) 0) ≡ checksum_next f b
unfolding checksum_next checksum_table
next_by_table f b h =
    ap (bit_xor (f / 256))
    (get_d_tabulate entry 256 (bit_and (bit_xor f b) 255) (mask_lt (bit_xor f b) 8)
    ∙ ap entry (and_mask (bit_xor f b) 8 ∙ low_xor f b h))

-- ---- a loop over the bytes of a list, with f the state so far and i the place

-- one turn
pub turn : (l : List ℕ) (f i g r : ℕ) → i < length l → g ≡ checksum_next f (get_or l i 0) → checksum_from f (drop i l) ≡ r → checksum_from g (drop (i + 1) l) ≡ r
unfolding checksum_from
turn l f i g r h e q = rw (e, add-one) (rw (drop-cons l i 0) at q)

-- the end
pub ended : (l : List ℕ) (f i r : ℕ) → length l ≤ i → checksum_from f (drop i l) ≡ r → f ≡ r
unfolding checksum_from
ended l f i r h q = rw (drop_of_length-le l h) at q

-- ---- a list after another, one byte more, and one byte more of a list's first

pub from_append : (s t : List ℕ) (f : ℕ) → checksum_from f (s ++ t) ≡ checksum_from (checksum_from f s) t
unfolding checksum_from
from_append [] t f = refl
from_append (b ∷ s) t f = from_append s t (checksum_next f b)

pub of_append : (s t : List ℕ) → checksum_of (s ++ t) ≡ checksum_from (checksum_of s) t
unfolding checksum_of
of_append s t = from_append s t _

pub of_snoc : (s : List ℕ) (b : ℕ) → checksum_of (s ++ b ∷ []) ≡ checksum_next (checksum_of s) b
unfolding checksum_from
of_snoc s b = of_append s (b ∷ [])

pub of_take : (s : List ℕ) (i : ℕ) → i < length s → checksum_of (take (i + 1) s) ≡ checksum_next (checksum_of (take i s)) (get_or s i 0)
of_take s i h = rw (add-one, take-suc s i 0) (of_snoc (take i s) (get_or s i 0))
