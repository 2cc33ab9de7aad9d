-- The demands: what is sent agrees, what agrees was sent, and the bounds.
-- Assumes nothing.
use mathlib.Core.Path.{◌≡◌, refl, sym, ap, ap₂, ◌∙◌}
use mathlib.Core.Bool.{Bool, true, false, ◌&&◌}
use mathlib.Core.List.{List, [], ◌∷◌, ◌++◌}
use Prim.Native.Nat.{ℕ, zero, suc, ◌+◌, ◌-◌, ◌/◌, ◌%◌, ◌<◌}
use native.Mathlib.Numerals.{add-one}
use native.Mathlib.Omega.{arith}
use lib.Bits.{bit_xor, xor_lt}
use lib.Dec.{T, eqb, ltb, ltb→lt, lt→ltb}
use lib.ListN.{length, get_or, take, drop, length-append, take-append-drop, drop_of_length-le}
use lib.Pow.{are_bytes}
use lib.Seq.{take_at, drop_at, drop-cons}
use mir.Facts.{and_yes, yes_and}
use Rattle.numbers.specs.Lists.{same}
use Rattle.numbers.proofs.SameLists.{same_refl, same_true}
use Rattle.comlynx_checksum.specs.Checksum.{poly, folded, bit_step, bit_steps, entry, checksum_next, checksum_from, checksum_of, complement, sent_after, sent, others, last_two, agrees, IsSentOf}
use Rattle.comlynx_checksum.specs.declared.Sent.{Sent}
use Rattle.comlynx_checksum.specs.Demands.{Passes, OnlyThese, Bounds}

and_last : (b : Bool) → b && true ≡ b
and_last true = refl
and_last false = refl

and_false : (b : Bool) → b && false ≡ false
and_false true = refl
and_false false = refl

-- ---- what is sent agrees, and nothing else

pub sent_length : (s : List ℕ) → length (sent s) ≡ 2
unfolding sent sent_after
sent_length s = refl

pub passes : Passes
unfolding agrees
passes s =
    let n : length s ≡ length (s ++ sent s) - 2 = omega (arith, length-append s (sent s), sent_length s) in
    ap₂ (λ (x y : List ℕ). same x (sent y)) (drop_at s (sent s) _ n) (take_at s (sent s) _ n) ∙ same_refl (sent s)

pub only_these : OnlyThese
unfolding agrees
only_these l e =
    sym (take-append-drop (length l - 2) l)
    ∙ ap (λ (t : List ℕ). others l ++ t) (same_true (last_two l) (sent (others l)) e)

-- ---- the test byte by byte, as code makes it

two_left : (l : List ℕ) (k : ℕ) → length l ≡ k + 2 → drop k l ≡ get_or l k 0 ∷ get_or l (k + 1) 0 ∷ []
two_left l k e =
    drop-cons l k 0 (omega arith)
    ∙ ap (λ (t : List ℕ). get_or l k 0 ∷ t)
    (drop-cons l (suc k) 0 (omega arith)
    ∙ ap₂ (λ (i : ℕ) (t : List ℕ). get_or l i 0 ∷ t) (sym (add-one k)) (drop_of_length-le l {i = suc (suc k)} (omega arith)))

pub agrees_by_bytes : (l : List ℕ) (k : ℕ) → length l ≡ k + 2
    → agrees l ≡ eqb (get_or l k 0) (complement (checksum_of (take k l)) % 256) && eqb (get_or l (k + 1) 0) (complement (checksum_of (take k l)) / 256)
unfolding agrees sent sent_after
agrees_by_bytes l k e =
    let n : length l - 2 ≡ k = omega arith in
    ap (λ (i : ℕ). same (drop i l) (sent (take i l))) n
    ∙ ap (λ (x : List ℕ). same x (sent (take k l))) (two_left l k e)
    ∙ ap (λ (b : Bool). eqb (get_or l k 0) (complement (checksum_of (take k l)) % 256) && b) (and_last _)

pub too_short : (l : List ℕ) → length l < 2 → agrees l ≡ false
unfolding agrees sent sent_after
too_short [] h = refl
too_short (x ∷ []) h = and_false (eqb x _)
too_short (x ∷ y ∷ l) h = absurd (omega arith)

-- ---- what `sent_of` promises, byte by byte

pub sent_low : (f : ℕ) (r : Sent) → IsSentOf f r → r.low ≡ complement f % 256
unfolding sent_after
sent_low f r e = cc

pub sent_high : (f : ℕ) (r : Sent) → IsSentOf f r → r.high ≡ complement f / 256
unfolding sent_after
sent_high f r e = cc

-- ---- the bounds

folded_lt : (b h : ℕ) → h < 65536 → folded b h < 65536
unfolding folded
folded_lt zero h k = k
folded_lt (suc b) h k = xor_lt 16 h poly k (omega arith)

steps_lt : (n x : ℕ) → x < 65536 → bit_steps n x < 65536
unfolding bit_steps bit_step
steps_lt zero x h = h
steps_lt (suc n) x h = steps_lt n (bit_step x) (folded_lt (x % 2) (x / 2) (omega arith))

pub next_lt : (f b : ℕ) → f < 65536 → b < 256 → checksum_next f b < 65536
unfolding checksum_next entry
next_lt f b hf hb =
    xor_lt 16 (f / 256) (entry (bit_xor (f % 256) b)) (omega arith)
    (steps_lt 8 (bit_xor (f % 256) b) (xor_lt 16 (f % 256) b (omega arith) (omega arith)))

pub from_lt : (s : List ℕ) (f : ℕ) → f < 65536 → T (are_bytes s) → checksum_from f s < 65536
unfolding checksum_from
from_lt [] f h t = h
from_lt (b ∷ s) f h t =
    let u = and_yes (ltb b 256) (are_bytes s) t in
    from_lt s (checksum_next f b) (next_lt f b h (ltb→lt b 256 u.0)) u.1

pub of_lt : (s : List ℕ) → T (are_bytes s) → checksum_of s < 65536
unfolding checksum_of
of_lt s t = from_lt s _ (omega arith) t

-- of any state: a complement has 16 bits
pub sent_after_bytes : (f : ℕ) → T (are_bytes (sent_after f))
unfolding sent_after
sent_after_bytes f =
    yes_and (ltb (complement f % 256) 256) _ (lt→ltb (complement f % 256) 256 (omega arith))
    (yes_and (ltb (complement f / 256) 256) _ (lt→ltb (complement f / 256) 256 (omega arith)) tt)

pub bounds : Bounds
unfolding sent
bounds s t = (of_lt s t, sent_after_bytes (checksum_of s))
