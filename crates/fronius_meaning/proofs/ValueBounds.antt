-- Bounds on a value's product with a power of ten.
-- Assumes nothing.
use Prim.Native.Nat.{ℕ, zero, suc, ◌*◌, ◌^◌, ◌<◌, ◌≤◌}
use mathlib.Core.Path.{◌≡◌}
use native.Mathlib.Nat.{lt_of_le_of_lt, mul-le-mul, pow-le-pow_right}
use native.Mathlib.Omega.{arith}
use mir.Syntax.{w64}
use mir.Val.{SFits, to_z, of_z}
use mir.ValLaws.{to_z_pos, to_z-of_z}
use lib.Dec.{T, lit<, le→leb}
use lib.Ieee.{binary64, in_float}
use lib.IntN.{ℤ, pos, negsuc, neg_ℤ, ◌*ℤ◌}
use lib.Signed.{mag}

pub ten_le : (k : ℕ) → k < 14 → 10 ^ k ≤ 10 ^ 13
ten_le k h =
    let e : k ≤ 13 = omega arith in
    pow-le-pow_right (lit< tt) e

-- a value of two bytes times such a power
times_small : (a k : ℕ) → a ≤ 65536 → k < 14 → a * 10 ^ k < 2 ^ 63
times_small a k h g =
    let q : a * 10 ^ k ≤ 65536 * 10 ^ 13 = mul-le-mul h (ten_le k g) in
    omega arith

mag_neg : (m : ℕ) → mag (neg_ℤ (pos m)) ≤ m
mag_neg zero = omega arith
mag_neg (suc m) = omega arith

pub product_small : (v : ℤ) (k : ℕ) → mag v < 65536 → k < 14 → mag (v *ℤ pos (10 ^ k)) < 2 ^ 63
product_small (pos a) k h g = times_small a k (omega arith) g
product_small (negsuc a) k h g = lt_of_le_of_lt (mag_neg (suc a * 10 ^ k)) (times_small (suc a) k (omega arith) g)

-- what the machine multiplies is v and the power
pub machine_product : (v : ℤ) (k r : ℕ) → SFits w64 v → r ≡ 10 ^ k → k < 14 → to_z w64 (of_z w64 v) *ℤ to_z w64 r ≡ v *ℤ pos (10 ^ k)
machine_product v k r f e h = rw (to_z-of_z w64 v f, e, to_z_pos w64 (10 ^ k) (lt_of_le_of_lt (ten_le k h) (lit< tt)))

-- a word times a power of ten up to the tenth is a whole number that a double holds
pub exact : (w k r : ℕ) → w < 65536 → k < 11 → r ≡ 10 ^ k → w * r ≤ 2 ^ 53
exact w k r h g e =
    let i : k ≤ 10 = omega arith in
    let j : w ≤ 65535 = omega arith in
    let p : 10 ^ k ≤ 10 ^ 10 = pow-le-pow_right (lit< tt) i in
    let q : w * 10 ^ k ≤ 65535 * 10 ^ 10 = mul-le-mul j p in
    rw e (omega arith)

pub in_double : (n : ℕ) → n ≤ 2 ^ 53 → T (in_float binary64 (pos n))
unfolding in_float
in_double n h = le→leb n (2 ^ 53) h
