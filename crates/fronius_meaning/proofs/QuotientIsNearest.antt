-- A fraction, rounded, is the nearest of all doubles.
-- Assumes nothing.
use Prim.Native.Nat.{ℕ, zero, suc, ◌+◌, ◌-◌, ◌*◌, ◌/◌, ◌%◌, ◌^◌, ◌≤◌, ◌<◌, compare, Ordering}
use native.Mathlib.Nat.{le_trans, le_of_eq, lt_of_le_of_lt, le_of_lt, mul_assoc, mul_comm, mul-one, mul-pos, suc-mul, one-mul, mod-lt, div-add-mod', mul-le-mul_left, mul-le-mul_right, le-div_iff_mul-le, div-le_self, div-mul-le_self, eq_of_mul-eq-mul_right, zero-mul}
use native.Mathlib.Decide.{dec_lt}
use native.Mathlib.Omega.{arith}
use mathlib.Core.Path.{◌≡◌, refl, sym, ap, ◌∙◌, subst}
use mathlib.Core.Bool.{Bool, false, not, ◌&&◌}
use lib.Arith.{lt_of_le-ne}
use lib.Dec.{T, is_le, compare_is_eq, eqb, leb→le, nleb→lt, eqb→eq, eqb_refl, ltb, ltb→lt, leb, lit<}
use lib.Pow.{pow-add, pow_pos, pow_mono, pow-lt, shl_lt}
use lib.IntN.{ℤ, pos, negsuc}
use lib.Ieee.{Float, nan, inf, fin, binary64, prec, low, down, size, nearest, round, fits}
use lib.Ieee.Digits.{size_reaches, size-le}
use lib.Ieee.Exact.{HasValue}
use lib.Ieee.Fits.{and_l, and_r, down_pos, nearest-le}
use lib.Ieee.Nearest.{closest}
use lib.Ieee.Order.{drop, kept}
use lib.Ieee.Scale.{grid, overflow, round_val}
use Rattle.fronius_meaning.specs.Demands.{apart, DoublesInUnits, Nearest}

-- what `compare` says
abbrev Cmp : Ordering → ℕ → ℕ → Type 0
Cmp Ordering.lt a b = a < b
Cmp Ordering.eq a b = a ≡ b
Cmp Ordering.gt a b = b < a

cmp : (a b : ℕ) → Cmp (compare a b) a b
cmp a b = go (compare a b) (leb→le a b) (nleb→lt a b) (eqb→eq a b) (λ (e : a ≡ b). subst (λ (x : ℕ). T (eqb a x)) e (eqb_refl a))
  where
    go : (o : Ordering) → (T (is_le o) → a ≤ b) → (T (not (is_le o)) → b < a) → (T (compare_is_eq o) → a ≡ b) → (a ≡ b → T (compare_is_eq o)) → Cmp o a b
    go Ordering.lt h k e n = lt_of_le-ne (h tt) n
    go Ordering.eq h k e n = e tt
    go Ordering.gt h k e n = k tt

-- with n = q * u + r: the multiple below n is nearest where r is at most half of u, the one above where it is at least half
module _ (n u q r z : ℕ) (whole : q * u + r ≡ n) (rest : r < u) where
  below_near : r * 2 ≤ u → apart (q * u) n ≤ apart (z * u) n
  below_near h = go (dec_lt q z)
    where
      go : Dec (q < z) → apart (q * u) n ≤ apart (z * u) n
      go (yes l) =
          let m : suc q * u ≤ z * u = mul-le-mul_right u l in
          omega (arith, suc-mul q u)
      go (no f) =
          let k : z ≤ q = omega arith in
          let m : z * u ≤ q * u = mul-le-mul_right u k in
          omega arith

  above_near : u ≤ r * 2 → apart (suc q * u) n ≤ apart (z * u) n
  above_near h = go (dec_lt q z)
    where
      go : Dec (q < z) → apart (suc q * u) n ≤ apart (z * u) n
      go (yes l) =
          let m : suc q * u ≤ z * u = mul-le-mul_right u l in
          omega (arith, suc-mul q u)
      go (no f) =
          let k : z ≤ q = omega arith in
          let m : z * u ≤ q * u = mul-le-mul_right u k in
          omega (arith, suc-mul q u)

  chosen : (o : Ordering) → Cmp o (r * 2) u → apart (nearest q o * u) n ≤ apart (z * u) n
  chosen Ordering.lt h = below_near (le_of_lt h)
  chosen Ordering.gt h = above_near (le_of_lt h)
  chosen Ordering.eq h = go (dec_lt (q % 2) 1)
    where
      go : Dec (q % 2 < 1) → apart ((q + q % 2) * u) n ≤ apart (z * u) n
      go (yes l) =
          let e : q + q % 2 ≡ q = omega arith in
          rw e (below_near (le_of_eq h))
      go (no f) =
          let e : q + q % 2 ≡ suc q = omega arith in
          rw e (above_near (le_of_eq (sym h)))

pub closest_near : (n u z : ℕ) → 0 < u → apart (closest n u * u) n ≤ apart (z * u) n
closest_near n u z U = chosen n u (n / u) (n % u) z (div-add-mod' n u) (mod-lt n U) (compare (n % u * 2) u) (cmp (n % u * 2) u)

-- in units of 2 ^ -l a double of p digits is m * 2 ^ i, with m below 2 ^ p
Digits : ℕ → ℕ → Type 0
Digits p n = (m : ℕ) × (i : ℕ) × (n ≡ m * 2 ^ i) × (m < 2 ^ p)

no_more : (i j : ℕ) → 2 ^ i ≤ 2 ^ j → i ≤ j
no_more i j h = go (dec_lt j i)
  where
    go : Dec (j < i) → i ≤ j
    go (yes l) =
        let s : 2 ^ j < 2 ^ i = pow-lt l in
        absurd (omega arith)
    go (no f) = omega arith

-- how a double fits: m is below 2 ^ 53, and 2 ^ -e at most 2 ^ low
few_digits : (s : Bool) (m : ℕ) (e : ℤ) → T (fits binary64 (fin s (suc m) e)) → suc m < 2 ^ 53
unfolding fits
few_digits s m e t =
    let A = eqb (suc m % 2) 1 in
    let B = ltb (suc m) (2 ^ 53) in
    let C = leb (down e) (2 ^ low binary64) in
    ltb→lt (suc m) (2 ^ 53) (and_r A B (and_l (A && B) C (and_l (A && B && C) _ t)))

not_finer : (s : Bool) (m j : ℕ) → T (fits binary64 (fin s (suc m) (negsuc j))) → suc j ≤ low binary64
unfolding fits
not_finer s m j t =
    let A = eqb (suc m % 2) 1 in
    let B = ltb (suc m) (2 ^ 53) in
    let C = leb (2 ^ suc j) (2 ^ low binary64) in
    no_more (suc j) (low binary64) (leb→le (2 ^ suc j) (2 ^ low binary64) (and_r (A && B) C (and_l (A && B && C) _ t)))

coarser : (m l j : ℕ) → suc j ≤ l → m * 1 * 2 ^ l ≡ m * 2 ^ (l - suc j) * 2 ^ suc j
coarser m l j h =
    let s : l ≡ l - suc j + suc j = omega arith in
    ap (λ (x : ℕ). x * 2 ^ l) (mul-one m)
    ∙ ap (λ (x : ℕ). m * 2 ^ x) s
    ∙ ap (λ (x : ℕ). m * x) (pow-add 2 (l - suc j) (suc j))
    ∙ sym (mul_assoc m (2 ^ (l - suc j)) (2 ^ suc j))

pub in_units : DoublesInUnits
in_units zero e t = (0, (refl, simp zero-mul))
in_units (suc m) (pos j) t = (suc m * 2 ^ j * 2 ^ low binary64, (refl, sym (mul-one (suc m * 2 ^ j * 2 ^ low binary64))))
in_units (suc m) (negsuc j) t =
    (suc m * 2 ^ (low binary64 - suc j), (refl, coarser (suc m) (low binary64) j (not_finer false m j t)))

digits : (y : Float) (n : ℕ) → T (fits binary64 y) → HasValue y false n (2 ^ low binary64) → Digits (prec binary64) n
unfolding Digits
digits nan n t h = absurd h
digits (inf s) n t h = absurd h
digits (fin s zero e) n t h =
    (0, 0, eq_of_mul-eq-mul_right (down e) (down_pos e) n 0 (sym h.1 ∙ simp zero-mul), pow_pos 53)
digits (fin s (suc m) (pos j)) n t h =
    let l = low binary64 in
    (suc m, j + l, sym (mul-one n) ∙ sym h.1 ∙ mul_assoc (suc m) (2 ^ j) (2 ^ l) ∙ ap (λ (x : ℕ). suc m * x) (sym (pow-add 2 j l)), few_digits s m (pos j) t)
digits (fin s (suc m) (negsuc j)) n t h =
    let l = low binary64 in
    let f = not_finer s m j t in
    (suc m, l - suc j, eq_of_mul-eq-mul_right (2 ^ suc j) (pow_pos (suc j)) n (suc m * 2 ^ (l - suc j)) (sym h.1 ∙ coarser (suc m) l j f), few_digits s m (negsuc j) t)

-- a number of p digits is a multiple of 2 ^ k, or below each number that has more than p - 1 + k digits
multiple : (n u m i k b y : ℕ) → 0 < u → u ≡ b * 2 ^ k → k ≤ i → y ≡ m * 2 ^ i → apart (closest n u * u) n ≤ apart (y * b) n
multiple n u m i k b y U w h e =
    let s : i ≡ i - k + k = omega arith in
    let f : m * 2 ^ (i - k) * u ≡ y * b =
    ap (λ (x : ℕ). m * 2 ^ (i - k) * x) (w ∙ mul_comm b (2 ^ k))
    ∙ sym (mul_assoc (m * 2 ^ (i - k)) (2 ^ k) b)
    ∙ ap (λ (x : ℕ). x * b) (mul_assoc m (2 ^ (i - k)) (2 ^ k) ∙ ap (λ (x : ℕ). m * x) (sym (pow-add 2 (i - k) k)) ∙ ap (λ (x : ℕ). m * 2 ^ x) (sym s) ∙ sym e) in
    subst (λ (x : ℕ). apart (closest n u * u) n ≤ apart x n) f (closest_near n u (m * 2 ^ (i - k)) U)

further : (n x y z : ℕ) → y ≤ z → z ≤ n → apart x n ≤ apart z n → apart x n ≤ apart y n
further n x y z h g l = omega arith

smaller : (p n u m i k b y : ℕ) → 0 < p → 0 < u → u ≡ b * 2 ^ k → i < k → y ≡ m * 2 ^ i → m < 2 ^ p → 2 ^ (p - 1 + k) * b ≤ n
    → apart (closest n u * u) n ≤ apart (y * b) n
smaller p n u m i k b y P U w h e d g =
    let r : p + i ≤ p - 1 + k = omega arith in
    let s : y ≤ 2 ^ (p - 1 + k) =
    le_trans (le_of_eq e) (le_trans (mul-le-mul_right (2 ^ i) (le_of_lt d)) (le_trans (le_of_eq (sym (pow-add 2 p i))) (pow_mono r))) in
    let f : 2 ^ (p - 1) * u ≡ 2 ^ (p - 1 + k) * b =
    ap (λ (x : ℕ). 2 ^ (p - 1) * x) (w ∙ mul_comm b (2 ^ k)) ∙ sym (mul_assoc (2 ^ (p - 1)) (2 ^ k) b) ∙ ap (λ (x : ℕ). x * b) (sym (pow-add 2 (p - 1) k)) in
    further n (closest n u * u) (y * b) (2 ^ (p - 1) * u) (le_trans (mul-le-mul_right b s) (le_of_eq (sym f))) (le_trans (le_of_eq f) g)
    (closest_near n u (2 ^ (p - 1)) U)

in_use : (z p : ℕ) → 0 < p → 0 < z - p → p - 1 + (z - p) < z
in_use z p P h = omega arith

-- no number of p digits is nearer to n / b than the one that is kept
kept_near : (p n b y : ℕ) → 0 < p → 0 < b → Digits p y → apart (kept p n b * (b * 2 ^ drop p n b)) n ≤ apart (y * b) n
unfolding Digits
kept_near p n b y P B (m, i, e, d) = go (dec_lt i (drop p n b))
  where
    go : Dec (i < drop p n b) → apart (kept p n b * (b * 2 ^ drop p n b)) n ≤ apart (y * b) n
    go (yes l) =
        let s : 0 < drop p n b = omega arith in
        let g : 2 ^ (p - 1 + drop p n b) ≤ n / b = size_reaches (n / b) (p - 1 + drop p n b) (in_use (size (n / b)) p P s) in
        smaller p n (b * 2 ^ drop p n b) m i (drop p n b) b y P (mul-pos B (pow_pos (drop p n b))) refl l e d ((le-div_iff_mul-le B).0 g)
    go (no f) =
        let l : drop p n b ≤ i = omega arith in
        multiple n (b * 2 ^ drop p n b) m i (drop p n b) b y (mul-pos B (pow_pos (drop p n b))) refl l e

-- a value of two bytes is far below infinity
kept_small : (n u b k : ℕ) → 0 < b → u ≡ b * 2 ^ k → closest n u * 2 ^ k ≤ n + 2 ^ k
kept_small n u b k B w =
    let s : 2 ^ k ≤ u = le_trans (le_of_eq (sym (one-mul (2 ^ k)))) (le_trans (mul-le-mul_right (2 ^ k) B) (le_of_eq (sym w))) in
    let q : n / u * 2 ^ k ≤ n / u * u = mul-le-mul_left (n / u) s in
    let r : closest n u * 2 ^ k ≤ suc (n / u) * 2 ^ k = mul-le-mul_right (2 ^ k) (nearest-le (n / u) (compare (n % u * 2) u)) in
    omega (arith, suc-mul (n / u) (2 ^ k), div-mul-le_self n u)

under : (c n k top over : ℕ) → c ≤ n + k → n < top → k ≤ top → top + top < over → c < over
under c n k top over h s g t = omega arith

finite : (a b : ℕ) → 0 < b → a < 65536 → grid binary64 a b < overflow binary64
finite a b B h =
    let l = low binary64 in
    let n = a * 2 ^ l in
    let k = drop 53 n b in
    let s : n < 2 ^ (16 + l) = shl_lt 16 l h in
    let z : size (n / b) ≤ 16 + l = size-le (n / b) (16 + l) (lt_of_le_of_lt (div-le_self n b) s) in
    let d : k ≤ 16 + l = omega arith in
    under (grid binary64 a b) n (2 ^ k) (2 ^ (16 + l)) (overflow binary64) (kept_small n (b * 2 ^ k) b k B refl) s (pow_mono d) (lit< tt)

pub rounded_nearest : (a b : ℕ) → 0 < b → a < 65536 → Nearest (round binary64 false a b) a b
rounded_nearest a b B h =
    let n = a * 2 ^ low binary64 in
    let k = drop 53 n b in
    record {
      rounded = refl;
      units = grid binary64 a b;
      value = round_val binary64 a b (finite a b B h);
      nearest = λ y others t v.
          subst (λ (x : ℕ). apart x n ≤ apart (others * b) n) (ap (λ (x : ℕ). kept 53 n b * x) (mul_comm b (2 ^ k)) ∙ sym (mul_assoc (kept 53 n b) (2 ^ k) b))
          (kept_near 53 n b others (lit< tt) B (digits y others t v));
    }
