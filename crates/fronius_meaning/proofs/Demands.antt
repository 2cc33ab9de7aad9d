-- The demands on the numbers of a measured value and of a reading, each under its name.
-- Assumes nothing.
use Prim.Native.Nat.{ℕ, zero, suc, ◌+◌, ◌*◌, ◌^◌, ◌<◌, ◌≤◌}
use native.Mathlib.Nat.{zero-mul, mul_assoc, mul_comm, mul_left_comm, mul_right_comm, mul-one, mul-pos, one-le-pow}
use native.Mathlib.Omega.{arith}
use mathlib.Core.Path.{◌≡◌, refl, sym, ◌∙◌, ap, subst}
use mathlib.Core.Bool.{Bool, true, false, ◌&&◌}
use mathlib.Core.List.{List}
use lib.Dec.{lit<, eqb}
use lib.Pow.{pow_pos, pow-add}
use lib.IntN.{ℤ, pos, negsuc, neg_ℤ, nat_abs, ◌*ℤ◌}
use lib.Signed.{◌≤ℤ◌}
use lib.Ieee.{Float, nan, inf, fin, Format, binary64, up, down, round, of_int, div}
use lib.Ieee.Exact.{HasValue}
use lib.Ieee.Back.{round_whole}
use lib.Ieee.Scale.{round_same}
use lib.Ieee.Positive.{first_pos}
use borrow.Author.Tests.{ne_eqb, ltb-false}
use Rattle.answers.specs.Answer.{need}
use Rattle.answers.proofs.NumbersHaveCases.{refusal_above}
use Rattle.answers.specs.Refusal as Refusal
use Rattle.answers.specs.Refusal.{refused_as}
use Rattle.answers.specs.declared.Refusal.{Refusal}
use Rattle.answers.specs.declared.Refusal.TheVariants.{NotForThisCall}
use Rattle.fronius_meaning.specs.Measured as Measured
use Rattle.fronius_meaning.specs.Measured.{word_of, exponent_byte, exponent_of, tested, in_thousandths, tens_of, too_great, too_small, thousandths_of}
use Rattle.fronius_meaning.specs.Reading as Reading
use Rattle.fronius_meaning.specs.Reading.{kind_of, is_kind, carried, double_of, reading_of, IsReading, is_power, is_energy, is_current, is_voltage, is_frequency, is_minutes, is_money}
use Rattle.fronius_meaning.specs.declared.reading.Reading.{Reading}
use Rattle.std.proofs.Common.{Option, Some, None, Ok}
use Rattle.fronius_meaning.specs.Demands.{ThousandthsExact, DoubleExact, DoublesInUnits, Nearest, DoubleNearest, OneNumber, double_in}
use Rattle.fronius_meaning.proofs.ValueBounds.{exact, ten_le}
use Rattle.fronius_meaning.proofs.TestsInOrder.{no_refusal}
use Rattle.fronius_meaning.proofs.CommandChain.{carries}
use Rattle.fronius_meaning.proofs.QuotientIsNearest.{in_units, rounded_nearest}

neg_times : (n b : ℕ) → neg_ℤ (pos n) *ℤ pos b ≡ neg_ℤ (pos (n * b))
neg_times zero b = rw (zero-mul b)
neg_times (suc n) b = refl

times_twice : (v : ℤ) (a b : ℕ) → v *ℤ pos a *ℤ pos b ≡ v *ℤ pos (a * b)
times_twice (pos m) a b = ap pos (mul_assoc m a b)
times_twice (negsuc m) a b = neg_times (suc m * a) b ∙ ap (λ (n : ℕ). neg_ℤ (pos n)) (mul_assoc (suc m) a b)

-- the tens that a negative exponent takes and the tens that are left make a thousand
thousand : (n : ℕ) → n < 3 → 10 ^ tens_of (negsuc n) * 10 ^ suc n ≡ 1_000
thousand zero h = refl
thousand (suc zero) h = refl
thousand (suc (suc zero)) h = refl
thousand (suc (suc (suc n))) h = absurd (omega arith)

pub thousandths_exact : ThousandthsExact
thousandths_exact v = (
  λ e. ap (λ (n : ℕ). v *ℤ pos n) (pow-add 10 e 3),
  λ n h. times_twice v (10 ^ tens_of (negsuc n)) (10 ^ suc n) ∙ ap (λ (m : ℕ). v *ℤ pos m) (thousand n h),
)

pub double_exact : DoubleExact
unfolding of_int
double_exact w e h g = round_whole binary64 false (w * 10 ^ e) (exact w e (10 ^ e) h (omega arith) refl)

int_is : (n : ℕ) → n ≤ 2 ^ 53 → HasValue (of_int binary64 (pos n)) false n 1
unfolding of_int
int_is n h = round_whole binary64 false n h

down_pos : (e : ℤ) → 0 < down e
down_pos (pos k) = lit< tt
down_pos (negsuc k) = pow_pos (suc k)

-- the quotient of two whole doubles is their fraction, rounded once
div_at : (f : Format) (x y : Float) (a b : ℕ) → 0 < b → HasValue x false a 1 → HasValue y false b 1 → div f x y ≡ round f false a b
unfolding div
div_at f nan y a b B h k = absurd h
div_at f (inf s) y a b B h k = absurd h
div_at f (fin s m e) nan a b B h k = absurd k
div_at f (fin s m e) (inf t) a b B h k = absurd k
div_at f (fin s m e) (fin t n d) a b B h k =
    let p : m * up e ≡ a * down e = sym (mul-one (m * up e)) ∙ h.1 in
    let q : n * up d ≡ b * down d = sym (mul-one (n * up d)) ∙ k.1 in
    let Q : 0 < n * up d = subst (λ (z : ℕ). 0 < z) (sym q) (mul-pos B (down_pos d)) in
    let N : 0 < n = first_pos n (up d) Q in
    let x : m * up e * down d * b ≡ a * (n * up d * down e) = rw (p, q) (simp (mul_assoc, mul_comm, mul_left_comm)) in
    rw (ne_eqb n 0 (λ z. omega arith), h.0, k.0)
    (round_same f false (m * up e * down d) (n * up d * down e) a b (mul-pos Q (down_pos e)) B x)

divided_once : (w n : ℕ) → w < 65536 → n < 3 → double_of w (negsuc n) ≡ round binary64 false w (10 ^ suc n)
divided_once w n h g =
    let l : 10 ^ suc n ≤ 10 ^ 13 = ten_le (suc n) (omega arith) in
    div_at binary64 _ _ w (10 ^ suc n) (one-le-pow (suc n) 10 (lit< tt)) (int_is w (omega arith)) (int_is (10 ^ suc n) (omega arith))

pub doubles_in_units : DoublesInUnits
doubles_in_units = in_units

pub double_nearest : DoubleNearest
double_nearest w n h g =
    subst (λ (x : Float). Nearest x w (10 ^ suc n)) (sym (divided_once w n h g)) (rounded_nearest w (10 ^ suc n) (one-le-pow (suc n) 10 (lit< tt)) h)

-- the double of an exponent in range, from the thousandths
from_thousandths : (w : ℕ) (e : ℤ) → w < 65536 → too_great e ≡ false → too_small e ≡ false → double_of w e ≡ round binary64 false (w * 10 ^ tens_of e) 1_000
unfolding of_int
from_thousandths w (pos k) h g l =
    round_same binary64 false (w * 10 ^ k) 1 (w * 10 ^ (k + 3)) 1_000 (lit< tt) (lit< tt)
    (mul_assoc w (10 ^ k) 1_000 ∙ ap (λ (n : ℕ). w * n) (sym (pow-add 10 k 3)) ∙ sym (mul-one (w * 10 ^ (k + 3))))
from_thousandths w (negsuc n) h g l =
    let i : n < 3 = omega (arith, ltb-false 2 n l) in
    divided_once w n h i
    ∙ round_same binary64 false w (10 ^ suc n) (w * 10 ^ tens_of (negsuc n)) 1_000 (one-le-pow (suc n) 10 (lit< tt)) (lit< tt)
    (sym (mul_assoc w (10 ^ tens_of (negsuc n)) (10 ^ suc n) ∙ ap (λ (m : ℕ). w * m) (thousand n i)))

measured_tells : (t : ℤ) (why : Refusal) → Measured.tells 0 t ≡ refused_as Measured.tells (pos 0) why → ⊥
measured_tells t why e =
    let z : 0 ≡ Refusal.number why = cc in
    omega (arith, refusal_above why)

reading_tells : (r : Reading) (why : Refusal) → Reading.tells 0 (Some r) ≡ refused_as Reading.tells None why → ⊥
reading_tells r why e =
    let z : 0 ≡ Refusal.number why = cc in
    omega (arith, refusal_above why)

told_number : {t u : ℤ} → Measured.tells 0 t ≡ Measured.tells 0 u → t ≡ u
told_number e = cc

-- a reading that was given is the one of the rule
given_one : (s : List ℕ) (r : Reading) (x : Option Reading) (asked : Bool)
    → Reading.tells 0 (Some r) ≡ need asked (refused_as Reading.tells None NotForThisCall) (tested s (refused_as Reading.tells None) (Reading.tells 0 x)) → x ≡ Some r
given_one s r x true h =
    let p : Reading.tells 0 (Some r) ≡ Reading.tells 0 x = (no_refusal s (refused_as Reading.tells None) (Reading.tells 0 x) (Reading.tells 0 (Some r)) (reading_tells r) h).0 in
    cc
given_one s r x false h = absurd (reading_tells r NotForThisCall h)

given : (device command : ℕ) (s : List ℕ) (r : Reading) → IsReading device command s (Ok r)
    → carried (kind_of command) (double_of (word_of s) (exponent_of (exponent_byte s))) ≡ Some r
unfolding reading_of
given device command s r h =
    given_one s r (carried (kind_of command) (double_of (word_of s) (exponent_of (exponent_byte s)))) (eqb device 1 && is_kind (kind_of command)) h

-- x is a / 1, so it is (a * k) / k
over : (x : Float) (a k : ℕ) → HasValue x false a 1 → HasValue x false (a * k) k
over nan a k h = absurd h
over (inf s) a k h = absurd h
over (fin s m e) a k h = (
  h.0,
  ap (λ (z : ℕ). z * k) (sym (mul-one (m * up e)) ∙ h.1) ∙ mul_right_comm a (down e) k,
)

exactly : (w : ℕ) (e : ℤ) → w < 65536 → too_great e ≡ false → pos 0 ≤ℤ e → HasValue (double_of w e) false (w * 10 ^ tens_of e) 1_000
exactly w (pos k) h g l =
    subst (λ (n : ℕ). HasValue (double_of w (pos k)) false n 1_000) (mul_assoc w (10 ^ k) 1_000 ∙ ap (λ (n : ℕ). w * n) (sym (pow-add 10 k 3)))
    (over (double_of w (pos k)) (w * 10 ^ k) 1_000 (double_exact w k h (ltb-false 10 k g)))
exactly w (negsuc n) h g l = absurd l.le

pub one_number : OneNumber
unfolding thousandths_of kind_of
one_number device command s r t b h k =
    let w = word_of s in
    let e = exponent_of (exponent_byte s) in
    let i : w < 65536 = omega (arith, b 0, b 1) in
    let p = no_refusal s (refused_as Measured.tells (pos 0)) (Measured.tells 0 (in_thousandths (pos w) e)) (Measured.tells 0 t) (measured_tells t) k in
    let q : t ≡ in_thousandths (pos w) e = told_number p.0 in
    let x : double_in r ≡ double_of w e =
    carries (is_power command) (is_energy command) (is_current command) (is_voltage command) (is_frequency command) (is_minutes command) (is_money command)
    (double_of w e) r (given device command s r h) in (
      x ∙ from_thousandths w e i p.1 p.2 ∙ ap (λ (n : ℤ). round binary64 false (nat_abs n) 1_000) (sym q),
      λ l. rw (x, q) (exactly w e i p.1 l),
    )
