-- What is put one behind the other is put as one; put at the front, it is written.
-- Assumes nothing.
use Rattle.std.specs.Prelude.{Ok}
use Prim.Native.Nat.{ℕ, suc, ◌+◌, ◌*◌, ◌/◌, ◌%◌, ◌≤◌, ◌<◌}
use mathlib.Core.Path.{◌≡◌, refl, sym, ap, subst, ◌∙◌}
use mathlib.Core.Bool.{false}
use mathlib.Core.List.{List, [], ◌∷◌, ◌++◌}
use lib.ListN.{length, drop, set, get_or, length-append}
use lib.Seq.{sets, sets-eq, drop-cons}
use borrow.Rule.Slice.PartMut.{put_mid}
use native.Mathlib.Nat.{add-zero, zero-add, add-suc, suc-add}
use native.Mathlib.Numerals.{add-one}
use native.Mathlib.Omega.{arith}
use Rattle.answers.specs.Written.{Writes}
use Rattle.answers.proofs.WriterPromise.{writes_done}
use Rattle.listing_text.specs.Lines.{hex_digit, hex}
use Rattle.listing_text.specs.Inside.{Put}

pub sets_append : (l : List ℕ) (i : ℕ) (a b : List ℕ) → sets (sets l i a) (i + length a) b ≡ sets l i (a ++ b)
sets_append l i [] b = rw add-zero
sets_append l i (x ∷ a) b = rw (add-suc, ← suc-add) (sets_append (set l i x) (suc i) a b)

-- a text behind another
pub then : (l m k a b : List ℕ) (at p q : ℕ) → Put l at a p m → Put m p b q k → Put l at (a ++ b) q k
then l m k a b at p q x y = (
  rw length-append (omega (arith, x.0, y.0)),
  y.1 ∙ ap (λ (i : List ℕ). sets i p b) x.1 ∙ ap (λ (i : ℕ). sets (sets l at a) i b) x.0 ∙ sets_append l at a b,
)

-- a byte behind it
pub and : (l m a : List ℕ) (at p v : ℕ) → Put l at a p m → Put l at (a ++ (v ∷ [])) (p + 1) (set m p v)
and l m a at p v x = then l m (set m p v) a (v ∷ []) at p (p + 1) x (refl, refl)

-- at the front
pub put_front : (l text : List ℕ) → length text ≤ length l → sets l 0 text ≡ text ++ drop (length text) l
put_front l text room = sets-eq text l 0 (omega arith) ∙ ap (λ (k : ℕ). text ++ drop k l) (zero-add (length text))

pub written : (l m text other : List ℕ) (r : ℕ) → text ≡ other → length other ≤ length l → Put l 0 text r m → Writes false other l (Ok r) m
written l m text other r e room x =
    let whole : m ≡ other ++ drop (length other) l = x.1 ∙ ap (λ (t : List ℕ). sets l 0 t) e ∙ put_front l other room in
    let long : length other ≡ r = ap length (sym e) ∙ sym (x.0 ∙ zero-add (length text)) in
    subst (λ (k : List ℕ). Writes false other l (Ok r) k) (sym whole)
    (subst (λ (k : ℕ). Writes false other l (Ok k) (other ++ drop (length other) l)) long (writes_done other l room))

-- the two digits of a byte
pub digits_put : (l : List ℕ) (at b : ℕ) → Put l at (hex (b ∷ [])) (at + 2) (set (set l at (hex_digit (b / 16))) (at + 1) (hex_digit (b % 16)))
digits_put l at b = (refl, rw (add-one at))

-- two digits, and what is left
pub two : (bs l : List ℕ) (i p : ℕ) → i < length bs
    → sets (set (set l p (hex_digit (get_or bs i 0 / 16))) (p + 1) (hex_digit (get_or bs i 0 % 16))) (p + 2) (hex (drop (i + 1) bs)) ≡ sets l p (hex (drop i bs))
two bs l i p h =
    let next : p + 2 ≡ suc (suc p) = omega arith in
    rw (drop-cons bs i 0, add-one i, add-one p, next)

-- the same where the i bytes before stand from `at` on
pub two_more : (bs l : List ℕ) (i at : ℕ) → i < length bs
    → sets (set (set l (at + 2 * i) (hex_digit (get_or bs i 0 / 16))) (at + 2 * i + 1) (hex_digit (get_or bs i 0 % 16))) (at + 2 * (i + 1)) (hex (drop (i + 1) bs))
    ≡ sets l (at + 2 * i) (hex (drop i bs))
two_more bs l i at h =
    let next : at + 2 * (i + 1) ≡ at + 2 * i + 2 = omega arith in
    rw next (two bs l i (at + 2 * i) h)

-- a whole list copied to the front
pub copied : (l m src : List ℕ) → length src ≤ length l → m ≡ src → put_mid 0 (length src) l m ≡ sets l 0 src
copied l m src room e =
    let rest : drop (length src) (drop 0 l) ≡ drop (length src) l = ap (λ (k : List ℕ). drop (length src) k) refl in
    rw e (ap (λ (k : List ℕ). src ++ k) rest) ∙ sym (put_front l src room)
