-- Laws of lists that more than one family's code asks for.
-- Assumes nothing.
use Prim.Native.Nat.{ℕ, zero, suc, ◌+◌, ◌-◌, ◌≤◌}
use mathlib.Core.Path.{◌≡◌, sym, ap, ◌∙◌}
use mathlib.Core.List.{List, [], ◌∷◌, ◌++◌, append-nil, append_assoc}
use lib.ListN.{length, take, drop, set, length-drop, drop_of_length-le}
use lib.Seq.{take-nil, take_all, take-length, drop-drop, sets, sets-eq}
use native.Mathlib.Nat.{add-zero, zero-add, add-suc, suc-add, le_refl}
use borrow.Rule.Slice.PartMut.{put_mid}
use native.Mathlib.Omega.{arith}

pub drop_take : (n k : ℕ) (l : List ℕ) → drop n (take (n + k) l) ≡ take k (drop n l)
drop_take zero k l = rw zero-add
drop_take (suc n) k [] = rw (suc-add, take-nil)
drop_take (suc n) k (x ∷ l) = rw suc-add (drop_take n k l)

-- the part of h from `at` to `at + n`, copied whole to the front of l
pub part_front : (h l : List ℕ) (at n : ℕ)
    → (let part : List ℕ = take (at + n - at) (drop at h) in take (length part) part ++ drop (length part) l ≡ take n (drop at h) ++ drop (length (take n (drop at h))) l)
part_front h l at n =
    let e : at + n - at ≡ n = omega arith in
    let x : List ℕ = take n (drop at h) in
    rw e (ap (λ (y : List ℕ). y ++ drop (length x) l) (take-length x))

-- all of src, copied into the part of l from `at` on
pub part_put : (l m src : List ℕ) (at : ℕ) → at + length src ≤ length l → m ≡ take (length src) src ++ drop (length src) (take (length l - at) (drop at l))
    → put_mid at (length l - at) l m ≡ sets l at src
part_put l m src at room e =
    let whole : take (length l - at) (drop at l) ≡ drop at l = take_all (length l - at) (drop at l) (simp length-drop (le_refl _)) in
    let none : drop (length l - at) (drop at l) ≡ [] = drop_of_length-le (drop at l) {i = length l - at} (simp length-drop (le_refl _)) in
    let put : put_mid at (length l - at) l m ≡ take at l ++ (src ++ drop (at + length src) l) = simp (none, append-nil, e, whole, drop-drop, take-length) in
    put ∙ sym (append_assoc (take at l) src (drop (at + length src) l)) ∙ sym (sets-eq src l at room)

-- stores after stores, and stores at the front
pub sets_append : (l : List ℕ) (i : ℕ) (a b : List ℕ) → sets (sets l i a) (i + length a) b ≡ sets l i (a ++ b)
sets_append l i [] b = rw add-zero
sets_append l i (x ∷ a) b = rw (add-suc, ← suc-add) (sets_append (set l i x) (suc i) a b)

pub sets_front : (vs l : List ℕ) → length vs ≤ length l → sets l 0 vs ≡ vs ++ drop (length vs) l
sets_front vs l room = sets-eq vs l 0 (omega arith) ∙ ap (λ (k : ℕ). vs ++ drop k l) (zero-add (length vs))
