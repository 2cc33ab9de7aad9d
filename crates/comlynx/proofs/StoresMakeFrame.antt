-- Bytes stored stuffed, one after another, make a frame.
-- Assumes nothing.
use Prim.Native.Nat.{ℕ, suc, ◌+◌, ◌*◌, ◌≤◌, ◌<◌}
use mathlib.Core.Path.{◌≡◌, refl, sym, ap, ◌∙◌}
use mathlib.Core.Bool.{Bool, true, false, cond}
use mathlib.Core.List.{List, [], ◌∷◌, ◌++◌, append_assoc}
use lib.ListN.{length, drop, get_or, set, length-append, drop_of_length-le}
use lib.Seq.{sets, length-sets, drop-cons}
use lib.Dec.{eqb}
use native.Mathlib.Numerals.{add-one}
use native.Mathlib.Omega.{arith}
use Rattle.stream.proofs.ListLaws.{sets_append}
use Rattle.comlynx.specs.Wire.{flag, escape, stuffed, flag_pair, escape_pair}
use Rattle.comlynx.specs.Inside.{Stuffs, framed}
use Rattle.comlynx.proofs.UnstuffingUndoes.{stuffed_length, special_most}

pub stored_length : (bs : List ℕ) (at : ℕ) (l : List ℕ) (r : ℕ) (k : List ℕ) → Stuffs bs at l r k → length k ≡ length l
stored_length bs at l r k (e, f) = ap length f ∙ length-sets l at (stuffed bs)

-- ---- lists

stuffed_cons : (b : ℕ) (s : List ℕ) → stuffed (b ∷ s) ≡ stuffed (b ∷ []) ++ stuffed s
stuffed_cons b s = go (eqb b flag) (eqb b escape)
  where
    go : (t u : Bool) → cond t (escape ∷ flag_pair ∷ stuffed s) (cond u (escape ∷ escape_pair ∷ stuffed s) (b ∷ stuffed s)) ≡ cond t (escape ∷ flag_pair ∷ []) (cond u (escape ∷ escape_pair ∷ []) (b ∷ [])) ++ stuffed s
    go true u = refl
    go false true = refl
    go false false = refl

pub stuffed_append : (s t : List ℕ) → stuffed (s ++ t) ≡ stuffed s ++ stuffed t
stuffed_append [] t = refl
stuffed_append (b ∷ s) t =
    stuffed_cons b (s ++ t)
    ∙ ap (λ (l : List ℕ). stuffed (b ∷ []) ++ l) (stuffed_append s t)
    ∙ sym (append_assoc (stuffed (b ∷ [])) (stuffed s) (stuffed t))
    ∙ ap (λ (l : List ℕ). l ++ stuffed t) (sym (stuffed_cons b s))

pub stuffed_most : (s : List ℕ) → length (stuffed s) ≤ 2 * length s
stuffed_most s = omega (arith, stuffed_length s, special_most s)

-- what is left to be stored from the place i on: the next byte, and the rest
pub left : (s : List ℕ) (i : ℕ) → i < length s → stuffed (drop i s) ≡ stuffed (get_or s i 0 ∷ []) ++ stuffed (drop (i + 1) s)
left s i h = ap stuffed (drop-cons s i 0 h) ∙ stuffed_cons (get_or s i 0) (drop (suc i) s) ∙ ap (λ (n : ℕ). stuffed (get_or s i 0 ∷ []) ++ stuffed (drop n s)) (sym (add-one i))

pub left_length : (s : List ℕ) (i : ℕ) → i < length s → length (stuffed (drop i s)) ≡ length (stuffed (get_or s i 0 ∷ [])) + length (stuffed (drop (i + 1) s))
left_length s i h = ap length (left s i h) ∙ length-append (stuffed (get_or s i 0 ∷ [])) (stuffed (drop (i + 1) s))

pub left_none : (s : List ℕ) (i : ℕ) → length s ≤ i → stuffed (drop i s) ≡ []
left_none s i h = ap stuffed (drop_of_length-le s h)

-- ---- a frame

pub framed_length : (a b c : List ℕ) → length (framed a b c) ≡ length (stuffed a) + length (stuffed b) + length (stuffed c) + 2
framed_length a b c =
    let body = (a ++ b) ++ c in
    omega (
      arith,
      length-append (stuffed body) (flag ∷ []),
      ap length (stuffed_append (a ++ b) c),
      length-append (stuffed (a ++ b)) (stuffed c),
      ap length (stuffed_append a b),
      length-append (stuffed a) (stuffed b),
    )

pub frame_stored : (a b c lent : List ℕ) (p q r : ℕ) (k l m : List ℕ) → Stuffs a 1 (set lent 0 flag) p k → Stuffs b p k q l → Stuffs c q l r m → set m r flag ≡ sets lent 0 (framed a b c)
frame_stored a b c lent p q r k l m (e₁, f₁) (e₂, f₂) (e₃, f₃) =
    let o = set lent 0 flag in
    let two : l ≡ sets o 1 (stuffed a ++ stuffed b) = f₂ ∙ rw (e₁, f₁) (sets_append o 1 (stuffed a) (stuffed b)) in
    let at₂ : q ≡ 1 + length (stuffed a ++ stuffed b) = omega (arith, length-append (stuffed a) (stuffed b)) in
    let three : m ≡ sets o 1 ((stuffed a ++ stuffed b) ++ stuffed c) = f₃ ∙ rw (at₂, two) (sets_append o 1 (stuffed a ++ stuffed b) (stuffed c)) in
    let at₃ : r ≡ 1 + length ((stuffed a ++ stuffed b) ++ stuffed c) = omega (arith, length-append (stuffed a ++ stuffed b) (stuffed c)) in
    let body : (stuffed a ++ stuffed b) ++ stuffed c ≡ stuffed ((a ++ b) ++ c) =
    ap (λ (x : List ℕ). x ++ stuffed c) (sym (stuffed_append a b)) ∙ sym (stuffed_append (a ++ b) c) in
    rw (at₃, three) (sets_append o 1 ((stuffed a ++ stuffed b) ++ stuffed c) (flag ∷ []) ∙ ap (λ (x : List ℕ). sets o 1 (x ++ (flag ∷ []))) body)
