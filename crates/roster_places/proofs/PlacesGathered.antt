-- Places written into a roster's bytes, one after another.
-- Assumes nothing.
use Prim.Native.Nat.{ℕ, zero, suc, ◌+◌, ◌*◌, ◌-◌, ◌≤◌, ◌<◌}
use mathlib.Core.Path.{◌≡◌, sym, ap, subst, ◌∙◌}
use mathlib.Core.List.{List, [], ◌∷◌}
use native.Mathlib.Omega.{arith}
use lib.ListN.{length, get_or, set, drop, length-drop}
use lib.Seq.{length-take-le, ext_get_or, get_or-set_same, get_or-set_other, set_out}
use borrow.Author.Count.{below_more}
use borrow.Rule.Slice.PartMut.{put_mid}
use Rattle.roster.specs.Roster.{places, serial_size}
use Rattle.roster.specs.Bytes.{place_size, roster_size, places_of, Whole}
use Rattle.roster.specs.declared.Place.{Place}
use Rattle.roster.proofs.PlacesInBytes.{places_none, places_more, places_bytes, place_put, count_places}

whole_places : (n : ℕ) (b : List ℕ) → length b ≡ n * place_size → Whole (places_of b)
whole_places zero [] e = subst Whole (sym places_none) tt
whole_places zero (x ∷ b) e = absurd (let z : ⊥ = omega (arith, e) in z)
whole_places (suc n) [] e = absurd (let z : ⊥ = omega (arith, e) in z)
whole_places (suc n) (x ∷ b) e =
    let long : length (drop serial_size b) ≡ length b - serial_size = length-drop serial_size b in
    subst Whole (sym (places_more x b)) (length-take-le serial_size b (omega (arith, e)), whole_places n (drop serial_size b) (omega (arith, e, long)))

whole_set : (ps : List Place) (k : ℕ) (p : Place) → length p.serial ≡ serial_size → Whole ps → Whole (set ps k p)
whole_set [] k p l w = subst Whole (sym (set_out [] k p (omega arith))) tt
whole_set (q ∷ ps) zero p l w = (l, w.1)
whole_set (q ∷ ps) (suc k) p l w = (w.0, whole_set ps k p l w.1)

-- the mark stored at a place, and its serial behind it
pub put_there : (b m : List ℕ) (k n : ℕ) (p : Place) → length b ≡ roster_size → k < places → length p.serial ≡ serial_size → n ≡ serial_size → m ≡ p.serial
    → places_of (put_mid (k * place_size + 1) n (set b (k * place_size) p.mark) m) ≡ set (places_of b) k p
put_there b m k n p sized inside long count same =
    ap places_of (place_put b m k n p sized inside long count same) ∙ places_bytes (set (places_of b) k p) (whole_set (places_of b) k p long (whole_places places b sized))

-- ---- gathered

-- one more place agrees
pub agree_more : (ys zs ws : List Place) (other : Place) (i : ℕ) → i < length zs → ws ≡ set zs i (get_or ys i other) → ((k : ℕ) → k < i → get_or zs k other ≡ get_or ys k other)
    → (k : ℕ) → k < i + 1 → get_or ws k other ≡ get_or ys k other
agree_more ys zs ws other i l e h =
    below_more (λ (k : ℕ). get_or ws k other ≡ get_or ys k other) i
    (λ k lt. ap (λ (t : List Place). get_or t k other) e ∙ get_or-set_other zs i k (get_or ys i other) other (λ x. (let z : ⊥ = omega (arith, x, lt) in z)) ∙ h k lt)
    (ap (λ (t : List Place). get_or t i other) e ∙ get_or-set_same zs i (get_or ys i other) other l)

-- at the end all do
pub agree_all : (ys : List Place) (b : List ℕ) (other : Place) (i : ℕ) → length b ≡ roster_size → places ≤ i
    → ((k : ℕ) → k < i → get_or (places_of b) k other ≡ get_or ys k other) → length ys ≡ places → places_of b ≡ ys
agree_all ys b other i sized l h e =
    let count = count_places places b sized in
    ext_get_or other (places_of b) ys (count ∙ sym e) (λ k kl. h k (omega (arith, kl, count, l)))
