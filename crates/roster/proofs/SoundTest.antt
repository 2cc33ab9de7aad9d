-- The test for 18, place by place; and what a sound roster says of each place.
-- Assumes nothing.
use Prim.Native.Nat.{ℕ, suc, ◌+◌, ◌*◌, ◌<◌}
use mathlib.Core.Path.{◌≡◌, refl, sym, ap, ◌∙◌}
use mathlib.Core.Bool.{Bool, true, false, not, ◌&&◌, and-true}
use mathlib.Core.List.{List, [], ◌∷◌}
use native.Mathlib.Numerals.{add-one}
use native.Mathlib.Omega.{arith}
use lib.ListN.{length, get_or, drop, length-drop}
use lib.Seq.{length-take-le}
use lib.Dec.{eqb}
use borrow.Author.Tests.{eqb-true, eqb-false, eq-eqb, ne_eqb, not-false}
use Rattle.numbers.specs.Lists.{same}
use Rattle.numbers.proofs.Alike.{zero_is_one}
use Rattle.numbers.proofs.TestLaws.{both}
use Rattle.roster.specs.Roster.{places, serial_size, free_place, used, free, used_by, good, no_place, alone, sound, spoilt}
use Rattle.roster.specs.Bytes.{place_size, roster_size, places_of, Whole}
use Rattle.std.specs.Prelude.{Option, is_some}
use Rattle.roster.specs.Inside.{place_in, sound_at, FirstFrom}
use Rattle.roster.specs.declared.Place.{Place}
use Rattle.roster.proofs.SearchSteps.{none_found}
use Rattle.roster.proofs.PlacesInBytes.{bytes_places, next_place, count_places, whole_bytes}

-- ---- tests

pub eqb_alike : (a b c d : ℕ) → (a ≡ b → c ≡ d) → (c ≡ d → a ≡ b) → eqb a b ≡ eqb c d
eqb_alike a b c d to back = go (eqb a b) refl
  where
    go : (t : Bool) → eqb a b ≡ t → t ≡ eqb c d
    go true e = sym (eq-eqb c d (to (eqb-true a b e)))
    go false e = sym (ne_eqb c d (λ q. eqb-false a b e (back q)))

-- ---- one place

module _ (b : List ℕ) (k : ℕ) (sized : length b ≡ roster_size) (inside : k < places) where
  serial_whole : length (place_in b k).serial ≡ serial_size
  serial_whole = length-take-le serial_size (drop (k * place_size + 1) b) (simp length-drop (omega arith))

  pub sound_used : get_or b (k * place_size) 0 ≡ 1 → (r : Option ℕ) (t : Bool) → FirstFrom (used_by (place_in b k).serial) (places_of b) (k + 1) r → is_some r ≡ not t
      → t ≡ sound_at b k
  unfolding good alone used
  sound_used m r t f e =
      let test : Place → Bool = used_by (place_in b k).serial in
      none_found test (places_of b) (k + 1) r t f e
      ∙ ap (λ (n : ℕ). no_place test (drop n (places_of b))) (add-one k)
      ∙ simp (eq-eqb _ _ serial_whole, eq-eqb _ _ m)

  pub sound_neither : (get_or b (k * place_size) 0 ≡ 1 → ⊥) → (get_or b (k * place_size) 0 ≡ 0 → ⊥) → false ≡ sound_at b k
  unfolding good alone used free
  sound_neither m n = simp (eq-eqb _ _ serial_whole, ne_eqb _ _ m, ne_eqb _ _ n)

  pub sound_free : get_or b (k * place_size) 0 ≡ 0 → same (place_in b k).serial free_place.serial ≡ sound_at b k
  unfolding good alone used free
  sound_free m =
      let p : Place = place_in b k in
      let n : eqb p.mark 1 ≡ false = ap (λ (x : ℕ). eqb x 1) m in
      simp (eq-eqb _ _ serial_whole, n, eq-eqb _ _ m, and-true)

  -- all from place k on
  pub sound_from : sound (drop k (places_of b)) ≡ (sound_at b k && sound (drop (suc k) (places_of b)))
  sound_from = ap sound (next_place b k (omega arith))

-- ---- all places

pub good_whole : (p : Place) → good p ≡ true → length p.serial ≡ serial_size
unfolding good
good_whole p e = eqb-true _ _ (both (eqb (length p.serial) serial_size) _ e).0

pub sound_whole : (ps : List Place) → sound ps ≡ true → Whole ps
sound_whole [] e = tt
sound_whole (p ∷ ps) e =
    let all = both (good p && alone p ps) (sound ps) e in
    (good_whole p (both (good p) (alone p ps) all.0).0, sound_whole ps all.1)

-- a roster that is not spoilt
pub record Fine (ps : List Place) : Type 0 where
  pub count : length ps ≡ places
  pub all : sound ps ≡ true

pub not_spoilt : (ps : List Place) → spoilt ps ≡ false → Fine ps
unfolding spoilt
not_spoilt ps e =
    let two = both (eqb (length ps) places) (sound ps) (not-false _ e) in
    record { count = eqb-true _ _ two.0; all = two.1 }

pub fine : (ps : List Place) → Fine ps → spoilt ps ≡ false
unfolding spoilt
fine ps f = simp (eq-eqb _ _ f.count, f.all)

-- bytes of another size
pub other_size : (b : List ℕ) → (length b ≡ roster_size → ⊥) → spoilt (places_of b) ≡ true
other_size b h = go (spoilt (places_of b)) refl
  where
    go : (t : Bool) → spoilt (places_of b) ≡ t → t ≡ true
    go true e = refl
    go false e =
        let f = not_spoilt (places_of b) e in
        absurd (h (sym (ap length (bytes_places b)) ∙ whole_bytes (places_of b) (sound_whole (places_of b) f.all) ∙ ap (λ (n : ℕ). n * place_size) f.count))

pub this_size : (b : List ℕ) → length b ≡ roster_size → spoilt (places_of b) ≡ not (sound (places_of b))
unfolding spoilt
this_size b e = simp (eq-eqb _ _ (count_places places b e))

-- a roster that is not spoilt has the size
pub fine_size : (b : List ℕ) → spoilt (places_of b) ≡ false → length b ≡ roster_size
fine_size b e = go (eqb (length b) roster_size) refl
  where
    go : (t : Bool) → eqb (length b) roster_size ≡ t → length b ≡ roster_size
    go true q = eqb-true _ _ q
    go false q = let z : true ≡ false = sym (other_size b (eqb-false _ _ q)) ∙ e in zero_is_one cc
