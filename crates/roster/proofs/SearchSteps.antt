-- Comparing and searching from one byte, and one place, to the next.
-- Assumes nothing.
use Prim.Native.Nat.{ℕ, suc, ◌+◌, ◌*◌, ◌-◌, ◌≤◌, ◌<◌}
use mathlib.Core.Path.{◌≡◌, sym, ap, ◌∙◌}
use mathlib.Core.Bool.{Bool, true, false, cond, not, ◌&&◌, and_assoc, and-true}
use mathlib.Core.List.{List, [], ◌∷◌}
use native.Mathlib.Numerals.{add-one}
use native.Mathlib.Omega.{arith}
use lib.ListN.{length, get_or, take, drop, drop_of_length-le, length-drop}
use lib.Seq.{drop-cons, drop-length}
use lib.Dec.{eqb}
use borrow.Author.Tests.{eqb-false, eq-eqb, ne_eqb, not-true, not-false}
use Rattle.std.specs.Prelude.{Option, Some, None, is_some}
use Rattle.numbers.specs.Lists.{same}
use Rattle.roster.specs.Roster.{places, serial_size, first, no_place}
use Rattle.roster.specs.Bytes.{place_size, roster_size, places_of}
use Rattle.roster.specs.Inside.{place_in, FirstFrom}
use Rattle.roster.specs.declared.Place.{Place}
use Rattle.roster.proofs.PlacesInBytes.{next_place, count_places}

pub same_next : (a b : List ℕ) (i : ℕ) (r : Bool) → i < length a → i < length b
    → same a b ≡ (r && same (drop i a) (drop i b))
    → same a b ≡ ((r && eqb (get_or a i 0) (get_or b i 0)) && same (drop (i + 1) a) (drop (i + 1) b))
same_next a b i r la lb e =
    e
    ∙ rw (drop-cons a i 0 la, drop-cons b i 0 lb, add-one i) (sym (and_assoc r (eqb (get_or a i 0) (get_or b i 0)) (same (drop (suc i) a) (drop (suc i) b))))

pub same_end : (a b : List ℕ) (i : ℕ) (r : Bool) → length a ≤ i → length b ≤ i → same a b ≡ (r && same (drop i a) (drop i b)) → r ≡ same a b
same_end a b i r la lb e = sym (e ∙ rw (drop_of_length-le a la, drop_of_length-le b lb) (and-true r))

-- the serial of place k, as it is lent
pub serial_there : (roster : List ℕ) (k : ℕ)
    → take (k * place_size + place_size - (k * place_size + 1)) (drop (k * place_size + 1) roster) ≡ (place_in roster k).serial
serial_there roster k =
    let e : k * place_size + place_size - (k * place_size + 1) ≡ serial_size = omega arith in
    ap (λ (n : ℕ). take n (drop (k * place_size + 1) roster)) e

-- ---- from place k to the next

pub first_most : (test : Place → Bool) (ps : List Place) → first test ps ≤ length ps
first_most test [] = omega arith
first_most test (p ∷ ps) = go (test p) (first_most test ps)
  where
    go : (t : Bool) → first test ps ≤ length ps → cond t 0 (first test ps + 1) ≤ length (p ∷ ps)
    go true h = omega arith
    go false h = omega arith

-- the search from one place on goes on from k
abbrev pub Passed : (Place → Bool) → List ℕ → ℕ → ℕ → Type 0
Passed test roster from k = from + first test (drop from (places_of roster)) ≡ k + first test (drop k (places_of roster))

module _ (test : Place → Bool) (roster : List ℕ) (sized : length roster ≡ roster_size) where
  place_here : (k : ℕ) → k < places → drop k (places_of roster) ≡ place_in roster k ∷ drop (suc k) (places_of roster)
  place_here k l = next_place roster k (omega arith)

  left : (from : ℕ) → length (drop from (places_of roster)) ≡ places - from
  left from = length-drop from (places_of roster) ∙ ap (λ (n : ℕ). n - from) (count_places places roster sized)

  pub passed_here : (from k : ℕ) → k < places → Passed test roster from k → test (place_in roster k) ≡ true → FirstFrom test (places_of roster) from (Some k)
  passed_here from k l p t =
      let here : from + first test (drop from (places_of roster)) ≡ k = p ∙ rw (place_here k l, t) (omega arith) in
      let none : first test (drop from (places_of roster)) ≡ length (drop from (places_of roster)) → ⊥ = λ q. omega (arith, q, here, left from, l) in
      (ne_eqb _ _ none, sym here)

  pub passed_more : (from k : ℕ) → k < places → Passed test roster from k → test (place_in roster k) ≡ false → Passed test roster from (k + 1)
  passed_more from k l p t = p ∙ rw (place_here k l, t, add-one k) (omega arith)

  pub passed_all : (from k : ℕ) → from ≤ places → places ≤ k → k ≤ places → Passed test roster from k → FirstFrom test (places_of roster) from None
  passed_all from k f l h p =
      let whole : k ≡ length (places_of roster) = (let e : k ≡ places = omega arith in e ∙ sym (count_places places roster sized)) in
      let all : from + first test (drop from (places_of roster)) ≡ places = p ∙ rw whole (rw (drop-length (places_of roster)) (omega (arith, count_places places roster sized))) in
      eq-eqb _ _ (let e : first test (drop from (places_of roster)) ≡ length (drop from (places_of roster)) = omega (arith, all, left from, f) in e)

-- what was found stands inside the roster
pub found_within : (test : Place → Bool) (roster : List ℕ) (from k : ℕ) → length roster ≡ roster_size → FirstFrom test (places_of roster) from (Some k) → k < places
found_within test roster from k sized f =
    let ps : List Place = drop from (places_of roster) in
    let long : length ps ≡ places - from = length-drop from (places_of roster) ∙ ap (λ (n : ℕ). n - from) (count_places places roster sized) in
    omega (arith, f.1, long, first_most test ps, eqb-false _ _ f.0)

-- whether nothing was found
pub none_found : (test : Place → Bool) (ps : List Place) (from : ℕ) (r : Option ℕ) (t : Bool) → FirstFrom test ps from r → is_some r ≡ not t → t ≡ no_place test (drop from ps)
none_found test ps from (Some k) t f e = not-true t (sym e) ∙ sym f.0
none_found test ps from None t f e = not-false t (sym e) ∙ sym f
