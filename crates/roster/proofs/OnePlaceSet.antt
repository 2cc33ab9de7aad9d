-- What one call leaves as it was: the other serials, and the bytes of the other places.
-- Assumes nothing.
use Prim.Native.Nat.{ℕ, zero, suc, ◌+◌, ◌*◌, ◌-◌, ◌≤◌, ◌<◌}
use mathlib.Core.Path.{◌≡◌, refl, sym, ap, ◌∙◌}
use mathlib.Core.Bool.{Bool, true, false, cond, not}
use mathlib.Core.List.{List, [], ◌∷◌, ◌++◌}
use native.Mathlib.Numerals.{add-one}
use native.Mathlib.Omega.{arith}
use lib.ListN.{length, get_or, set, take, drop}
use lib.Seq.{set_out}
use lib.Dec.{eqb}
use borrow.Author.Tests.{eqb-true, le-leb}
use Rattle.numbers.specs.Addresses.{is_serial}
use Rattle.answers.specs.Answer.{Answer, answer, need}
use Rattle.answers.specs.Refusal.{refused}
use Rattle.answers.specs.declared.Refusal.TheVariants.{RosterFull, WrongAddressOrExponentTooLow, NotForThisCall, Spoilt}
use Rattle.roster.specs.Roster.{places, serial_size, used_place, free_place, used, free, used_by, first, no_place, sound, spoilt, giving_sound, giving, none_at, removing, finding}
use Rattle.roster.specs.Bytes.{place_size, places_of, bytes_of}
use Rattle.roster.specs.Demands.{OnlyAt}
use Rattle.roster.specs.declared.Place.{Place}
use Rattle.roster.proofs.PlacesInBytes.{set_place, set_length}
use Rattle.roster.proofs.SoundTest.{Fine, not_spoilt, fine, good_whole, fine_size}
use Rattle.roster.proofs.CallEnds.{Held, held}
use Rattle.roster.proofs.RosterRule.{no, same_other, first_found, some_pass, used_by_used, used_by_free, used_by_true, used_used, used_free, sound_of, alone_used, fine_free, fine_used}
use Rattle.roster.proofs.AnswerSays.{fit, Gave, kept, new, finding_there}

-- ---- one place is set, and none of the two passes the test

first_set : (test : Place → Bool) (q : Place) → test q ≡ false → (ps : List Place) (k : ℕ) → test (get_or ps k free_place) ≡ false → first test (set ps k q) ≡ first test ps
first_set test q t [] k e = ap (first test) (set_out [] k q (omega arith))
first_set test q t (p ∷ ps) zero e = simp (t, e)
first_set test q t (p ∷ ps) (suc k) e = ap (λ (n : ℕ). cond (test p) 0 (n + 1)) (first_set test q t ps k e)

finding_alike : (ps qs : List Place) (s : List ℕ) → Fine ps → Fine qs → first (used_by s) qs ≡ first (used_by s) ps → finding qs s ≡ finding ps s
unfolding finding
finding_alike ps qs s f g e = simp (fine ps f, fine qs g, e, f.count, g.count)

-- ---- giving

used_not_free : (p : Place) → free p ≡ true → used p ≡ false
unfolding used free
used_not_free p e = ap (λ (n : ℕ). eqb n 1) (eqb-true p.mark 0 e)

free_not_used : (p : Place) → used p ≡ true → free p ≡ false
unfolding used free
free_not_used p e = ap (λ (n : ℕ). eqb n 0) (eqb-true p.mark 1 e)

new_others : (ps : List Place) (s other : List ℕ) → (other ≡ s → ⊥) → Fine ps → length s ≡ serial_size → no_place (used_by s) ps ≡ true → no_place free ps ≡ false
    → finding (set ps (first free ps) (used_place s)) other ≡ finding ps other
new_others ps s other d f l n m =
    let k : ℕ = first free ps in
    let was : used_by other (get_or ps k free_place) ≡ false = used_by_free other (get_or ps k free_place) (used_not_free (get_or ps k free_place) (first_found free ps free_place m).here) in
    let is : used_by other (used_place s) ≡ false = used_by_used other (used_place s) (used_used s) ∙ same_other s other (λ e. d (sym e)) in
    finding_alike ps (set ps k (used_place s)) other f (fine_used ps k s l n f) (first_set (used_by other) (used_place s) is ps k was)

pub giving_others : (ps : List Place) (s other : List ℕ) → (other ≡ s → ⊥) → finding (giving ps s).1 other ≡ finding ps other
unfolding giving giving_sound
giving_others ps s other d = go (spoilt ps) refl (is_serial s) refl (no_place (used_by s) ps) refl (no_place free ps) refl
  where
    go : (t : Bool) → spoilt ps ≡ t → (u : Bool) → is_serial s ≡ u → (v : Bool) → no_place (used_by s) ps ≡ v → (w : Bool) → no_place free ps ≡ w
        → (let end : Answer × List Place = need (not t) (refused 1 Spoilt, ps) (need u (refused 1 NotForThisCall, ps)
        (need v (answer 0 ((first (used_by s) ps + 1) ∷ []), ps)
        (need (not w) (refused 1 RosterFull, ps) (answer 0 ((first free ps + 1) ∷ []), set ps (first free ps) (used_place s))))) in
        finding end.1 other ≡ finding ps other)
    go true a u b v c w e = refl
    go false a false b v c w e = refl
    go false a true b false c w e = refl
    go false a true b true c true e = refl
    go false a true b true c false e = new_others ps s other d (not_spoilt ps a) (fit s b) c e

-- ---- removing

-- in a sound list a serial uses one place alone
only_user : (s : List ℕ) (ps : List Place) (k : ℕ) → sound ps ≡ true → k < length ps → used_by s (get_or ps k free_place) ≡ true → first (used_by s) ps ≡ k
only_user s [] k o l e = absurd (let z : ⊥ = omega (arith, l) in z)
only_user s (p ∷ ps) zero o l e = simp e
only_user s (p ∷ ps) (suc k) o l e = go (used_by s p) refl (only_user s ps k (sound_of p ps o).behind (omega (arith, l)) e)
  where
    go : (t : Bool) → used_by s p ≡ t → first (used_by s) ps ≡ k → cond t 0 (first (used_by s) ps + 1) ≡ suc k
    go false q r = add-one (first (used_by s) ps) ∙ ap suc r
    go true q r =
        let u = used_by_true s p q in
        let none : no_place (used_by s) ps ≡ true = ap (λ (x : List ℕ). no_place (used_by x) ps) (sym u.1) ∙ sym (alone_used p ps u.0) ∙ (sound_of p ps o).alone in
        no (sym none ∙ some_pass (used_by s) ps k free_place (omega (arith, l)) e)

good_at : (ps : List Place) (k : ℕ) → sound ps ≡ true → k < length ps → length (get_or ps k free_place).serial ≡ serial_size
good_at [] k o l = absurd (let z : ⊥ = omega (arith, l) in z)
good_at (p ∷ ps) zero o l = good_whole p (sound_of p ps o).good
good_at (p ∷ ps) (suc k) o l = good_at ps k (sound_of p ps o).behind (omega (arith, l))

-- the one who uses the place of an address is found there
user_found : (ps : List Place) (s : List ℕ) (address : ℕ) → Fine ps → 1 ≤ address → address ≤ places → used_by s (get_or ps (address - 1) free_place) ≡ true → finding ps s ≡ answer 0 (address ∷ [])
user_found ps s address f a b e =
    let k : ℕ = address - 1 in
    let inside : k < length ps = omega (arith, a, b, f.count) in
    let fits : length s ≡ serial_size = ap length (sym (used_by_true s (get_or ps k free_place) e).1) ∙ good_at ps k f.all inside in
    let back : first (used_by s) ps + 1 ≡ address = omega (arith, only_user s ps k f.all inside e, a) in
    finding_there ps s f fits (some_pass (used_by s) ps k free_place inside e) ∙ ap (λ (n : ℕ). answer 0 (n ∷ [])) back

freed_others : (ps : List Place) (other : List ℕ) (address : ℕ) → Fine ps → Held ps address → (finding ps other ≡ answer 0 (address ∷ []) → ⊥)
    → finding (set ps (address - 1) free_place) other ≡ finding ps other
freed_others ps other address f h d = go (used_by other (get_or ps (address - 1) free_place)) refl
  where
    go : (t : Bool) → used_by other (get_or ps (address - 1) free_place) ≡ t → finding (set ps (address - 1) free_place) other ≡ finding ps other
    go true e = absurd (d (user_found ps other address f h.above h.within e))
    go false e =
        finding_alike ps (set ps (address - 1) free_place) other f (fine_free ps (address - 1) f)
        (first_set (used_by other) free_place (used_by_free other free_place used_free) ps (address - 1) e)

-- the place of a serial that is found can be removed
pub removing_found : (ps : List Place) (s : List ℕ) (address : ℕ) → Fine ps → no_place (used_by s) ps ≡ false → first (used_by s) ps + 1 ≡ address
    → removing ps address ≡ (answer 0 [], set ps (first (used_by s) ps) free_place)
unfolding removing none_at
removing_found ps s address f n e =
    let k : ℕ = first (used_by s) ps in
    let of = first_found (used_by s) ps free_place n in
    let back : address - 1 ≡ k = omega (arith, e) in
    let marked : free (get_or ps k free_place) ≡ false = free_not_used (get_or ps k free_place) (used_by_true s (get_or ps k free_place) of.here).0 in
    simp (fine ps f, le-leb 1 address (omega (arith, e)), le-leb address places (omega (arith, e, of.within, f.count)), back, marked)

pub removing_others : (ps : List Place) (other : List ℕ) (address : ℕ) → (1 ≤ address → finding ps other ≡ answer 0 (address ∷ []) → ⊥) → finding (removing ps address).1 other ≡ finding ps other
unfolding removing
removing_others ps other address d = go (spoilt ps) refl (none_at ps address) refl
  where
    go : (t : Bool) → spoilt ps ≡ t → (u : Bool) → none_at ps address ≡ u
        → (let end : Answer × List Place = need (not t) (refused 0 Spoilt, ps) (need (not u) (refused 0 WrongAddressOrExponentTooLow, ps) (answer 0 [], set ps (address - 1) free_place)) in
        finding end.1 other ≡ finding ps other)
    go true e u f = refl
    go false e true f = refl
    go false e false f = let h = held ps address f in freed_others ps other address (not_spoilt ps e) h (d h.above)

-- ---- the bytes of the other places

pub only_at : (b : List ℕ) (k address : ℕ) (p : Place) (later : List ℕ) → spoilt (places_of b) ≡ false → k + 1 ≡ address → address ≤ places → length p.serial ≡ serial_size
    → later ≡ bytes_of (set (places_of b) k p) → OnlyAt address (p.mark ∷ p.serial) b later
only_at b k address p later w e l s q =
    let sized = fine_size b w in
    let inside : k < places = omega (arith, e, l) in
    let from : k ≡ address - 1 = omega (arith, e) in
    let to : k * place_size + place_size ≡ address * place_size = omega (arith, e) in
    record {
      first = omega (arith, e);
      last = l;
      size = ap length q ∙ set_length b k p sized inside s;
      bytes = q ∙ set_place b k p sized inside
          ∙ ap (λ (n : ℕ). take (n * place_size) b ++ (p.mark ∷ (p.serial ++ drop (k * place_size + place_size) b))) from
          ∙ ap (λ (n : ℕ). take ((address - 1) * place_size) b ++ (p.mark ∷ (p.serial ++ drop n b))) to;
    }

-- a place that is set to what it holds
set_same : (ps : List Place) (k : ℕ) (p : Place) → k < length ps → get_or ps k free_place ≡ p → ps ≡ set ps k p
set_same [] k p l e = absurd (let z : ⊥ = omega (arith, l) in z)
set_same (q ∷ ps) zero p l e = ap (λ (x : Place). x ∷ ps) e
set_same (q ∷ ps) (suc k) p l e = ap (λ (x : List Place). q ∷ x) (set_same ps k p (omega (arith, l)) e)

used_is : (s : List ℕ) (p : Place) → used_by s p ≡ true → p ≡ used_place s
unfolding used
used_is s p e =
    let u = used_by_true s p e in
    let one : p.mark ≡ 1 = eqb-true p.mark 1 u.0 in
    ap (λ (n : ℕ). record { mark = n; serial = p.serial }) one ∙ ap used_place u.1

-- an address that was given: its place is the one that is set, to the serial
pub gave_at : (ps : List Place) (s : List ℕ) (address : ℕ) (later : List Place) → Fine ps → Gave ps s address later
    → (later ≡ set ps (address - 1) (used_place s)) × (1 ≤ address) × (address ≤ places)
gave_at ps s address later f (kept e) =
    let k : ℕ = first (used_by s) ps in
    let of = first_found (used_by s) ps free_place e in
    let back : k ≡ k + 1 - 1 = omega arith in
    (set_same ps k (used_place s) of.within (used_is s (get_or ps k free_place) of.here) ∙ ap (λ (n : ℕ). set ps n (used_place s)) back, omega arith, omega (arith, of.within, f.count))
gave_at ps s address later f (new e m) =
    let k : ℕ = first free ps in
    let of = first_found free ps free_place m in
    let back : k ≡ k + 1 - 1 = omega arith in
    (ap (λ (n : ℕ). set ps n (used_place s)) back, omega arith, omega (arith, of.within, f.count))
