-- What specs/Demands.antt states, proved under the same names.
-- Assumes nothing.
use Prim.Native.Nat.{ℕ, ◌+◌, ◌-◌, ◌≤◌}
use mathlib.Core.Path.{◌≡◌, refl, sym, ap, subst, ◌∙◌}
use mathlib.Core.Logic.{◌↔◌}
use mathlib.Core.Bool.{Bool, true, false}
use mathlib.Core.List.{List, [], ◌∷◌}
use native.Mathlib.Omega.{arith}
use lib.ListN.{length, get_or, set, replicate}
use lib.Seq.{get_or-set_same, lt-length-set}
use lib.Dec.{ltb}
use borrow.Author.Tests.{ltb-true, ltb-false}
use Rattle.answers.specs.Answer.{Answer, answer, number}
use Rattle.roster.specs.Roster.{places, serial_size, free_place, free, used_by, first, no_place, spoilt, used_place, giving_sound, giving, removing, finding}
use Rattle.roster.specs.Bytes.{places_of, bytes_of}
use Rattle.std.specs.Prelude.{Some, None, Ok, Err}
use Rattle.roster.specs.Calls.{Given, Removed, told_given, IsGiven, IsRemoved}
use Rattle.roster.specs.Demands.{fresh_roster, GivenIsFound, GivenTwice, LowestFree, RemovedIsGiven, Fills, addresses_from, RemovedIsGone, OthersStay, OnlyOnePlace, NeverSpoilt, StaysWellFormed, Kept}
use Rattle.roster.specs.declared.Place.{Place}
use Rattle.roster.proofs.PlacesInBytes.{bytes_places, places_bytes}
use Rattle.roster.proofs.SoundTest.{Fine, not_spoilt, fine, sound_whole}
use Rattle.roster.proofs.RosterRule.{no, first_found, some_pass, fine_free, freed_gone}
use Rattle.roster.proofs.AnswerSays.{giving_of, giving_fits, gave_there, giving_fine, removing_fine, giving_refused, removing_refused, giving_18, removing_18, finding_18, finding_there, finding_none, finding_of, removing_of}
use Rattle.roster.proofs.One.{removed_alike, found_alike}
use Rattle.roster.proofs.FillsFromFront.{filling, filled, giving_full, told_over, fresh, fine_fresh}
use Rattle.roster.proofs.OnePlaceSet.{giving_others, removing_others, removing_found, gave_at, only_at}

-- the places that a sound list's bytes hold
held_by : (ps : List Place) (later : List ℕ) → Fine ps → later ≡ bytes_of ps → places_of later ≡ ps
held_by ps later f e = ap places_of e ∙ places_bytes ps (sound_whole ps f.all)

-- ---- giving

-- after an address was given: the roster holds the serial there
record After (roster serial later : List ℕ) (address : ℕ) : Type 0 where
  ps : List Place
  holds : places_of later ≡ ps
  bytes : later ≡ bytes_of ps
  all : Fine ps
  fits : length serial ≡ serial_size
  there : no_place (used_by serial) ps ≡ false
  at : first (used_by serial) ps + 1 ≡ address

after : (roster serial later : List ℕ) (g : Given) (address : ℕ) → IsGiven roster serial g later → told_given g ≡ answer 0 (address ∷ []) → After roster serial later address
after roster serial later g address p t =
    let of = giving_of (places_of roster) serial address (sym p.0 ∙ t) in
    let qs : List Place = (giving (places_of roster) serial).1 in
    let is = gave_there (places_of roster) serial address qs of in
    record { ps = qs; holds = held_by qs later is.0 p.1; bytes = p.1; all = is.0; fits = of.fits; there = is.1; at = is.2 }

pub given_is_found : GivenIsFound
given_is_found roster serial later g f address p t q =
    let a = after roster serial later g address p t in
    let found =
    ap (λ (ps : List Place). finding ps serial) a.holds
    ∙ finding_there a.ps serial a.all a.fits a.there
    ∙ ap (λ (n : ℕ). answer 0 (n ∷ [])) a.at in
    found_alike f (Ok (Some address)) q.1 (omega (arith, a.at)) (q.0 ∙ found)

giving_there : (ps : List Place) (s : List ℕ) → Fine ps → length s ≡ serial_size → no_place (used_by s) ps ≡ false → giving ps s ≡ (answer 0 ((first (used_by s) ps + 1) ∷ []), ps)
unfolding giving_sound
giving_there ps s f l n = giving_fits ps s f l ∙ simp n

pub given_twice : GivenTwice
given_twice roster serial later last g h address p t q =
    let a = after roster serial later g address p t in
    let told = told_over a.ps later serial h last (answer 0 ((first (used_by serial) a.ps + 1) ∷ [])) a.ps a.all a.bytes (giving_there a.ps serial a.all a.fits a.there) q in
    (told.0 ∙ ap (λ (n : ℕ). answer 0 (n ∷ [])) a.at, told.1 ∙ sym a.bytes)

-- ---- removing, then giving

giving_lowest : (ps : List Place) (s : List ℕ) → Fine ps → length s ≡ serial_size → no_place (used_by s) ps ≡ true → no_place free ps ≡ false
    → (giving ps s).0 ≡ answer 0 ((first free ps + 1) ∷ [])
unfolding giving_sound
giving_lowest ps s f l n m = ap (λ (end : Answer × List Place). end.0) (giving_fits ps s f l) ∙ simp (n, m)

lowest_free : (ps : List Place) → Fine ps → no_place free ps ≡ false → LowestFree ps (first free ps + 1)
lowest_free ps f m =
    let of = first_found free ps free_place m in
    let back : first free ps + 1 - 1 ≡ first free ps = omega arith in
    record {
      first = omega arith;
      last = omega (arith, of.within, f.count);
      here = ap (λ (k : ℕ). free (get_or ps k free_place)) back ∙ of.here;
      below = λ k l. of.below k (omega (arith, l, back));
    }

free_free : free free_place ≡ true
unfolding free
free_free = refl

-- the place freed is free, so the lowest is not above it
not_above : (ps : List Place) (k : ℕ) → free (get_or ps k free_place) ≡ true → no_place free ps ≡ false → first free ps ≤ k
not_above ps k e m = go (ltb k (first free ps)) refl
  where
    go : (t : Bool) → ltb k (first free ps) ≡ t → first free ps ≤ k
    go false q = ltb-false _ _ q
    go true q = no (sym e ∙ (first_found free ps free_place m).below k (ltb-true _ _ q))

pub removed_is_given : RemovedIsGiven
removed_is_given roster serial later last f r g address pf tf pr tr pg =
    let ps : List Place = places_of roster in
    let found = finding_of ps serial address (sym pf.0 ∙ tf) in
    let gone = removing_of ps address (sym pr.0 ∙ tr) in
    let there = found.there gone.0.above in
    let k : ℕ = first (used_by serial) ps in
    let at : address - 1 ≡ k = omega (arith, there.1) in
    let qs : List Place = set ps k free_place in
    let left : later ≡ bytes_of qs = pr.1 ∙ ap bytes_of (gone.1 ∙ ap (λ (j : ℕ). set ps j free_place) at) in
    let well : Fine qs = fine_free ps k found.fine in
    let holds : places_of later ≡ qs = held_by qs later well left in
    let inside = (first_found (used_by serial) ps free_place there.0).within in
    let freed : free (get_or qs k free_place) ≡ true = ap free (get_or-set_same ps k free_place free_place inside) ∙ free_free in
    let some : no_place free qs ≡ false = some_pass free qs k free_place (lt-length-set ps k free_place inside) freed in
    record {
      address = first free qs + 1;
      told = pg.0 ∙ ap (λ (x : List Place). (giving x serial).0) holds ∙ giving_lowest qs serial well found.fits (freed_gone serial ps found.fine.all) some;
      lowest = subst (λ (x : List Place). LowestFree x (first free qs + 1)) (sym holds) (lowest_free qs well some);
      again = omega (arith, there.1, not_above qs k freed some);
    }

-- ---- what one call leaves as it was

-- the places afterwards are those that the rule says
given_holds : (roster serial later : List ℕ) (g : Given) → IsGiven roster serial g later → places_of later ≡ (giving (places_of roster) serial).1
given_holds roster serial later (Ok address) p = held_by (giving (places_of roster) serial).1 later (giving_fine (places_of roster) serial (giving_of (places_of roster) serial address (sym p.0)).fine) p.1
given_holds roster serial later (Err why) p =
    let same = giving_refused (places_of roster) serial why p.0 in
    ap places_of (p.1 ∙ ap bytes_of same ∙ bytes_places roster) ∙ sym same

removed_holds : (roster later : List ℕ) (address : ℕ) (r : Removed) → IsRemoved roster address r later → places_of later ≡ (removing (places_of roster) address).1
removed_holds roster later address (Ok done) p = held_by (removing (places_of roster) address).1 later (removing_fine (places_of roster) address (removing_of (places_of roster) address (sym p.0)).2) p.1
removed_holds roster later address (Err why) p =
    let same = removing_refused (places_of roster) address why p.0 in
    ap places_of (p.1 ∙ ap bytes_of same ∙ bytes_places roster) ∙ sym same

pub others_stay : OthersStay
others_stay = record {
  given = λ roster serial other later g f h d p a b.
      (let ps : List Place = places_of roster in
      found_alike h f b.1 a.1
      (b.0 ∙ ap (λ (qs : List Place). finding qs other) (given_holds roster serial later g p) ∙ giving_others ps serial other d ∙ sym a.0));
  removed = λ roster other later address r f h d p a b.
      (let ps : List Place = places_of roster in
      found_alike h f b.1 a.1
      (b.0
      ∙ ap (λ (qs : List Place). finding qs other) (removed_holds roster later address r p)
      ∙ removing_others ps other address (λ l e. d (found_alike f (Ok (Some address)) a.1 l (a.0 ∙ e)))
      ∙ sym a.0));
}

pub removed_is_gone : RemovedIsGone
removed_is_gone roster serial later address r f a p b =
    let ps : List Place = places_of roster in
    let found = finding_of ps serial address (sym a.0) in
    let there = found.there a.1 in
    let k : ℕ = first (used_by serial) ps in
    let qs : List Place = set ps k free_place in
    let done = removing_found ps serial address found.fine there.0 there.1 in
    let holds : places_of later ≡ qs = removed_holds roster later address r p ∙ ap (λ (end : Answer × List Place). end.1) done in (
      removed_alike r (Ok tt) (p.0 ∙ ap (λ (end : Answer × List Place). end.0) done),
      found_alike f (Ok None) b.1 tt
          (b.0 ∙ ap (λ (x : List Place). finding x serial) holds ∙ finding_none qs serial (fine_free ps k found.fine) found.fits (freed_gone serial ps found.fine.all)),
    )

pub only_one_place : OnlyOnePlace
only_one_place = record {
  given = λ roster serial later address p.
      (let ps : List Place = places_of roster in
      let of = giving_of ps serial address (sym p.0) in
      let at = gave_at ps serial address (giving ps serial).1 of.fine of.gave in
      only_at roster (address - 1) address (used_place serial) later (fine ps of.fine) (omega (arith, at.1)) at.2 of.fits (p.1 ∙ ap bytes_of at.0));
  removed = λ roster later address p.
      (let ps : List Place = places_of roster in
      let of = removing_of ps address (sym p.0) in
      only_at roster (address - 1) address free_place later (fine ps of.2) (omega (arith, of.0.above)) of.0.within refl (p.1 ∙ ap bytes_of of.1));
}

-- ---- filling

pub fills : Fills
fills serials gs later n count g =
    let from-fresh : fresh_roster ≡ bytes_of (filled [] (length serials)) = fresh ∙ ap (λ (k : ℕ). bytes_of (filled [] k)) (sym count) in
    let all = filling g [] from-fresh (subst (λ (k : ℕ). Fine (filled [] k)) (sym count) fine_fresh) n in (
      all.told ∙ ap (addresses_from 1) count,
      λ serial last r l new p. (told_over (filled serials 0) later serial r last _ _ all.fine all.bytes (giving_full serials serial all.fine l new) p).0,
    )

-- ---- 18

swapped : {P : Type 0} {a b : Answer} → a ≡ b → P ↔ (number b ≡ 18 → ⊥) → P ↔ (number a ≡ 18 → ⊥)
swapped {P = P} e h = subst (λ (x : Answer). P ↔ (number x ≡ 18 → ⊥)) (sym e) h

pub never_spoilt : NeverSpoilt
never_spoilt = record {
  given = λ roster serial later g p. swapped p.0 (giving_18 (places_of roster) serial);
  removed = λ roster later address r p. swapped p.0 (removing_18 (places_of roster) address);
  found = λ roster serial f p. swapped p.0 (finding_18 (places_of roster) serial);
}

well : (ps : List Place) (later : List ℕ) → Fine ps → later ≡ bytes_of ps → spoilt (places_of later) ≡ false
well ps later f e = ap spoilt (held_by ps later f e) ∙ fine ps f

pub stays_well_formed : StaysWellFormed
stays_well_formed = record {
  fresh = well (replicate places free_place) fresh_roster fine_fresh fresh;
  given = λ roster serial later g w p. well _ later (giving_fine (places_of roster) serial (not_spoilt _ w)) p.1;
  removed = λ roster later address r w p. well _ later (removing_fine (places_of roster) address (not_spoilt _ w)) p.1;
}

-- ---- with a refusal

pub kept : Kept
kept = record {
  given = λ roster serial later why p. p.1 ∙ ap bytes_of (giving_refused (places_of roster) serial why p.0) ∙ bytes_places roster;
  removed = λ roster later address why p. p.1 ∙ ap bytes_of (removing_refused (places_of roster) address why p.0) ∙ bytes_places roster;
}
