-- What is told over the bytes is told over the places, and one place is set.
-- Assumes nothing.
use Prim.Native.Nat.{ℕ, ◌+◌, ◌*◌, ◌-◌, ◌≤◌, ◌<◌}
use mathlib.Core.Path.{◌≡◌, refl, sym, ap, ◌∙◌}
use mathlib.Core.Bool.{Bool, true, false}
use mathlib.Core.List.{List, [], ◌∷◌}
use native.Mathlib.Omega.{arith}
use lib.ListN.{length, get_or, set}
use lib.Seq.{set-get_or, get_or-set_same}
use Rattle.std.specs.Prelude.{Ok, Err}
use Rattle.answers.specs.declared.Refusal.{Refusal}
use Rattle.answers.specs.Answer.{answer}
use Rattle.roster.specs.Roster.{places, used_place, free_place, free, used_by, first, spoilt, giving, removing, finding}
use Rattle.roster.specs.Bytes.{place_size, roster_size, places_of, bytes_of}
use Rattle.roster.specs.Calls.{Found}
use Rattle.roster.specs.Calls as Bytes
use Rattle.roster.specs.Inside.{place_in}
use Rattle.roster.specs.declared.Place.{Place}
use Rattle.roster.proofs.PlacesInBytes.{places_bytes, whole_bytes, place_at, count_places}
use Rattle.roster.proofs.SoundTest.{Fine, not_spoilt, sound_whole}
use Rattle.roster.proofs.RosterRule.{first_found}
use Rattle.roster.proofs.AnswerSays.{Gave, Giving, giving_of, gave_there, giving_refused, removing_refused, removing_of}
use Rattle.roster_places.specs.Calls.{IsGiven, IsRemoved, IsFound}
use Rattle.roster_places.specs.Inside.{IsGathered}

-- ---- another number of places

pub miscounted : (ps : List Place) → (length ps ≡ places → ⊥) → spoilt ps ≡ true
miscounted ps h = go (spoilt ps) refl
  where
    go : (t : Bool) → spoilt ps ≡ t → t ≡ true
    go true q = refl
    go false q = absurd (h (not_spoilt ps q).count)

module _ (ps : List Place) (why : Refusal) where
  pub give_ungathered : (serial : List ℕ) → IsGathered ps (Err why) → IsGiven ps serial (Err why) ps
  unfolding giving
  give_ungathered serial g = rw g.0 (simp g.1, simp g.1)

  pub remove_ungathered : (address : ℕ) → IsGathered ps (Err why) → IsRemoved ps address (Err why) ps
  unfolding removing
  remove_ungathered address g = rw g.0 (simp g.1, simp g.1)

  pub find_ungathered : (serial : List ℕ) → IsGathered ps (Err why) → IsFound ps serial (Err why)
  unfolding finding
  find_ungathered serial g = rw g.0 (simp g.1, tt)

  -- ---- refused

  pub give_refused : (all serial later : List ℕ) → places_of all ≡ ps → Bytes.IsGiven all serial (Err why) later → IsGiven ps serial (Err why) ps
  give_refused all serial later held g =
      let told = g.0 ∙ ap (λ (l : List Place). (giving l serial).0) held in
      (told, sym (giving_refused ps serial why told))

  pub remove_refused : (all : List ℕ) (address : ℕ) (later : List ℕ) → places_of all ≡ ps → Bytes.IsRemoved all address (Err why) later → IsRemoved ps address (Err why) ps
  remove_refused all address later held g =
      let told = g.0 ∙ ap (λ (l : List Place). (removing l address).0) held in
      (told, sym (removing_refused ps address why told))

-- ---- done

pub record Within (address : ℕ) : Type 0 where
  pub first : 1 ≤ address
  pub last : address ≤ places

-- its place is one of those gathered
pub inside : (ps : List Place) (all : List ℕ) (address : ℕ) → IsGathered ps (Ok all) → Within address → address - 1 < length ps
inside ps all address g w =
    let count : length ps ≡ places = ap length (sym g.1) ∙ count_places places all g.0 in
    omega (arith, count, w.first, w.last)

-- the address given is one, and its place is the only one that changed
record Changed (ps : List Place) (address : ℕ) (later : List Place) : Type 0 where
  within : Within address
  fine : Fine later
  only : later ≡ set ps (address - 1) (get_or later (address - 1) free_place)

changed : (ps : List Place) (serial : List ℕ) (address : ℕ) (later : List Place) → Giving ps serial address later → Changed ps address later
changed ps serial address later g =
    let is = gave_there ps serial address later g in
    go is.0 g.gave
  where
    go : {a : ℕ} {l : List Place} → Fine l → Gave ps serial a l → Changed ps a l
    go f (Gave.kept e) =
        let of = first_found (used_by serial) ps free_place e in
        record {
          within = record { first = omega arith; last = omega (arith, of.within, f.count) };
          fine = f;
          only = sym (set-get_or ps (first (used_by serial) ps + 1 - 1) free_place);
        }
    go f (Gave.new e m) =
        let k : ℕ = first free ps in
        let of = first_found free ps free_place m in
        let back : k + 1 - 1 ≡ k = omega arith in
        let qs : List Place = set ps k (used_place serial) in
        record {
          within = record { first = omega arith; last = omega (arith, of.within, g.fine.count) };
          fine = f;
          only =
              ap (set ps k) (sym (get_or-set_same ps k (used_place serial) free_place of.within))
              ∙ ap (λ (j : ℕ). set ps j (get_or qs j free_place)) (sym back);
        }

pub give_within : (all serial later : List ℕ) (address : ℕ) → Bytes.IsGiven all serial (Ok address) later → Within address
give_within all serial later address g = (changed (places_of all) serial address _ (giving_of (places_of all) serial address (sym g.0))).within

-- and the bytes keep their size
pub give_sized : (all serial later : List ℕ) (address : ℕ) → Bytes.IsGiven all serial (Ok address) later → length later ≡ roster_size
give_sized all serial later address g =
    let qs : List Place = (giving (places_of all) serial).1 in
    let f = (changed (places_of all) serial address qs (giving_of (places_of all) serial address (sym g.0))).fine in
    ap length g.1 ∙ whole_bytes qs (sound_whole qs f.all) ∙ ap (λ (n : ℕ). n * place_size) f.count

pub give_done : (ps : List Place) (all serial later : List ℕ) (address : ℕ) → places_of all ≡ ps → Bytes.IsGiven all serial (Ok address) later
    → IsGiven ps serial (Ok address) (set ps (address - 1) (place_in later (address - 1)))
give_done ps all serial later address held g =
    let sized = give_sized all serial later address g in
    let told : answer 0 (address ∷ []) ≡ (giving ps serial).0 = g.0 ∙ ap (λ (l : List Place). (giving l serial).0) held in
    let qs : List Place = (giving ps serial).1 in
    let c = changed ps serial address qs (giving_of ps serial address (sym told)) in
    let left : later ≡ bytes_of qs = g.1 ∙ ap (λ (l : List Place). bytes_of (giving l serial).1) held in
    let holds : places_of later ≡ qs = ap places_of left ∙ places_bytes qs (sound_whole qs c.fine.all) in
    let there : get_or qs (address - 1) free_place ≡ place_in later (address - 1) =
    ap (λ (l : List Place). get_or l (address - 1) free_place) (sym holds) ∙ place_at later (address - 1) free_place (omega (arith, sized, c.within.first, c.within.last)) in
    (told, sym (c.only ∙ ap (set ps (address - 1)) there))

pub remove_within : (all : List ℕ) (address : ℕ) (later : List ℕ) → Bytes.IsRemoved all address (Ok tt) later → Within address
remove_within all address later g =
    let held = (removing_of (places_of all) address (sym g.0)).0 in
    record { first = held.above; last = held.within }

pub remove_done : (ps : List Place) (all : List ℕ) (address : ℕ) (later : List ℕ) → places_of all ≡ ps → Bytes.IsRemoved all address (Ok tt) later
    → IsRemoved ps address (Ok tt) (set ps (address - 1) free_place)
remove_done ps all address later held g =
    let told : answer 0 [] ≡ (removing ps address).0 = g.0 ∙ ap (λ (l : List Place). (removing l address).0) held in
    (told, sym (removing_of ps address (sym told)).1)

pub find_told : (ps : List Place) (all serial : List ℕ) (r : Found) → places_of all ≡ ps → Bytes.IsFound all serial r → IsFound ps serial r
find_told ps all serial r held g = (g.0 ∙ ap (λ (l : List Place). finding l serial) held, g.1)
