-- The ends of each call, by the tests that lead to them.
-- Assumes nothing.
use Prim.Native.Nat.{ℕ, ◌+◌, ◌-◌, ◌≤◌}
use Rattle.std.specs.Prelude.{Option, Some, None, Ok, Err, MatchOption, IsSomeAnd}
use mathlib.Core.Path.{◌≡◌, refl, sym, ap, ◌∙◌}
use mathlib.Core.Bool.{Bool, true, false, not, ◌||◌}
use mathlib.Core.List.{List}
use native.Mathlib.Nat.{zero-add}
use native.Mathlib.Omega.{arith}
use lib.ListN.{length, get_or, set}
use lib.Dec.{leb}
use borrow.Author.Tests.{leb-true, eq-eqb, ne_eqb, not-false}
use Rattle.numbers.specs.Addresses.{is_address}
use Rattle.numbers.proofs.TestLaws.{both}
use Rattle.answers.specs.Answer.{Answer}
use Rattle.answers.specs.declared.Refusal.{Refusal}
use Rattle.answers.specs.declared.Refusal.TheVariants.{RosterFull, WrongAddressOrExponentTooLow, NotForThisCall, Spoilt}
use Rattle.roster.specs.Roster.{places, serial_size, free_place, used_place, free, used_by, first, spoilt, giving_sound, giving, none_at, removing, finding}
use Rattle.roster.specs.Bytes.{places_of, bytes_of}
use Rattle.roster.specs.Calls.{Given, IsGiven, IsRemoved, IsFound}
use Rattle.roster.specs.Inside.{FirstFrom, IsUsable, IsGivenSound}
use Rattle.roster.specs.declared.Place.{Place}
use Rattle.roster.proofs.PlacesInBytes.{bytes_places}

module _ (b serial : List ℕ) where
  pub usable_spoilt : spoilt (places_of b) ≡ true → IsUsable b serial (Err Spoilt)
  unfolding giving finding
  usable_spoilt e = (simp e, simp e)

  pub usable_unfit : spoilt (places_of b) ≡ false → (length serial ≡ serial_size → ⊥) → IsUsable b serial (Err NotForThisCall)
  unfolding giving finding
  usable_unfit e h = (simp (e, ne_eqb _ _ h), simp (e, ne_eqb _ _ h))

  pub give_unusable : (why : Refusal) → IsUsable b serial (Err why) → IsGiven b serial (Err why) b
  give_unusable why u =
      (sym (ap (λ (end : Answer × List Place). end.0) u.0), sym (ap (λ (end : Answer × List Place). bytes_of end.1) u.0 ∙ bytes_places b))

  pub give_usable : (r : Given) (later : List ℕ) → spoilt (places_of b) ≡ false → length serial ≡ serial_size → IsGivenSound b serial r later → IsGiven b serial r later
  unfolding giving
  give_usable r later e h g = (simp (e, eq-eqb _ _ h) g.0, simp (e, eq-eqb _ _ h) g.1)

  pub give_kept : (k : ℕ) → FirstFrom (used_by serial) (places_of b) 0 (Some k) → IsGivenSound b serial (Ok (k + 1)) b
  unfolding giving_sound
  give_kept k u =
      let is : k ≡ first (used_by serial) (places_of b) = u.1 ∙ zero-add _ in
      (simp (u.0, is), simp u.0 (sym (bytes_places b)))

  pub give_full : FirstFrom (used_by serial) (places_of b) 0 None → FirstFrom free (places_of b) 0 None → IsGivenSound b serial (Err RosterFull) b
  unfolding giving_sound
  give_full u f = (simp (u, f), simp (u, f) (sym (bytes_places b)))

  pub give_new : (k : ℕ) (later : List ℕ) → FirstFrom (used_by serial) (places_of b) 0 None → FirstFrom free (places_of b) 0 (Some k)
      → later ≡ bytes_of (set (places_of b) k (used_place serial)) → IsGivenSound b serial (Ok (k + 1)) later
  unfolding giving_sound
  give_new k later u f q =
      let is : k ≡ first free (places_of b) = f.1 ∙ zero-add _ in
      (simp (u, f.0, is), q ∙ simp (u, f.0, is))

pub neither : (a b : Bool) → (a || b) ≡ false → (a ≡ false) × (b ≡ false)
neither false b e = (refl, e)
neither true b e = let z : true ≡ false = e in (z, cc)

-- an address that someone has
pub record Held (ps : List Place) (address : ℕ) : Type 0 where
  pub above : 1 ≤ address
  pub within : address ≤ places
  pub marked : free (get_or ps (address - 1) free_place) ≡ false

pub held : (ps : List Place) (address : ℕ) → none_at ps address ≡ false → Held ps address
unfolding none_at
held ps address e =
    let two = neither (not (is_address address)) _ e in
    let bounds = both (leb 1 address) (leb address places) (not-false _ two.0) in
    record { above = leb-true 1 address bounds.0; within = leb-true address places bounds.1; marked = two.1 }

module _ (b : List ℕ) (address : ℕ) where
  pub remove_spoilt : spoilt (places_of b) ≡ true → IsRemoved b address (Err Spoilt) b
  unfolding removing
  remove_spoilt e = (simp e, simp e (sym (bytes_places b)))

  pub remove_none : spoilt (places_of b) ≡ false → none_at (places_of b) address ≡ true → IsRemoved b address (Err WrongAddressOrExponentTooLow) b
  unfolding removing
  remove_none e n = (simp (e, n), simp (e, n) (sym (bytes_places b)))

  pub remove_done : (later : List ℕ) → spoilt (places_of b) ≡ false → none_at (places_of b) address ≡ false → later ≡ bytes_of (set (places_of b) (address - 1) free_place)
      → IsRemoved b address (Ok tt) later
  unfolding removing
  remove_done later e n q = (simp (e, n), q ∙ simp (e, n))

module _ (b serial : List ℕ) (e : spoilt (places_of b) ≡ false) (h : length serial ≡ serial_size) where
  pub find_none : FirstFrom (used_by serial) (places_of b) 0 None → IsFound b serial (Ok None)
  unfolding finding
  find_none u = (simp (e, eq-eqb _ _ h, u), tt)

  pub find_there : (k : ℕ) → FirstFrom (used_by serial) (places_of b) 0 (Some k) → IsFound b serial (Ok (Some (k + 1)))
  unfolding finding
  find_there k u =
      let is : k ≡ first (used_by serial) (places_of b) = u.1 ∙ zero-add _ in
      (simp (e, eq-eqb _ _ h, u.0, is), omega arith)

  -- what was found, with the address made of its place
  pub find_mapped : (r s : Option ℕ) → FirstFrom (used_by serial) (places_of b) 0 r → MatchOption r (s ≡ None) (λ k. IsSomeAnd s (λ a. a ≡ k + 1)) → IsFound b serial (Ok s)
  find_mapped None s f m = rw m (find_none f)
  find_mapped (Some k) None f m = absurd m
  find_mapped (Some k) (Some a) f m = rw m (find_there k f)
