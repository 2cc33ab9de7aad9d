-- For each public call: two results, and two later contents of the lent places, that its promise allows are one.
-- Assumes nothing.
use Prim.Native.Nat.{ℕ}
use Rattle.std.specs.Prelude.{⊤}
use mathlib.Core.Path.{◌≡◌, sym, ◌∙◌}
use mathlib.Core.List.{List}
use Rattle.roster.specs.declared.Place.{Place}
use Rattle.roster.specs.Calls.{Given, Removed, Found}
use Rattle.roster.proofs.One.{given_alike, removed_alike, found_alike}
use Rattle.roster_places.specs.declared.held.Held.{Held}
use Rattle.roster_places.specs.Calls.{IsGiven, IsRemoved, IsFound}

pub give_one : (ps a b : List Place) (serial : List ℕ) (g h : Given) → IsGiven ps serial g a → IsGiven ps serial h b → (g ≡ h) × (a ≡ b)
give_one ps a b serial g h x y = (given_alike g h (x.0 ∙ sym y.0), x.1 ∙ sym y.1)

pub remove_one : (ps a b : List Place) (address : ℕ) (q r : Removed) → IsRemoved ps address q a → IsRemoved ps address r b → (q ≡ r) × (a ≡ b)
remove_one ps a b address q r x y = (removed_alike q r (x.0 ∙ sym y.0), x.1 ∙ sym y.1)

pub find_one : (ps : List Place) (serial : List ℕ) (e f : Found) → IsFound ps serial e → IsFound ps serial f → e ≡ f
find_one ps serial e f x y = found_alike e f x.1 y.1 (x.0 ∙ sym y.0)

-- ---- over places that are held

pub give_held_one : (ps : List Place) (serial : List ℕ) (g h : Held ℕ) → IsGiven ps serial g.told g.places → IsGiven ps serial h.told h.places → g ≡ h
give_held_one ps serial g h x y =
    let same = give_one ps g.places h.places serial g.told h.told x y in
    λ i. record { places = same.1 i; told = same.0 i }

pub remove_held_one : (ps : List Place) (address : ℕ) (q r : Held ⊤) → IsRemoved ps address q.told q.places → IsRemoved ps address r.told r.places → q ≡ r
remove_held_one ps address q r x y =
    let same = remove_one ps q.places r.places address q.told r.told x y in
    λ i. record { places = same.1 i; told = same.0 i }

pub find_held_one : (ps : List Place) (serial : List ℕ) (e f : Found) → IsFound ps serial e → IsFound ps serial f → e ≡ f
find_held_one = find_one
