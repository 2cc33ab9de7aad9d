-- What the calls owe each other and their callers, over their own promises.
use Rattle.std.specs.Prelude.{ℕ, zero, suc, ◌*◌, ◌-◌, ◌≤◌, ◌<◌, ◌≡◌, ◌↔◌, true, false, List, [], ◌∷◌, ◌++◌, map, length, get_or, take, drop, replicate, Some, None, Ok, Err}
use Rattle.answers.specs.Answer.{Answer, answer, number}
use Rattle.answers.specs.Refusal.{refused}
use Rattle.answers.specs.declared.Refusal.{Refusal}
use Rattle.answers.specs.declared.Refusal.TheVariants.{RosterFull}
use Rattle.roster.specs.Roster.{places, serial_size, free_place, free, spoilt}
use Rattle.roster.specs.Bytes.{place_size, roster_size, places_of}
use Rattle.roster.specs.Calls.{Given, Removed, Found, told_given, told_removed, told_found, IsGiven, IsRemoved, IsFound}
use Rattle.roster.specs.declared.Place.{Place}

-- Giving, then finding, gives that address.
abbrev pub GivenIsFound : Type 0
GivenIsFound =
    (roster serial later : List ℕ) (g : Given) (f : Found) (address : ℕ)
    → IsGiven roster serial g later
    → told_given g ≡ answer 0 (address ∷ [])
    → IsFound later serial f
    → f ≡ Ok (Some address)

-- Giving twice gives the same, and the second time changes nothing.
abbrev pub GivenTwice : Type 0
GivenTwice =
    (roster serial later last : List ℕ) (g h : Given) (address : ℕ)
    → IsGiven roster serial g later
    → told_given g ≡ answer 0 (address ∷ [])
    → IsGiven later serial h last
    → (told_given h ≡ answer 0 (address ∷ [])) × (last ≡ later)

-- the lowest free address
pub record LowestFree (ps : List Place) (address : ℕ) : Type 0 where
  pub first : 1 ≤ address
  pub last : address ≤ places
  pub here : free (get_or ps (address - 1) free_place) ≡ true
  pub below : (k : ℕ) → k < address - 1 → free (get_or ps k free_place) ≡ false

-- g gives the lowest free address of a roster, in which `freed` is free
pub record GivesLowest (roster : List ℕ) (freed : ℕ) (g : Given) : Type 0 where
  pub address : ℕ
  pub told : told_given g ≡ answer 0 (address ∷ [])
  pub lowest : LowestFree (places_of roster) address
  pub again : address ≤ freed

-- Removing the address of a serial, then giving that serial, gives the lowest free address, the freed one included.
abbrev pub RemovedIsGiven : Type 0
RemovedIsGiven =
    (roster serial later last : List ℕ) (f : Found) (r : Removed) (g : Given) (address : ℕ)
    → IsFound roster serial f
    → told_found f ≡ answer 0 (address ∷ [])
    → IsRemoved roster address r later
    → told_removed r ≡ answer 0 []
    → IsGiven later serial g last
    → GivesLowest later address g

-- What was found is removed, and is found no more.
abbrev pub RemovedIsGone : Type 0
RemovedIsGone =
    (roster serial later : List ℕ) (address : ℕ) (r : Removed) (f : Found)
    → IsFound roster serial (Ok (Some address))
    → IsRemoved roster address r later
    → IsFound later serial f
    → (r ≡ Ok tt) × (f ≡ Ok None)

-- Giving to one serial, or removing an address, leaves every other serial where it was: what is found of it is the same before and after.
pub record OthersStay : Type 0 where
  pub given : (roster serial other later : List ℕ) (g : Given) (f h : Found)
      → (other ≡ serial → ⊥) → IsGiven roster serial g later → IsFound roster other f → IsFound later other h → h ≡ f
  pub removed : (roster other later : List ℕ) (address : ℕ) (r : Removed) (f h : Found)
      → (f ≡ Ok (Some address) → ⊥) → IsRemoved roster address r later → IsFound roster other f → IsFound later other h → h ≡ f

-- the place of an address has this content afterwards, and every byte before and behind it is as it was
pub record OnlyAt (address : ℕ) (content roster later : List ℕ) : Type 0 where
  pub first : 1 ≤ address
  pub last : address ≤ places
  pub size : length later ≡ length roster
  pub bytes : later ≡ take ((address - 1) * place_size) roster ++ (content ++ drop (address * place_size) roster)

-- Only the one place changes: giving marks it as used by the serial, and removing zeroes it.
pub record OnlyOnePlace : Type 0 where
  pub given : (roster serial later : List ℕ) (address : ℕ) → IsGiven roster serial (Ok address) later → OnlyAt address (1 ∷ serial) roster later
  pub removed : (roster later : List ℕ) (address : ℕ) → IsRemoved roster address (Ok tt) later → OnlyAt address (replicate place_size 0) roster later

-- all bytes zero: every place is free
abbrev pub fresh_roster : List ℕ
fresh_roster = replicate roster_size 0

-- serials given one after another
pub data GivenAll : List ℕ → List (List ℕ) → List Given → List ℕ → Type 0 where
  nothing : {roster : List ℕ} → GivenAll roster [] [] roster
  next : {roster mid later serial : List ℕ} {serials : List (List ℕ)} {g : Given} {gs : List Given}
      → IsGiven roster serial g mid → GivenAll mid serials gs later → GivenAll roster (serial ∷ serials) (g ∷ gs) later

-- a serial other than those
abbrev pub New : List ℕ → List (List ℕ) → Type 0
New serial [] = Unit {0}
New serial (s ∷ ss) = (serial ≡ s → ⊥) × New serial ss

-- each of 16 bytes, and other than those before it
abbrev pub EachNew : List (List ℕ) → List (List ℕ) → Type 0
EachNew before [] = Unit {0}
EachNew before (s ∷ ss) = ((length s ≡ serial_size) × New s before) × EachNew (before ++ (s ∷ [])) ss

-- n addresses from a on, told one after another
abbrev pub addresses_from : ℕ → ℕ → List Answer
addresses_from a zero = []
addresses_from a (suc n) = answer 0 (a ∷ []) ∷ addresses_from (suc a) n

-- 254 different serials fill a fresh roster, by the addresses 1 to 254, and the next new one gets 14.
abbrev pub Fills : Type 0
Fills =
    (serials : List (List ℕ)) (gs : List Given) (later : List ℕ)
    → EachNew [] serials
    → length serials ≡ places
    → GivenAll fresh_roster serials gs later
    → (map told_given gs ≡ addresses_from 1 places)
    × ((serial last : List ℕ) (g : Given) → length serial ≡ serial_size → New serial serials → IsGiven later serial g last → told_given g ≡ refused 1 RosterFull)

-- 18 is given exactly if the roster is spoilt,
abbrev pub WellFormed : List ℕ → Type 0
WellFormed roster = spoilt (places_of roster) ≡ false

pub record NeverSpoilt : Type 0 where
  pub given : (roster serial later : List ℕ) (g : Given) → IsGiven roster serial g later → WellFormed roster ↔ (number (told_given g) ≡ 18 → ⊥)
  pub removed : (roster later : List ℕ) (address : ℕ) (r : Removed) → IsRemoved roster address r later → WellFormed roster ↔ (number (told_removed r) ≡ 18 → ⊥)
  pub found : (roster serial : List ℕ) (f : Found) → IsFound roster serial f → WellFormed roster ↔ (number (told_found f) ≡ 18 → ⊥)

-- and a roster that is well formed stays so, from the fresh one on.
pub record StaysWellFormed : Type 0 where
  pub fresh : WellFormed fresh_roster
  pub given : (roster serial later : List ℕ) (g : Given) → WellFormed roster → IsGiven roster serial g later → WellFormed later
  pub removed : (roster later : List ℕ) (address : ℕ) (r : Removed) → WellFormed roster → IsRemoved roster address r later → WellFormed later

-- With a refusal the roster is as it was.
pub record Kept : Type 0 where
  pub given : (roster serial later : List ℕ) (why : Refusal) → IsGiven roster serial (Err why) later → later ≡ roster
  pub removed : (roster later : List ℕ) (address : ℕ) (why : Refusal) → IsRemoved roster address (Err why) later → later ≡ roster
