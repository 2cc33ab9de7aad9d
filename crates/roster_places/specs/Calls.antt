-- What the calls over places, lent as a slice or held by value, promise of their arguments, their results and the places afterwards:
-- the rule of the roster, as it stands.
use Rattle.std.specs.Prelude.{ℕ, ◌≡◌, List}
use Rattle.roster.specs.Roster.{giving, removing, finding}
use Rattle.roster.specs.Calls.{Given, Removed, Found, told_given, told_removed, told_found, AddressNotZero}
use Rattle.roster.specs.declared.Place.{Place}

-- `give`
abbrev pub IsGiven : List Place → List ℕ → Given → List Place → Type 0
IsGiven ps serial r later = (told_given r ≡ (giving ps serial).0) × (later ≡ (giving ps serial).1)

-- `remove`
abbrev pub IsRemoved : List Place → ℕ → Removed → List Place → Type 0
IsRemoved ps address r later = (told_removed r ≡ (removing ps address).0) × (later ≡ (removing ps address).1)

-- `find`
abbrev pub IsFound : List Place → List ℕ → Found → Type 0
IsFound ps serial r = (told_found r ≡ finding ps serial) × AddressNotZero r
