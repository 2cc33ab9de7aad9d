-- Both forms of the roster give the same answers, and leave the same roster: what is demanded of the one holds of the other.
use Rattle.std.specs.Prelude.{ℕ, ◌≡◌, List}
use Rattle.roster.specs.Bytes.{bytes_of, Whole}
use Rattle.roster.specs.Calls.{Given, Removed, Found}
use Rattle.roster.specs.Calls as Bytes
use Rattle.roster.specs.declared.Place.{Place}
use Rattle.roster_places.specs.Calls.{IsGiven, IsRemoved, IsFound}

-- over places, and over the bytes that hold them
pub record SameAnswers : Type 0 where
  pub given : (ps qs : List Place) (serial later : List ℕ) (g h : Given) → Whole ps
      → IsGiven ps serial g qs → Bytes.IsGiven (bytes_of ps) serial h later → (g ≡ h) × (bytes_of qs ≡ later)
  pub removed : (ps qs : List Place) (address : ℕ) (later : List ℕ) (q r : Removed) → Whole ps
      → IsRemoved ps address q qs → Bytes.IsRemoved (bytes_of ps) address r later → (q ≡ r) × (bytes_of qs ≡ later)
  pub found : (ps : List Place) (serial : List ℕ) (e f : Found) → Whole ps
      → IsFound ps serial e → Bytes.IsFound (bytes_of ps) serial f → e ≡ f
