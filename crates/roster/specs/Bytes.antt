-- The roster as lent bytes: address a stands at byte 17 · (a - 1), its mark and then its serial.
use Rattle.std.specs.Prelude.{ℕ, zero, suc, ◌+◌, ◌*◌, ◌≡◌, List, [], ◌∷◌, ◌++◌, length, take, drop}
use Rattle.roster.specs.Roster.{places, serial_size}
use Rattle.roster.specs.declared.Place.{Place}

abbrev pub place_size : ℕ
place_size = 1 + serial_size

abbrev pub roster_size : ℕ
roster_size = places * place_size

-- at most n places, from the front; where bytes are missing the last one's serial is short, so that no roster is read into other sizes
abbrev pub places_up_to : ℕ → List ℕ → List Place
places_up_to zero bytes = []
places_up_to (suc n) [] = []
places_up_to (suc n) (mark ∷ bytes) = record { mark = mark; serial = take serial_size bytes } ∷ places_up_to n (drop serial_size bytes)

-- the places that bytes hold
unfoldable pub places_of : List ℕ → List Place
places_of bytes = places_up_to (length bytes) bytes

-- and the bytes that hold them
abbrev pub bytes_of : List Place → List ℕ
bytes_of [] = []
bytes_of (p ∷ ps) = p.mark ∷ (p.serial ++ bytes_of ps)

-- places whose serials have 16 bytes, as those of a lent slice of structs all have
abbrev pub Whole : List Place → Type 0
Whole [] = Unit {0}
Whole (p ∷ ps) = (length p.serial ≡ serial_size) × Whole ps
