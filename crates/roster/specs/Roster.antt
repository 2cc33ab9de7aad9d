-- The roster of addresses, in document 01's words and order: the rule, over a list of places.
-- The place of address a is the one at a - 1.
use Rattle.std.specs.Prelude.{ℕ, ◌+◌, ◌-◌, Bool, true, cond, not, ◌&&◌, ◌||◌, List, [], ◌∷◌, length, get_or, set, replicate, eqb}
use Rattle.numbers.specs.Lists.{same}
use Rattle.numbers.specs.Addresses.{last_address, is_address, is_serial}
pub use Rattle.numbers.specs.Addresses.{serial_size}
use Rattle.answers.specs.Answer.{Answer, answer, need}
use Rattle.answers.specs.Refusal.{refused}
use Rattle.answers.specs.declared.Refusal.TheVariants.{RosterFull, WrongAddressOrExponentTooLow, NotForThisCall, Spoilt}
use Rattle.roster.specs.declared.Place.{Place}

-- There are 254 places, one for each address, each a mark and a serial of 16 bytes (`serial_size`).
abbrev pub places : ℕ
places = last_address

-- Only the mark says whether a place is used or free: a used place may hold the all-zero serial.
unfoldable pub used : Place → Bool
used p = eqb p.mark 1

unfoldable pub free : Place → Bool
free p = eqb p.mark 0

abbrev pub used_place : List ℕ → Place
used_place serial = record { mark = 1; serial = serial }

abbrev pub free_place : Place
free_place = record { mark = 0; serial = replicate serial_size 0 }

unfoldable pub used_by : List ℕ → Place → Bool
used_by serial p = used p && same p.serial serial

-- A mark is 0 or 1; a free place is all zero;
unfoldable pub good : Place → Bool
good p = is_serial p.serial && (used p || free p && same p.serial free_place.serial)

-- how many places stand before the first that passes a test: all of them where none does
abbrev pub first : (Place → Bool) → List Place → ℕ
first test [] = 0
first test (p ∷ ps) = cond (test p) 0 (first test ps + 1)

abbrev pub no_place : (Place → Bool) → List Place → Bool
no_place test ps = eqb (first test ps) (length ps)

-- no two used places share a serial: of the places behind p none is used by the serial that uses p.
unfoldable pub alone : Place → List Place → Bool
alone p behind = not (used p) || no_place (used_by p.serial) behind

abbrev pub sound : List Place → Bool
sound [] = true
sound (p ∷ ps) = (good p && alone p ps) && sound ps

-- Otherwise, or with another size, the roster is spoilt.
unfoldable pub spoilt : List Place → Bool
spoilt ps = not (eqb (length ps) places && sound ps)

-- Giving, where the roster is sound: a serial already there keeps its address;
-- a new one gets the lowest free address, freed ones included; 14 exactly if all 254 are used by others.
unfoldable pub giving_sound : List Place → List ℕ → Answer × List Place
giving_sound ps serial =
    need (no_place (used_by serial) ps) (answer 0 ((first (used_by serial) ps + 1) ∷ []), ps)
    (need (not (no_place free ps)) (refused 1 RosterFull, ps)
    (answer 0 ((first free ps + 1) ∷ []), set ps (first free ps) (used_place serial)))

-- Tests: 18, then 17 or 16, then 14. What each call tells, and the roster afterwards:
unfoldable pub giving : List Place → List ℕ → Answer × List Place
giving ps serial =
    need (not (spoilt ps)) (refused 1 Spoilt, ps)
    (need (is_serial serial) (refused 1 NotForThisCall, ps)
    (giving_sound ps serial))

-- address 0, 255 or free
unfoldable pub none_at : List Place → ℕ → Bool
none_at ps address = not (is_address address) || free (get_or ps (address - 1) free_place)

-- Removing zeroes the place.
unfoldable pub removing : List Place → ℕ → Answer × List Place
removing ps address =
    need (not (spoilt ps)) (refused 0 Spoilt, ps)
    (need (not (none_at ps address)) (refused 0 WrongAddressOrExponentTooLow, ps)
    (answer 0 [], set ps (address - 1) free_place))

-- Finding tells the address of a serial, 0 where none has it, and changes nothing.
unfoldable pub finding : List Place → List ℕ → Answer
finding ps serial =
    need (not (spoilt ps)) (refused 1 Spoilt)
    (need (is_serial serial) (refused 1 NotForThisCall)
    (need (not (no_place (used_by serial) ps)) (answer 0 (0 ∷ []))
    (answer 0 ((first (used_by serial) ps + 1) ∷ []))))
