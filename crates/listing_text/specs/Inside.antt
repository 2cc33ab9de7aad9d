-- Need not be read: no public promise cites this. It is what the inner functions promise.
use Rattle.std.specs.Prelude.{ℕ, zero, suc, ◌+◌, ◌*◌, ◌≡◌, Bool, cond, List, [], ◌∷◌, ◌++◌, length, eqb, Err}
use Rattle.std.proofs.lemmas.List.Edits.{sets}
use Rattle.answers.specs.declared.Refusal.TheVariants.{TooLong, NoRoom}
use Rattle.answers.specs.Written.{Written}
use Rattle.listing_text.specs.Lines.{hex_digit, field, decimal}

-- `width`: the bytes that the field of n bytes takes
unfoldable pub width_of : ℕ → ℕ
width_of n = cond (eqb n 0) 1 (2 * n)

abbrev pub width_max : ℕ
width_max = 510

-- `digits`: those of i, i + 1, .., n of them; of all sixteen
unfoldable pub digits_from : (i n : ℕ) → List ℕ
digits_from i zero = []
digits_from i (suc n) = hex_digit i ∷ digits_from (suc i) n

unfoldable pub hex_digits : List ℕ
hex_digits = digits_from 0 16

-- the digits of a number of 64 bits, at most
abbrev pub places_max : ℕ
places_max = 20

-- `is_refused`: of a line whose first three fields take so many bytes, and whose data have n
abbrev pub line_length : (port three n : ℕ) → ℕ
line_length port three n = length (decimal port) + three + width_of n + 7

-- `refusal`
abbrev pub refused_for : (too_long : Bool) → Written
refused_for too_long = cond too_long (Err TooLong) (Err NoRoom)

-- `put_start`
abbrev pub start : (port : ℕ) → List ℕ
start port = decimal port ++ (32 ∷ 49 ∷ 32 ∷ [])

-- `put_2_2`, `put_0_2`, `put_1_2`
abbrev pub before_code : (port : ℕ) → (from to : List ℕ) → List ℕ
before_code port from to = (start port ++ (field from ++ (32 ∷ []))) ++ (field to ++ (32 ∷ []))

-- what is put at an index: the index behind it, and the buffer afterwards
abbrev pub Put : List ℕ → (at : ℕ) → (text : List ℕ) → (r : ℕ) → List ℕ → Type 0
Put lent at text r later = (r ≡ at + length text) × (later ≡ sets lent at text)
