-- The text of each line of a listing, byte by byte, and what the calls that write them promise.
use Rattle.std.specs.Prelude.{ℕ, zero, suc, ◌+◌, ◌/◌, ◌%◌, Bool, false, cond, ◌||◌, List, [], ◌∷◌, ◌++◌, length, ltb}
use Rattle.numbers.specs.Texts.{text}
use Rattle.answers.specs.Written.{Writes}
use Rattle.answers.specs.Written.{Written}

-- ---- fields

-- Hex is upper case: `0` is 48, `A` is 65
unfoldable pub hex_digit : ℕ → ℕ
hex_digit n = cond (ltb n 10) (48 + n) (55 + n)

-- two digits a byte, with nothing between them
abbrev pub hex : List ℕ → List ℕ
hex [] = []
hex (b ∷ bs) = hex_digit (b / 16) ∷ hex_digit (b % 16) ∷ hex bs

-- no data prints `-`, and so does whatever else is empty
abbrev pub field : List ℕ → List ℕ
field [] = text "-"
field (b ∷ bs) = hex (b ∷ bs)

-- In decimal, with no zero in front: the last digit, and before it those of the number's tenth, if there are any.
-- At most `fuel` digits; n has never more than n + 1, so that none is left out
abbrev pub digits : (fuel : ℕ) → ℕ → List ℕ
digits zero n = []
digits (suc fuel) n = cond (ltb n 10) [] (digits fuel (n / 10)) ++ ((48 + n % 10) ∷ [])

unfoldable pub decimal : ℕ → List ℕ
decimal n = digits (suc n) n

-- ---- lines

-- Fields are separated by one space. Lines end with 0A.
abbrev pub line : List (List ℕ) → List ℕ
line [] = 10 ∷ []
line (f ∷ []) = f ++ (10 ∷ [])
line (f ∷ g ∷ fs) = f ++ (32 ∷ line (g ∷ fs))

-- the header
abbrev pub title_line : List ℕ
title_line = text "port answer from to code data\n"

-- a message as a listing shows it, of whatever family: four lists of bytes
pub record Shown : Type 0 where
  pub from : List ℕ
  pub to : List ℕ
  pub code : List ℕ
  pub payload : List ℕ

abbrev pub shown : (from to code payload : List ℕ) → Shown
shown from to code payload = record { from = from; to = to; code = code; payload = payload }

-- a message read is answer 1
abbrev pub message_line : (port : ℕ) → Shown → List ℕ
message_line port m = line (decimal port ∷ decimal 1 ∷ field m.from ∷ field m.to ∷ field m.code ∷ field m.payload ∷ [])

-- A damage line is port and number, and how many bytes were lost as a third field.
abbrev pub damage_line : (port number lost : ℕ) → List ℕ
damage_line port number lost = line (decimal port ∷ decimal number ∷ decimal lost ∷ [])

-- `stop` and the number of the refusal
abbrev pub stop_word : List ℕ
stop_word = text "stop"

abbrev pub stop_line : (number : ℕ) → List ℕ
stop_line number = line (stop_word ∷ decimal number ∷ [])

-- `end` and both counts
abbrev pub end_word : List ℕ
end_word = text "end"

abbrev pub end_line : (messages damages : ℕ) → List ℕ
end_line messages damages = line (end_word ∷ decimal messages ∷ decimal damages ∷ [])

-- ---- what the calls promise: of the lent buffer, the result, and the buffer afterwards

-- no list that a listing shows is longer
abbrev pub field_max : ℕ
field_max = 255

-- one of the four is
abbrev pub too_long : Shown → Bool
too_long m = ltb field_max (length m.from) || ltb field_max (length m.to) || ltb field_max (length m.code) || ltb field_max (length m.payload)

-- `title`
abbrev pub IsTitle : List ℕ → Written → List ℕ → Type 0
IsTitle = Writes false title_line

-- `message_2_2_1` and the like, where from, to and code have so many bytes
abbrev pub IsMessage : (port : ℕ) → Shown → List ℕ → Written → List ℕ → Type 0
IsMessage port m = Writes (too_long m) (message_line port m)

-- `damage`
abbrev pub IsDamage : (port number lost : ℕ) → List ℕ → Written → List ℕ → Type 0
IsDamage port number lost = Writes false (damage_line port number lost)

-- `stop`
abbrev pub IsStop : (number : ℕ) → List ℕ → Written → List ℕ → Type 0
IsStop number = Writes false (stop_line number)

-- `end`
abbrev pub IsEnd : (messages damages : ℕ) → List ℕ → Written → List ℕ → Type 0
IsEnd messages damages = Writes false (end_line messages damages)
