-- Words: checksum and data words. The order of their two bytes is said in `order`, and nowhere else.
use Rattle.std.specs.Prelude.{ℕ, ◌+◌, ◌*◌, ◌/◌, ◌%◌, ◌≡◌, List, [], ◌∷◌}
use Rattle.eversolar_words.specs.declared.Pair.{Pair}

pub data Order : Type 0 where
  low_first : Order
  high_first : Order

-- words go high byte first
abbrev pub order : Order
order = high_first

-- a word from its two bytes
abbrev pub joined : Order → ℕ → ℕ → ℕ
joined low_first first second = 256 * second + first
joined high_first first second = 256 * first + second

unfoldable pub word : ℕ → ℕ → ℕ
word = joined order

-- its two bytes
abbrev pub parted : Order → ℕ → List ℕ
parted low_first w = w % 256 ∷ w / 256 ∷ []
parted high_first w = w / 256 ∷ w % 256 ∷ []

unfoldable pub word_bytes : ℕ → List ℕ
word_bytes = parted order

-- what `word` promises of two bytes and its result
abbrev pub IsWord : ℕ → ℕ → ℕ → Type 0
IsWord first second r = r ≡ word first second

-- what `bytes_of` promises of a word and its result
abbrev pub IsBytesOf : ℕ → Pair → Type 0
IsBytesOf w r = (r.first ∷ r.second ∷ []) ≡ word_bytes w
