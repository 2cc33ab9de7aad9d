-- Laws of words, whatever the order of their two bytes. Every other proof goes by these.
-- Assumes nothing.
use Prim.Native.Nat.{ℕ, ◌/◌, ◌%◌, ◌<◌}
use mathlib.Core.Path.{◌≡◌, refl, ap₂}
use mathlib.Core.List.{[], ◌∷◌}
use lib.ListN.{length, get_or}
use lib.Dec.{T, ltb, lt→ltb}
use lib.Pow.{are_bytes}
use mir.Facts.{yes_and}
use native.Mathlib.Omega.{arith}
use Rattle.eversolar_words.specs.Words.{Order, low_first, high_first, order, joined, word, parted, word_bytes}

parted_length : (o : Order) (w : ℕ) → length (parted o w) ≡ 2
parted_length low_first w = refl
parted_length high_first w = refl

two_bytes : (x y : ℕ) → x < 256 → y < 256 → T (are_bytes (x ∷ y ∷ []))
two_bytes x y h k = yes_and (ltb x 256) (are_bytes (y ∷ [])) (lt→ltb x 256 h) (yes_and (ltb y 256) (are_bytes []) (lt→ltb y 256 k) tt)

parted_bytes : (o : Order) (w : ℕ) → w < 65536 → T (are_bytes (parted o w))
parted_bytes low_first w h = two_bytes (w % 256) (w / 256) (omega arith) (omega arith)
parted_bytes high_first w h = two_bytes (w / 256) (w % 256) (omega arith) (omega arith)

parted_joined : (o : Order) (w : ℕ) → joined o (get_or (parted o w) 0 0) (get_or (parted o w) 1 0) ≡ w
parted_joined low_first w = omega arith
parted_joined high_first w = omega arith

-- the bytes of a word are two,
pub word_length : (w : ℕ) → length (word_bytes w) ≡ 2
unfolding word_bytes
word_length w = parted_length order w

-- and bytes,
pub word_bytes_lem : (w : ℕ) → w < 65536 → T (are_bytes (word_bytes w))
unfolding word_bytes
word_bytes_lem w h = parted_bytes order w h

-- and make up the word again
pub word_again : (w : ℕ) → word (get_or (word_bytes w) 0 0) (get_or (word_bytes w) 1 0) ≡ w
unfolding word word_bytes
word_again w = parted_joined order w

joined_parted : (o : Order) (x y : ℕ) → x < 256 → y < 256 → parted o (joined o x y) ≡ x ∷ y ∷ []
joined_parted low_first x y h k = ap₂ (λ (m n : ℕ). m ∷ n ∷ []) (omega arith) (omega arith)
joined_parted high_first x y h k = ap₂ (λ (m n : ℕ). m ∷ n ∷ []) (omega arith) (omega arith)

-- and two bytes are those of the word that they make up
pub word_parts : (x y : ℕ) → x < 256 → y < 256 → word_bytes (word x y) ≡ x ∷ y ∷ []
unfolding word word_bytes
word_parts x y h k = joined_parted order x y h k
