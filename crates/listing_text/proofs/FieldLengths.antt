-- How long the fields and the lines are, and how a number's digits follow one another.
-- Assumes nothing.
use Prim.Native.Nat.{ℕ, zero, suc, ◌+◌, ◌*◌, ◌/◌, ◌%◌, ◌≤◌, ◌<◌}
use mathlib.Core.Path.{◌≡◌, refl, sym, ap, ◌∙◌}
use mathlib.Core.Bool.{Bool, true, false}
use mathlib.Core.List.{List, [], ◌∷◌, ◌++◌, append_assoc}
use lib.ListN.{length, get_or, take, drop, length-append, take-append-drop}
use lib.Dec.{ltb}
use borrow.Author.Tests.{lt-ltb, le-ltb, ltb-true, ltb-false, ne_eqb}
use native.Mathlib.Nat.{add-zero, zero-add, add-suc, suc-add, le_of_suc-le-suc, not-suc-le-zero}
use native.Mathlib.Omega.{arith}
use Rattle.listing_text.specs.Lines.{hex_digit, hex, field, digits, decimal, Shown, message_line, damage_line, stop_line, end_word, end_line}
use Rattle.listing_text.specs.Inside.{width_of, digits_from, hex_digits, places_max, line_length, start}

-- ---- hex

pub hex_length : (bs : List ℕ) → length (hex bs) ≡ 2 * length bs
hex_length [] = refl
hex_length (b ∷ bs) = omega (arith, hex_length bs)

hex_append : (a b : List ℕ) → hex a ++ hex b ≡ hex (a ++ b)
hex_append [] b = refl
hex_append (x ∷ a) b = ap (λ (t : List ℕ). hex_digit (x / 16) ∷ hex_digit (x % 16) ∷ t) (hex_append a b)

-- in two parts
pub hex_parts : (n : ℕ) (bs : List ℕ) → hex (take n bs) ++ hex (drop n bs) ≡ hex bs
hex_parts n bs = hex_append (take n bs) (drop n bs) ∙ ap hex (take-append-drop n bs)

-- what stands in the table of digits
at_from : (i n k : ℕ) → k < n → get_or (digits_from i n) k 0 ≡ hex_digit (i + k)
unfolding digits_from
at_from i zero k h = absurd (not-suc-le-zero h)
at_from i (suc n) zero h = ap hex_digit (sym (add-zero i))
at_from i (suc n) (suc k) h = at_from (suc i) n k (le_of_suc-le-suc h) ∙ ap hex_digit (suc-add i k ∙ sym (add-suc i k))

pub digit_at : (k : ℕ) → k < 16 → get_or hex_digits k 0 ≡ hex_digit k
unfolding hex_digits
digit_at k h = at_from 0 16 k h ∙ ap hex_digit (zero-add k)

pub width_some : (n : ℕ) → (n ≡ 0 → ⊥) → width_of n ≡ 2 * n
unfolding width_of
width_some n h = rw (ne_eqb n 0 h)

pub field_length : (bs : List ℕ) → length (field bs) ≡ width_of (length bs)
unfolding width_of
field_length [] = refl
field_length (b ∷ bs) = hex_length (b ∷ bs) ∙ sym (width_some (length (b ∷ bs)) (λ e. omega arith))

pub field_none : (bs : List ℕ) → length bs ≡ 0 → field bs ≡ 45 ∷ []
field_none [] h = refl
field_none (b ∷ bs) h = absurd (omega arith)

pub field_some : (bs : List ℕ) → (length bs ≡ 0 → ⊥) → field bs ≡ hex bs
field_some [] h = absurd (h refl)
field_some (b ∷ bs) h = refl

pub width_most : (n : ℕ) → width_of n ≤ 1 + 2 * n
unfolding width_of
width_most zero = omega arith
width_most (suc n) = omega (arith, width_some (suc n) (λ e. omega arith))

-- ---- decimal

-- by the test on a number
tested : {A : Type 0} (n : ℕ) → (n < 10 → A) → (10 ≤ n → A) → A
tested {A} n less more = go (ltb n 10) refl
  where
    go : (t : Bool) → ltb n 10 ≡ t → A
    go true e = less (ltb-true n 10 e)
    go false e = more (ltb-false n 10 e)

-- more fuel than the number changes nothing
enough : (f g n : ℕ) → n < f → n < g → digits f n ≡ digits g n
enough zero g n h k = absurd (not-suc-le-zero h)
enough (suc f) zero n h k = absurd (not-suc-le-zero k)
enough (suc f) (suc g) n h k =
    tested n
    (λ s. rw (lt-ltb n 10 s))
    (λ s. rw (le-ltb n 10 s) (ap (λ (ds : List ℕ). ds ++ ((48 + n % 10) ∷ [])) (enough f g (n / 10) (omega arith) (omega arith))))

pub decimal_one : (n : ℕ) → n < 10 → decimal n ≡ (48 + n % 10) ∷ []
unfolding decimal
decimal_one n h = rw (lt-ltb n 10 h)

pub decimal_digit : (n : ℕ) → n < 10 → decimal n ≡ (48 + n) ∷ []
decimal_digit n h = decimal_one n h ∙ (let same : n % 10 ≡ n = omega arith in rw same)

pub decimal_more : (n : ℕ) → 10 ≤ n → decimal n ≡ decimal (n / 10) ++ ((48 + n % 10) ∷ [])
unfolding decimal
decimal_more n h = rw (le-ltb n 10 h) (ap (λ (ds : List ℕ). ds ++ ((48 + n % 10) ∷ [])) (enough n (suc (n / 10)) (n / 10) (omega arith) (omega arith)))

pub decimal_longer : (n : ℕ) → 10 ≤ n → length (decimal n) ≡ length (decimal (n / 10)) + 1
decimal_longer n h = ap length (decimal_more n h) ∙ length-append (decimal (n / 10)) ((48 + n % 10) ∷ [])

-- the least number of more than k + 1 digits
abbrev pub beyond : ℕ → ℕ
beyond zero = 10
beyond (suc k) = 10 * beyond k

pub decimal_fits : (k n : ℕ) → n < beyond k → length (decimal n) ≤ suc k
decimal_fits zero n h = rw (decimal_one n h) (omega arith)
decimal_fits (suc k) n h =
    tested n
    (λ s. rw (decimal_one n s) (omega arith))
    (λ s. omega (arith, decimal_longer n s, decimal_fits k (n / 10) (omega arith)))

pub decimal_some : (n : ℕ) → 1 ≤ length (decimal n)
decimal_some n = tested n (λ s. rw (decimal_one n s) (omega arith)) (λ s. omega (arith, decimal_longer n s))

-- at most a digit more than the number
digits_most : (fuel n : ℕ) → length (digits fuel n) ≤ fuel
digits_most zero n = omega arith
digits_most (suc fuel) n =
    tested n
    (λ s. rw (lt-ltb n 10 s) (omega arith))
    (λ s. rw (le-ltb n 10 s, length-append (digits fuel (n / 10)) ((48 + n % 10) ∷ [])) (omega (arith, digits_most fuel (n / 10))))

pub decimal_most : (n : ℕ) → length (decimal n) ≤ suc n
unfolding decimal
decimal_most n = digits_most (suc n) n

-- a number of 64 bits; one of 16; one of 8
pub decimal_64 : (n : ℕ) → n < 18446744073709551616 → length (decimal n) ≤ places_max
decimal_64 n h = decimal_fits 19 n (omega arith)

pub decimal_16 : (n : ℕ) → n < 65536 → length (decimal n) ≤ 5
decimal_16 n h = decimal_fits 4 n (omega arith)

pub decimal_8 : (n : ℕ) → n < 256 → length (decimal n) ≤ 3
decimal_8 n h = decimal_fits 2 n (omega arith)

pub decimal_10 : (n : ℕ) → n < 10 → length (decimal n) ≡ 1
decimal_10 n h = rw (decimal_one n h)

-- ---- lines

abbrev pub message_length : (port : ℕ) → Shown → ℕ
message_length port m = line_length port (width_of (length m.from) + width_of (length m.to) + width_of (length m.code)) (length m.payload)

pub message_length_lem : (port : ℕ) (m : Shown) → length (message_line port m) ≡ message_length port m
message_length_lem port m =
    simp (length-append, decimal_one 1 (omega arith)) (omega (arith, field_length m.from, field_length m.to, field_length m.code, field_length m.payload))

pub message_text : (port : ℕ) (m : Shown)
    → (((start port ++ (field m.from ++ (32 ∷ []))) ++ (field m.to ++ (32 ∷ []))) ++ (field m.code ++ (32 ∷ []))) ++ (field m.payload ++ (10 ∷ []))
    ≡ message_line port m
message_text port m = simp (append_assoc, decimal_one 1 (omega arith))

pub damage_length : (port number lost : ℕ) → length (damage_line port number lost) ≡ length (decimal port) + length (decimal number) + length (decimal lost) + 3
damage_length port number lost = simp length-append (omega arith)

pub damage_text : (port number lost : ℕ)
    → ((decimal port ++ (32 ∷ [])) ++ (decimal number ++ (32 ∷ []))) ++ (decimal lost ++ (10 ∷ [])) ≡ damage_line port number lost
damage_text port number lost = simp append_assoc

pub stop_length : (number : ℕ) → length (stop_line number) ≡ 5 + length (decimal number) + 1
stop_length number = simp length-append (omega arith)

pub end_length : (messages damages : ℕ) → length (end_line messages damages) ≡ 4 + length (decimal messages) + length (decimal damages) + 2
end_length messages damages = simp length-append (omega arith)

pub end_text : (messages damages : ℕ) → ((end_word ++ (32 ∷ [])) ++ (decimal messages ++ (32 ∷ []))) ++ (decimal damages ++ (10 ∷ [])) ≡ end_line messages damages
end_text messages damages = simp append_assoc
