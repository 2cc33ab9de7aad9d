-- What it says of a character that it is in its set: it is a byte, and no EOT.
-- Assumes nothing.
use Prim.Native.Nat.{ℕ, ◌+◌, ◌≤◌, ◌<◌}
use mathlib.Core.Path.{◌≡◌, refl}
use mathlib.Core.Bool.{Bool, true, false, cond, ◌&&◌, ◌||◌}
use mathlib.Core.List.{List, [], ◌∷◌, ◌++◌}
use lib.Dec.{T, eqb, ltb, leb}
use lib.Pow.{are_bytes}
use borrow.Author.Tests.{eqb-true, leb-true, le-leb, lt-leb, ltb-true, ltb-false}
use native.Mathlib.Omega.{arith}
use Rattle.numbers.proofs.TestLaws.{both, either}
use Rattle.stream.proofs.BytesOfParts.{bytes_cons}
use Rattle.drives.specs.Wire.{enq, ack, nak, opens, eot, is_hex, all_hex, is_letter, hex_digit}
use Rattle.drives.specs.Demands.{NoEot}

pub hex_range : (c : ℕ) → is_hex c ≡ true → (0x30 ≤ c) × (c ≤ 0x46)
unfolding is_hex
hex_range c e =
    either (leb 0x30 c && leb c 0x39) (leb 0x41 c && leb c 0x46) e
    (λ p. let q = both (leb 0x30 c) (leb c 0x39) p in omega (arith, leb-true 0x30 c q.0, leb-true c 0x39 q.1))
    (λ p. let q = both (leb 0x41 c) (leb c 0x46) p in omega (arith, leb-true 0x41 c q.0, leb-true c 0x46 q.1))

pub letter_range : (c : ℕ) → is_letter c ≡ true → (0x52 ≤ c) × (c ≤ 0x59)
unfolding is_letter
letter_range c e =
    either (eqb c 0x52) _ e (λ p. omega (arith, eqb-true c 0x52 p))
    (λ r. either (eqb c 0x57) _ r (λ p. omega (arith, eqb-true c 0x57 p))
    (λ s. either (eqb c 0x58) (eqb c 0x59) s (λ p. omega (arith, eqb-true c 0x58 p)) (λ p. omega (arith, eqb-true c 0x59 p))))

-- an opening byte is not 0, which is the stage in which one is looked for
pub opens_range : (b : ℕ) → opens b ≡ true → (enq ≤ b) × (b ≤ nak)
unfolding opens
opens_range b e =
    either (eqb b enq) _ e (λ p. omega (arith, eqb-true b enq p))
    (λ r. either (eqb b ack) (eqb b nak) r (λ p. omega (arith, eqb-true b ack p)) (λ p. omega (arith, eqb-true b nak p)))

-- nor EOT, and it is in no set
pub opens_not_eot : (b : ℕ) → opens b ≡ true → b ≡ eot → ⊥
opens_not_eot b e z = omega (arith, opens_range b e)

pub opens_not_hex : (b : ℕ) → opens b ≡ true → is_hex b ≡ false
opens_not_hex b e = go (is_hex b) refl
  where
    go : (t : Bool) → is_hex b ≡ t → t ≡ false
    go true h = absurd (omega (arith, hex_range b h, opens_range b e))
    go false h = refl

pub opens_not_letter : (b : ℕ) → opens b ≡ true → is_letter b ≡ false
opens_not_letter b e = go (is_letter b) refl
  where
    go : (t : Bool) → is_letter b ≡ t → t ≡ false
    go true h = absurd (omega (arith, letter_range b h, opens_range b e))
    go false h = refl

-- the digits of a sum are in the set
pub digit_hex : (n : ℕ) → n < 16 → is_hex (hex_digit n) ≡ true
unfolding is_hex hex_digit
digit_hex n h = go (ltb n 10) refl
  where
    go : (t : Bool) → ltb n 10 ≡ t
        → (leb 0x30 (cond t (0x30 + n) (0x37 + n)) && leb (cond t (0x30 + n) (0x37 + n)) 0x39) || (leb 0x41 (cond t (0x30 + n) (0x37 + n)) && leb (cond t (0x30 + n) (0x37 + n)) 0x46) ≡ true
    go true e = let lt = ltb-true n 10 e in rw (le-leb 0x30 (0x30 + n) (omega arith), le-leb (0x30 + n) 0x39 (omega arith))
    go false e =
        let le = ltb-false n 10 e in
        rw (le-leb 0x30 (0x37 + n) (omega arith), lt-leb (0x37 + n) 0x39 (omega arith), le-leb 0x41 (0x37 + n) (omega arith), le-leb (0x37 + n) 0x46 (omega arith))

pub hex_no_eot : (cs : List ℕ) → all_hex cs ≡ true → NoEot cs
hex_no_eot [] e = tt
hex_no_eot (c ∷ cs) e =
    let q = both (is_hex c) (all_hex cs) e in
    (λ z. omega (arith, hex_range c q.0), hex_no_eot cs q.1)

pub hex_bytes : (cs : List ℕ) → all_hex cs ≡ true → T (are_bytes cs)
hex_bytes [] e = tt
hex_bytes (c ∷ cs) e =
    let q = both (is_hex c) (all_hex cs) e in
    bytes_cons c cs (omega (arith, hex_range c q.0)) (hex_bytes cs q.1)

pub hex_append : (a b : List ℕ) → all_hex a ≡ true → all_hex b ≡ true → all_hex (a ++ b) ≡ true
hex_append [] b p q = q
hex_append (x ∷ a) b p q = let r = both (is_hex x) (all_hex a) p in rw (r.0, hex_append a b r.1 q)
