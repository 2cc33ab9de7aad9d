-- The checksum of ComLynx, CRC-16/X-25: document 01, "ComLynx on the wire".
-- Assumes nothing.
use Rattle.std.specs.Prelude.{ℕ, zero, suc, ◌-◌, ◌/◌, ◌%◌, ◌≡◌, List, [], ◌∷◌, ◌++◌, Bool, length, take, drop}
use Rattle.std.specs.Int.Bits.{bit_xor}
use Rattle.numbers.specs.Lists.{same}
use Rattle.comlynx_checksum.specs.declared.Sent.{Sent}

-- ---- an entry: the reversed polynomial 8408 applied eight times to the index

abbrev pub poly : ℕ
poly = 0x8408

-- what a shift by one leaves, h, by the bit that fell out: a 1 takes the polynomial to it
unfoldable pub folded : ℕ → ℕ → ℕ
folded zero h = h
folded (suc _) h = bit_xor h poly

unfoldable pub bit_step : ℕ → ℕ
bit_step x = folded (x % 2) (x / 2)

unfoldable pub bit_steps : ℕ → ℕ → ℕ
bit_steps zero x = x
bit_steps (suc n) x = bit_steps n (bit_step x)

unfoldable pub entry : ℕ → ℕ
entry i = bit_steps 8 i

-- ---- a byte b: shift the state f right by 8, then exclusive-or with the entry chosen by the low byte exclusive-or b

unfoldable pub checksum_next : ℕ → ℕ → ℕ
checksum_next f b = bit_xor (f / 256) (entry (bit_xor (f % 256) b))

-- the bytes of a list, one after another, going on from the state f
unfoldable pub checksum_from : ℕ → List ℕ → ℕ
checksum_from f [] = f
checksum_from f (b ∷ s) = checksum_from (checksum_next f b) s

-- the checksum of a list, before the complement: it starts at FFFF
abbrev pub start : ℕ
start = 0xFFFF

unfoldable pub checksum_of : List ℕ → ℕ
checksum_of s = checksum_from start s

-- ---- the complement is sent, low byte first

abbrev pub complement : ℕ → ℕ
complement f = 0xFFFF - f

unfoldable pub sent_after : ℕ → List ℕ
sent_after f = complement f % 256 ∷ complement f / 256 ∷ []

-- the two bytes that are sent after the bytes s
unfoldable pub sent : List ℕ → List ℕ
sent s = sent_after (checksum_of s)

-- ---- the checksum of a whole body agrees: its last two bytes are those that are sent after the others

abbrev pub others : List ℕ → List ℕ
others l = take (length l - 2) l

abbrev pub last_two : List ℕ → List ℕ
last_two l = drop (length l - 2) l

unfoldable pub agrees : List ℕ → Bool
agrees l = same (last_two l) (sent (others l))

-- ---- what the public calls promise of their result r

-- `of`: the checksum of s
abbrev pub IsOf : List ℕ → ℕ → Type 0
IsOf s r = r ≡ checksum_of s

-- `of_both`: the checksum of s and t, one after another
abbrev pub IsOfBoth : List ℕ → List ℕ → ℕ → Type 0
IsOfBoth s t r = r ≡ checksum_of (s ++ t)

-- `of_first`: the checksum of the first n bytes of s, of all of it where it has fewer
abbrev pub IsOfFirst : List ℕ → ℕ → ℕ → Type 0
IsOfFirst s n r = r ≡ checksum_of (take n s)

-- `more`: the checksum going on from the state f over s
abbrev pub IsMore : ℕ → List ℕ → ℕ → Type 0
IsMore f s r = r ≡ checksum_from f s

-- `sent_of`: the two bytes that are sent after the state f
abbrev pub IsSentOf : ℕ → Sent → Type 0
IsSentOf f r = r.low ∷ r.high ∷ [] ≡ sent_after f
