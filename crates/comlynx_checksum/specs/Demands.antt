-- What the checksum is for, as statements. Each is proved under the same name in small letters in `proofs/SentAgrees.antt`.
-- Assumes nothing.
use Rattle.std.specs.Prelude.{ℕ, ◌<◌, ◌≡◌, List, ◌++◌, true, T}
use Rattle.std.proofs.Math.Pow.{are_bytes}
use Rattle.comlynx_checksum.specs.Checksum.{checksum_of, sent, others, agrees}

-- the checksum agrees for what is sent, whatever the bytes
abbrev pub Passes : Type 0
Passes = (s : List ℕ) → agrees (s ++ sent s) ≡ true

-- and for nothing else
abbrev pub OnlyThese : Type 0
OnlyThese = (l : List ℕ) → agrees l ≡ true → l ≡ others l ++ sent (others l)

-- the checksum of bytes is a word, and what is sent are bytes
abbrev pub Bounds : Type 0
Bounds = (s : List ℕ) → T (are_bytes s) → (checksum_of s < 65536) × T (are_bytes (sent s))
