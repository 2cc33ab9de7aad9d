-- What reader and writer owe each other and their callers, over the promises of the calls themselves.
use Rattle.std.specs.Prelude.{ℕ, ◌+◌, ◌≤◌, ◌≡◌, ◌↔◌, List, [], ◌∷◌, ◌++◌, true, length, take, Err}
use Rattle.std.proofs.Math.Seq.{slice}
use Rattle.answers.specs.Answer.{answer}
use Rattle.answers.specs.Written as Written
use Rattle.answers.specs.declared.Refusal.{Refusal}
use Rattle.answers.specs.Written.{Written}
use Rattle.uplink.specs.Packet.{lead_length, piece_max, packet, takes, Received, told, IsRead, IsWritten}

-- Whatever is written reads back: of the n bytes written, followed by any others, the reader can only tell this port,
-- this piece's length and n bytes used; and the piece stands behind the lead, up to n.
abbrev pub ReadsBack : Type 0
ReadsBack =
    (port : ℕ) (piece lent later rest : List ℕ) (w : Written) (n : ℕ)
    → IsWritten port piece lent w later
    → Written.told w ≡ answer 0 (n ∷ [])
    → ((r : Received) → IsRead (take n later ++ rest) r → told r ≡ answer 0 (port ∷ length piece ∷ n ∷ []))
    × (slice lead_length n (take n later ++ rest) ≡ piece)

-- s begins with the packet of a piece of so many bytes for this port, one that the writer takes
pub record Begins (s : List ℕ) (port count used : ℕ) : Type 0 where
  pub piece : List ℕ
  pub rest : List ℕ
  pub bytes : s ≡ packet port piece ++ rest
  pub counts : length piece ≡ count
  pub taken : takes port count ≡ true
  pub uses : used ≡ lead_length + count

-- A packet is accepted exactly if it is one that the writer writes, with anything after it.
abbrev pub Accepts : Type 0
Accepts =
    (s : List ℕ) (r : Received) (port count used : ℕ)
    → IsRead s r
    → (told r ≡ answer 0 (port ∷ count ∷ used ∷ [])) ↔ Begins s port count used

-- With a refusal the lent buffer is as it was.
abbrev pub Kept : Type 0
Kept =
    (port : ℕ) (piece lent later : List ℕ) (why : Refusal)
    → IsWritten port piece lent (Err why) later
    → later ≡ lent

-- what a caller may count on with an accepted packet
pub record Within (s : List ℕ) (port count used : ℕ) : Type 0 where
  pub uses : used ≡ lead_length + count
  pub there : used ≤ length s
  pub some : 1 ≤ count
  pub most : count ≤ piece_max
  pub first : 1 ≤ port
  pub last : port ≤ 4

-- The bytes used are there, and count and port are in range.
abbrev pub Fits : Type 0
Fits =
    (s : List ℕ) (r : Received) (port count used : ℕ)
    → IsRead s r
    → told r ≡ answer 0 (port ∷ count ∷ used ∷ [])
    → Within s port count used

-- the two bytes behind the mark are version 00 02
abbrev pub SecondVersion : List ℕ → Type 0
SecondVersion s = slice 3 5 s ≡ 0x00 ∷ 0x02 ∷ []

-- Packets for port 4, and only those, are written
abbrev pub WrittenForPort4 : Type 0
WrittenForPort4 =
    (port : ℕ) (piece lent later : List ℕ) (w : Written) (n : ℕ)
    → IsWritten port piece lent w later
    → Written.told w ≡ answer 0 (n ∷ [])
    → SecondVersion (take n later) ↔ (port ≡ 4)

-- and read with version 00 02.
abbrev pub ReadForPort4 : Type 0
ReadForPort4 =
    (s : List ℕ) (r : Received) (port count used : ℕ)
    → IsRead s r
    → told r ≡ answer 0 (port ∷ count ∷ used ∷ [])
    → SecondVersion s ↔ (port ≡ 4)
