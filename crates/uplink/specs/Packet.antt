-- The uplink packet, in document 01's words and order, with port 4 of document 02, Req 04: its bytes, its tests, and what reading and writing promise.
use Rattle.std.specs.Prelude.{ℕ, ◌+◌, ◌*◌, ◌/◌, ◌%◌, ◌≡◌, List, [], ◌∷◌, ◌++◌, Bool, false, cond, ◌&&◌, ◌||◌, length, get_or, leb, eqb, Option, Some, None, Result, Ok, Err}
use Rattle.numbers.specs.Texts.{text}
use Rattle.answers.specs.Answer.{Answer, answer, need}
use Rattle.answers.specs.Refusal.{refused}
use Rattle.answers.specs.Written as Written
use Rattle.answers.specs.Written.{writing}
use Rattle.answers.specs.declared.Refusal.TheVariants.{WrongMark, WrongVersion, WrongPortOrCount, BytesMissing}
use Rattle.answers.specs.Written.{Written}
use Rattle.answers.specs.declared.Refusal.{Refusal}
use Rattle.uplink.specs.declared.Packet.{Packet}

-- Mark `SBR`,
abbrev pub mark : List ℕ
mark = text "SBR"

-- version 00 01 for the ports 1 to 3; packets for port 4, and only those, are written and read with version 00 02. Which version carries
-- which port is said here alone. 0 is no version.
-- The table of ports stands above this crate; that each port which a version carries has a row there is shown in `listing_whole`.
unfoldable pub version_of : ℕ → ℕ
version_of port = cond (leb 1 port && leb port 3) 1 (cond (eqb port 4) 2 0)

-- the version that carries a port, where one does
abbrev pub version_for : ℕ → Option ℕ
version_for port = cond (eqb (version_of port) 0) None (Some (version_of port))

-- a version that carries some port: that of the ports 1 to 3, or that of port 4
unfoldable pub known : ℕ → Bool
known version = eqb version (version_of 1) || eqb version (version_of 4)

-- count 1 to 240,
abbrev pub piece_max : ℕ
piece_max = 240

unfoldable pub counted : ℕ → Bool
counted count = leb 1 count && leb count piece_max

-- The seven bytes of the lead: mark, version (high byte first), port, count;
abbrev pub lead_length : ℕ
lead_length = 7

abbrev pub lead : ℕ → ℕ → ℕ → List ℕ
lead version port count = mark ++ (version / 256 ∷ version % 256 ∷ port ∷ count ∷ [])

-- then that many line bytes, the piece.
abbrev pub packet : ℕ → List ℕ → List ℕ
packet port piece = lead (version_of port) port (length piece) ++ piece

-- What stands in a lead
unfoldable pub marked : List ℕ → Bool
marked s = eqb (get_or s 0 0) (get_or mark 0 0) && eqb (get_or s 1 0) (get_or mark 1 0) && eqb (get_or s 2 0) (get_or mark 2 0)

abbrev pub version_in : List ℕ → ℕ
version_in s = get_or s 3 0 * 256 + get_or s 4 0

abbrev pub port_in : List ℕ → ℕ
port_in s = get_or s 5 0

abbrev pub count_in : List ℕ → ℕ
count_in s = get_or s 6 0

-- the version carries the port, and the count is in range
unfoldable pub carried : List ℕ → Bool
carried s = eqb (version_of (port_in s)) (version_in s) && counted (count_in s)

-- Tests: fewer than 7 bytes 13; mark 10; version 11; port or count 12; bytes missing 13.
-- With 0 port, count and bytes used (7 plus count).
unfoldable pub packet_at : List ℕ → Answer
packet_at s =
    need (leb lead_length (length s)) (refused 3 BytesMissing)
    (need (marked s) (refused 3 WrongMark)
    (need (known (version_in s)) (refused 3 WrongVersion)
    (need (carried s) (refused 3 WrongPortOrCount)
    (need (leb (lead_length + count_in s) (length s)) (refused 3 BytesMissing)
    (answer 0 (port_in s ∷ count_in s ∷ (lead_length + count_in s) ∷ []))))))

-- what `read` answers
abbrev pub Received : Type 0
Received = Result Packet Refusal

abbrev pub told : Received → Answer
told (Ok p) = answer 0 (p.port ∷ p.count ∷ p.used ∷ [])
told (Err why) = refused 3 why

-- what `read` promises of the bytes and its result
abbrev pub IsRead : List ℕ → Received → Type 0
IsRead s r = told r ≡ packet_at s

-- a port with a version, and a count
abbrev pub takes : ℕ → ℕ → Bool
takes port count = known (version_of port) && counted count

-- The packet writer tests 12, then 9 (room below the exact written length), as every writer does: nothing is too long once 12 has not been given.
-- With 0 it answers the length. What it tells, and what then stands in the lent buffer:
unfoldable pub written : ℕ → List ℕ → List ℕ → Answer × List ℕ
written port piece lent =
    need (takes port (length piece)) (refused 1 WrongPortOrCount, lent)
    (writing false (packet port piece) lent)

-- what `write` promises of its arguments, its result and the later content of the lent buffer
abbrev pub IsWritten : ℕ → List ℕ → List ℕ → Written → List ℕ → Type 0
IsWritten port piece lent w later = (Written.told w ≡ (written port piece lent).0) × (later ≡ (written port piece lent).1)
