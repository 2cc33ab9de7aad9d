-- Page 003's example, and frames on both sides of each limit and of each set's ends: what they come to, in the papers' own numbers. No number here is
-- taken from a definition, so that one that is wrong in the definitions alone does not hold here.
use Rattle.std.specs.Prelude.{ℕ, ◌≤◌, ◌≡◌, true, false, List, [], ◌∷◌, ◌++◌, map, length, replicate}
use Prim.Native.String.{String}
use Rattle.std.proofs.Math.Option.{Option, none, some}
use Rattle.numbers.specs.Texts.{text}
use Rattle.answers.specs.Answer.{answer}
use Rattle.answers.specs.Written.{told}
use Rattle.answers.specs.Written.{Written}
use Rattle.stream.specs.Event.{Event, message, damage, Told, gives, number}
use Rattle.stream.specs.Rule.{Settled}
use Rattle.stream.specs.Call.{called}
use Rattle.drives.specs.Wire.{Message, wire}
use Rattle.drives.specs.Rules.{judge, rule}
use Rattle.drives.specs.Machine.{fresh, in_range, next}
use Rattle.drives.specs.Reader as Reader
use Rattle.drives.specs.Writer.{IsWritten}

-- ---- how the cases are said

-- a frame by its opening byte and its characters
abbrev pub frame : ℕ → String → List ℕ
frame opening characters = opening ∷ (text characters ++ (0x04 ∷ []))

abbrev pub made : (opening first second letter : ℕ) → List ℕ → Message
made opening first second letter payload = record {
  opening = opening;
  station_first = first;
  station_second = second;
  letter = letter;
  payload = payload;
}

-- n bytes were used, and are this message
abbrev pub reads : ℕ → (opening first second letter : ℕ) → List ℕ → Option (Settled (Event Message))
reads n opening first second letter payload = some (record { event = message (made opening first second letter payload); used = n })

-- n bytes were used, and all are lost with this damage
abbrev pub loses : (n what : ℕ) → Option (Settled (Event Message))
loses n what = some (record { event = damage what n; used = n })

-- the number told: 0 where nothing is found
abbrev pub number_of : Option (Settled (Event Message)) → ℕ
number_of none = 0
number_of (some s) = number (gives s.event)

-- the numbers told of frames that differ in one byte
abbrev pub numbers_of : (ℕ → List ℕ) → List ℕ → List ℕ
numbers_of with = map (λ b. number_of (rule tt (with b)))

-- what a fresh reader tells of these bytes
abbrev pub told_of : List ℕ → Told Message
told_of piece = (called next Reader.in_range fresh piece (replicate 255 0x00)).told

-- whatever `write` does of what it promises: it tells this number and this length, and leaves this in the lent buffer
abbrev pub Tells : (opening first second letter : ℕ) → (payload lent : List ℕ) → (what n : ℕ) → List ℕ → Type 0
Tells opening first second letter payload lent what n after =
    (w : Written) (later : List ℕ) → IsWritten opening first second letter payload lent w later
    → (told w ≡ answer what (n ∷ [])) × (later ≡ after)

-- ---- the page's example: reading one address at 3000 from station 01 carries A7

abbrev pub PageWritten : Type 0
PageWritten =
    wire (made 0x05 0x30 0x31 0x52 (0x33 ∷ 0x30 ∷ 0x30 ∷ 0x30 ∷ 0x31 ∷ []))
    ≡ 0x05 ∷ 0x30 ∷ 0x31 ∷ 0x52 ∷ 0x33 ∷ 0x30 ∷ 0x30 ∷ 0x30 ∷ 0x31 ∷ 0x41 ∷ 0x37 ∷ 0x04 ∷ []

abbrev pub PageRead : Type 0
PageRead =
    rule tt (0x05 ∷ 0x30 ∷ 0x31 ∷ 0x52 ∷ 0x33 ∷ 0x30 ∷ 0x30 ∷ 0x30 ∷ 0x31 ∷ 0x41 ∷ 0x37 ∷ 0x04 ∷ [])
    ≡ reads 12 0x05 0x30 0x31 0x52 (0x33 ∷ 0x30 ∷ 0x30 ∷ 0x30 ∷ 0x31 ∷ [])

abbrev pub PageByReader : Type 0
PageByReader =
    told_of (0x05 ∷ 0x30 ∷ 0x31 ∷ 0x52 ∷ 0x33 ∷ 0x30 ∷ 0x30 ∷ 0x30 ∷ 0x31 ∷ 0x41 ∷ 0x37 ∷ 0x04 ∷ [])
    ≡ gives (message (made 0x05 0x30 0x31 0x52 (0x33 ∷ 0x30 ∷ 0x30 ∷ 0x30 ∷ 0x31 ∷ [])))

-- ---- lengths: a damage loses the whole frame

-- a request has 44 bytes at most
abbrev pub MostOfRequest : Type 0
MostOfRequest =
    (rule tt (frame 0x05 "01W3000810001001100210031004100510061007D7") ≡ reads 44 0x05 0x30 0x31 0x57 (text "3000810001001100210031004100510061007"))
    × (rule tt (frame 0x05 "01W3000810001001100210031004100510061007007") ≡ loses 45 3)

-- a reply, whether ACK or NAK opens it, 39; a request of 40 is read
abbrev pub MostOfReply : Type 0
MostOfReply =
    (rule tt (frame 0x06 "01R10001001100210031004100510061007D7") ≡ reads 39 0x06 0x30 0x31 0x52 (text "10001001100210031004100510061007"))
    × (rule tt (frame 0x15 "01R10001001100210031004100510061007D7") ≡ reads 39 0x15 0x30 0x31 0x52 (text "10001001100210031004100510061007"))
    × (rule tt (frame 0x06 "01R10001001100210031004100510061007007") ≡ loses 40 3)
    × (rule tt (frame 0x15 "01R10001001100210031004100510061007007") ≡ loses 40 3)
    × (rule tt (frame 0x05 "01R10001001100210031004100510061007007") ≡ reads 40 0x05 0x30 0x31 0x52 (text "100010011002100310041005100610070"))

-- each has 7 at least
abbrev pub Least : Type 0
Least =
    (rule tt (frame 0x05 "FFXE4") ≡ reads 7 0x05 0x46 0x46 0x58 [])
    × (rule tt (frame 0x06 "0AXC9") ≡ reads 7 0x06 0x30 0x41 0x58 [])
    × (rule tt (frame 0x15 "01WB8") ≡ reads 7 0x15 0x30 0x31 0x57 [])
    × (rule tt (frame 0x05 "01R0") ≡ loses 6 3)
    × (rule tt (frame 0x06 "01R0") ≡ loses 6 3)
    × (rule tt (frame 0x15 "01R0") ≡ loses 6 3)
    × (rule tt (0x05 ∷ 0x04 ∷ []) ≡ loses 2 3)

-- 65,535 bytes lost stand for that or more
abbrev pub MostLost : Type 0
MostLost =
    ((cs : List ℕ) → length cs ≡ 65532 → judge 0x05 cs ≡ damage 3 65534)
    × ((cs : List ℕ) → 65533 ≤ length cs → judge 0x05 cs ≡ damage 3 65535)

-- so a state counts 65,533 between opening byte and EOT. Where no frame is open it counts none
abbrev pub MostCounted : Type 0
MostCounted =
    (map (in_range 0x05) (0 ∷ 65533 ∷ 65534 ∷ []) ≡ true ∷ true ∷ false ∷ [])
    × (map (in_range 0x06) (0 ∷ 65533 ∷ 65534 ∷ []) ≡ true ∷ true ∷ false ∷ [])
    × (map (in_range 0x15) (0 ∷ 65533 ∷ 65534 ∷ []) ≡ true ∷ true ∷ false ∷ [])
    × (map (in_range 0x00) (0 ∷ 1 ∷ []) ≡ true ∷ false ∷ [])

-- ---- sets: each end and the byte beside it

-- 05, 06 and 15 open a frame. 04 does not, nor do 07, 14 and 16: then nothing is found
abbrev pub Openings : Type 0
Openings =
    numbers_of (λ b. frame b "01R30001A7") (0x04 ∷ 0x05 ∷ 0x06 ∷ 0x07 ∷ 0x14 ∷ 0x15 ∷ 0x16 ∷ [])
    ≡ 0 ∷ 1 ∷ 1 ∷ 0 ∷ 0 ∷ 1 ∷ 0 ∷ []

-- 04 alone ends it
abbrev pub Ends : Type 0
Ends =
    numbers_of (λ b. 0x05 ∷ (text "01R30001A7" ++ (b ∷ []))) (0x03 ∷ 0x04 ∷ 0x05 ∷ [])
    ≡ 0 ∷ 1 ∷ 0 ∷ []

-- R, W, X and Y, and the letters beside them; r. The sum of these frames is wrong, so that a letter of the set gives 6
abbrev pub Letters : Type 0
Letters =
    numbers_of (λ c. 0x05 ∷ 0x30 ∷ 0x31 ∷ c ∷ (text "3000100" ++ (0x04 ∷ []))) (0x51 ∷ 0x52 ∷ 0x53 ∷ 0x56 ∷ 0x57 ∷ 0x58 ∷ 0x59 ∷ 0x5A ∷ 0x72 ∷ [])
    ≡ 21 ∷ 6 ∷ 21 ∷ 21 ∷ 6 ∷ 6 ∷ 6 ∷ 21 ∷ 21 ∷ []

-- 0 to 9 and A to F, and the characters beside them; a and f. Again a character of the set gives 6
abbrev pub HexAt : (ℕ → List ℕ) → Type 0
HexAt with =
    numbers_of with (0x2F ∷ 0x30 ∷ 0x39 ∷ 0x3A ∷ 0x40 ∷ 0x41 ∷ 0x46 ∷ 0x47 ∷ 0x61 ∷ 0x66 ∷ [])
    ≡ 21 ∷ 6 ∷ 6 ∷ 21 ∷ 21 ∷ 6 ∷ 6 ∷ 21 ∷ 21 ∷ 21 ∷ []

abbrev pub HexInStation : Type 0
HexInStation =
    HexAt (λ c. 0x05 ∷ c ∷ (text "1R3000100" ++ (0x04 ∷ [])))
    × HexAt (λ c. 0x05 ∷ 0x30 ∷ c ∷ (text "R3000100" ++ (0x04 ∷ [])))

-- the first of the data characters, and the last
abbrev pub HexInData : Type 0
HexInData =
    HexAt (λ c. 0x05 ∷ (text "01R" ++ (c ∷ (text "000100" ++ (0x04 ∷ [])))))
    × HexAt (λ c. 0x05 ∷ (text "01R3000" ++ (c ∷ 0x30 ∷ 0x30 ∷ 0x04 ∷ [])))

abbrev pub HexInSum : Type 0
HexInSum =
    HexAt (λ c. 0x05 ∷ (text "01R30001" ++ (c ∷ 0x30 ∷ 0x04 ∷ [])))
    × HexAt (λ c. 0x05 ∷ (text "01R30001" ++ (0x30 ∷ c ∷ 0x04 ∷ [])))

-- ---- tests and their order

-- A6, A8 and 7A where A7 is right
abbrev pub WrongSum : Type 0
WrongSum =
    (rule tt (frame 0x05 "01R30001A6") ≡ loses 12 6)
    × (rule tt (frame 0x05 "01R30001A8") ≡ loses 12 6)
    × (rule tt (frame 0x05 "01R300017A") ≡ loses 12 6)

-- a sum is cut to its low 8 bits: that of 37 times F is 03
abbrev pub CutSum : Type 0
CutSum =
    rule tt (frame 0x05 "FFYFFFFFFFFFFFFFFFFFFFFFFFFFFFFFFFFFFFFF03")
    ≡ reads 44 0x05 0x46 0x46 0x59 (replicate 37 0x46)

-- 3 before 21 before 6: too long, a wrong letter and a wrong sum; too short and a wrong character; a wrong letter and a wrong sum;
-- a7 where A7 is right
abbrev pub Order : Type 0
Order =
    (rule tt (frame 0x05 "01q3000810001001100210031004100510061007000") ≡ loses 45 3)
    × (rule tt (frame 0x05 "z") ≡ loses 3 3)
    × (rule tt (frame 0x05 "01q3000100") ≡ loses 12 21)
    × (rule tt (frame 0x05 "01R30001a7") ≡ loses 12 21)

-- a 05 inside a frame opens nothing: the page's example behind 05 30 31 52 is one frame of 16 bytes
abbrev pub InnerOpening : Type 0
InnerOpening =
    (rule tt (0x05 ∷ 0x30 ∷ 0x31 ∷ 0x52 ∷ frame 0x05 "01R30001A7") ≡ loses 16 21)
    × (told_of (0x05 ∷ 0x30 ∷ 0x31 ∷ 0x52 ∷ frame 0x05 "01R30001A7") ≡ gives (damage 21 16))

-- bytes before an opening byte are ignored, an EOT among them; what has no EOT yet is nothing
abbrev pub Before : Type 0
Before =
    (rule tt (0x00 ∷ 0x04 ∷ 0x7E ∷ 0x41 ∷ 0xFF ∷ frame 0x05 "01R30001A7") ≡ reads 17 0x05 0x30 0x31 0x52 (text "30001"))
    × (rule tt (0x05 ∷ text "01R30001A7") ≡ none)

-- ---- the writer

-- the page's example in a buffer of 13 bytes, whose last one stays
abbrev pub PageByWriter : Type 0
PageByWriter =
    Tells 0x05 0x30 0x31 0x52 (text "30001") (replicate 13 0xEE) 0 12
    (0x05 ∷ 0x30 ∷ 0x31 ∷ 0x52 ∷ 0x33 ∷ 0x30 ∷ 0x30 ∷ 0x30 ∷ 0x31 ∷ 0x41 ∷ 0x37 ∷ 0x04 ∷ 0xEE ∷ [])

-- 37 data characters in a request and 32 in a reply are the most: one more is 8
abbrev pub MostWritten : Type 0
MostWritten =
    Tells 0x05 0x46 0x46 0x59 (replicate 37 0x46) (replicate 44 0xEE) 0 44 (frame 0x05 "FFYFFFFFFFFFFFFFFFFFFFFFFFFFFFFFFFFFFFFF03")
    × Tells 0x05 0x46 0x46 0x59 (replicate 38 0x46) [] 8 0 []
    × Tells 0x06 0x30 0x31 0x52 (text "10001001100210031004100510061007") (replicate 39 0xEE) 0 39 (frame 0x06 "01R10001001100210031004100510061007D7")
    × Tells 0x06 0x30 0x31 0x52 (replicate 33 0x30) [] 8 0 []
    × Tells 0x15 0x30 0x31 0x52 (replicate 33 0x30) [] 8 0 []

-- 8 before 21 before 9. The letter r, an opening byte 04 and a lent buffer of 11 bytes for 12 are wrong
abbrev pub OrderOfRefusals : Type 0
OrderOfRefusals =
    Tells 0x05 0x30 0x31 0x72 (replicate 38 0x30) [] 8 0 []
    × Tells 0x05 0x30 0x31 0x72 (text "30001") [] 21 0 []
    × Tells 0x04 0x30 0x31 0x52 (text "30001") [] 21 0 []
    × Tells 0x05 0x30 0x31 0x52 (text "30001") (replicate 11 0xEE) 9 0 (replicate 11 0xEE)
