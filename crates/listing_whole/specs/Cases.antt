-- Document 01's own listings, and some as document 02 has them: one with a damage, and two of port 4. Input and whole output.
use Rattle.std.specs.Prelude.{◌≡◌, [], ◌∷◌, ◌++◌}
use Rattle.numbers.specs.Texts.{text}
use Rattle.listing_whole.specs.Listing.{listing_of}

-- Case L1: one packet, one ComLynx ping
abbrev pub L1 : Type 0
L1 =
    listing_of (0x53 ∷ 0x42 ∷ 0x52 ∷ 0x00 ∷ 0x01 ∷ 0x01 ∷ 0x0C ∷ 0x7E ∷ 0xFF ∷ 0x03 ∷ 0x00 ∷ 0x02 ∷ 0x11 ∷ 0xFF ∷ 0x00 ∷ 0x15 ∷ 0x79 ∷ 0x91 ∷ 0x7E ∷ [])
    ≡ text "port answer from to code data\n" ++ (text "1 1 0002 11FF 15 -\n" ++ text "end 1 0\n")

-- one packet, one stretch with a broken pair: it loses the four bytes between the flags, as they were sent
abbrev pub BrokenStretch : Type 0
BrokenStretch =
    listing_of (0x53 ∷ 0x42 ∷ 0x52 ∷ 0x00 ∷ 0x01 ∷ 0x01 ∷ 0x06 ∷ 0x7E ∷ 0xFF ∷ 0x03 ∷ 0x7D ∷ 0x00 ∷ 0x7E ∷ [])
    ≡ text "port answer from to code data\n" ++ (text "1 2 4\n" ++ text "end 0 1\n")

-- one packet of version 00 02, for port 4: the frame that source document 003 prints, which reads one address at 3000 from station 01
abbrev pub DriveRead : Type 0
DriveRead =
    listing_of (0x53 ∷ 0x42 ∷ 0x52 ∷ 0x00 ∷ 0x02 ∷ 0x04 ∷ 0x0C ∷ 0x05 ∷ 0x30 ∷ 0x31 ∷ 0x52 ∷ 0x33 ∷ 0x30 ∷ 0x30 ∷ 0x30 ∷ 0x31 ∷ 0x41 ∷ 0x37 ∷ 0x04 ∷ [])
    ≡ text "port answer from to code data\n" ++ (text "4 1 05 3031 52 3330303031\n" ++ text "end 1 0\n")

-- the same frame with its letter in lower case, so that its sum is wrong too: it loses the whole frame, opening byte and EOT included
abbrev pub LowerCaseLetter : Type 0
LowerCaseLetter =
    listing_of (0x53 ∷ 0x42 ∷ 0x52 ∷ 0x00 ∷ 0x02 ∷ 0x04 ∷ 0x0C ∷ 0x05 ∷ 0x30 ∷ 0x31 ∷ 0x72 ∷ 0x33 ∷ 0x30 ∷ 0x30 ∷ 0x30 ∷ 0x31 ∷ 0x41 ∷ 0x37 ∷ 0x04 ∷ [])
    ≡ text "port answer from to code data\n" ++ (text "4 21 12\n" ++ text "end 0 1\n")

-- empty input gives the header and `end 0 0`
abbrev pub Nothing : Type 0
Nothing = listing_of [] ≡ text "port answer from to code data\n" ++ text "end 0 0\n"
