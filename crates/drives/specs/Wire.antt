-- Pump drives on the wire: ENQ, ACK or NAK, two characters of station, a letter, data characters, two characters of sum, EOT.
use Rattle.std.specs.Prelude.{ℕ, ◌+◌, ◌-◌, ◌/◌, ◌%◌, ◌≤◌, ◌≡◌, Bool, true, cond, ◌&&◌, ◌||◌, List, [], ◌∷◌, ◌++◌, length, take, drop, get_or, eqb, ltb, leb}
use Rattle.numbers.specs.Lists.{total}

-- all as sent
pub record Message : Type 0 where
  pub opening : ℕ
  pub station_first : ℕ
  pub station_second : ℕ
  pub letter : ℕ
  pub payload : List ℕ

-- ENQ opens a request, ACK and NAK open a reply
abbrev pub enq : ℕ
enq = 0x05

abbrev pub ack : ℕ
ack = 0x06

abbrev pub nak : ℕ
nak = 0x15

unfoldable pub opens : ℕ → Bool
opens b = eqb b enq || (eqb b ack || eqb b nak)

-- EOT ends every frame
abbrev pub eot : ℕ
eot = 0x04

-- ---- the sets of characters

-- ASCII hex: 0 to 9 and A to F
unfoldable pub is_hex : ℕ → Bool
is_hex c = (leb 0x30 c && leb c 0x39) || (leb 0x41 c && leb c 0x46)

abbrev pub all_hex : List ℕ → Bool
all_hex [] = true
all_hex (c ∷ cs) = is_hex c && all_hex cs

-- R, W, X, Y, upper case only
unfoldable pub is_letter : ℕ → Bool
is_letter c = eqb c 0x52 || (eqb c 0x57 || (eqb c 0x58 || eqb c 0x59))

-- behind the opening byte: the station's two characters, a letter, the rest in ASCII hex
unfoldable pub proper : List ℕ → Bool
proper cs = is_hex (get_or cs 0 0) && (is_hex (get_or cs 1 0) && (is_letter (get_or cs 2 0) && all_hex (drop 3 cs)))

-- ---- a frame

-- requests hold 7 to 44 bytes, replies 7 to 39, opening byte and EOT included
abbrev pub frame_least : ℕ
frame_least = 7

unfoldable pub frame_most : ℕ → ℕ
frame_most opening = cond (eqb opening enq) 44 39

-- station, letter and data
abbrev pub covered : Message → List ℕ
covered m = m.station_first ∷ m.station_second ∷ m.letter ∷ m.payload

-- a message that the writer takes: every character is in its set, and its data are not too long
pub record Takes (m : Message) : Type 0 where
  pub opening : opens m.opening ≡ true
  pub proper : proper (covered m) ≡ true
  pub fits : frame_least + length m.payload ≤ frame_most m.opening

-- the sum: the low 8 bits of the total of the characters from the station through the data,
unfoldable pub checksum : List ℕ → ℕ
checksum cs = total cs % 256

-- as two characters
unfoldable pub hex_digit : ℕ → ℕ
hex_digit n = cond (ltb n 10) (0x30 + n) (0x37 + n)

abbrev pub sum_of : List ℕ → List ℕ
sum_of cs = hex_digit (checksum cs / 16) ∷ hex_digit (checksum cs % 16) ∷ []

-- between opening byte and EOT
abbrev pub between : Message → List ℕ
between m = covered m ++ sum_of (covered m)

abbrev pub wire : Message → List ℕ
wire m = m.opening ∷ (between m ++ (eot ∷ []))

-- the message of an opening byte and of what stands between it and EOT
abbrev pub message_of : ℕ → List ℕ → Message
message_of opening cs = record {
  opening = opening;
  station_first = get_or cs 0 0;
  station_second = get_or cs 1 0;
  letter = get_or cs 2 0;
  payload = take (length cs - 5) (drop 3 cs);
}
