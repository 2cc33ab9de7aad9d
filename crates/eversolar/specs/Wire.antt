-- Eversolar on the wire: AA 55, source, destination, control, function, length N, N data bytes, two checksum bytes.
use Rattle.std.specs.Prelude.{ℕ, ◌%◌, ◌≤◌, ◌<◌, List, [], ◌∷◌, ◌++◌, length, get_or, T}
use Rattle.std.proofs.Math.Pow.{are_bytes}
use Rattle.numbers.specs.Lists.{total}
use Rattle.eversolar_words.specs.Words.{word_bytes}

-- source and destination are two bytes each, as sent
pub record Message : Type 0 where
  pub source_first : ℕ
  pub source_second : ℕ
  pub destination_first : ℕ
  pub destination_second : ℕ
  pub control : ℕ
  pub function : ℕ
  pub payload : List ℕ

-- 0 to 255 data bytes
abbrev pub payload_max : ℕ
payload_max = 255

-- a message that the writer takes: all its parts are bytes, and its data are not too long
pub record Takes (m : Message) : Type 0 where
  pub source_first : m.source_first < 256
  pub source_second : m.source_second < 256
  pub destination_first : m.destination_first < 256
  pub destination_second : m.destination_second < 256
  pub control : m.control < 256
  pub function : m.function < 256
  pub payload : T (are_bytes m.payload)
  pub fits : length m.payload ≤ payload_max

-- the two bytes that open a frame
abbrev pub first_mark : ℕ
first_mark = 0xAA

abbrev pub second_mark : ℕ
second_mark = 0x55

-- source, destination, control, function
abbrev pub six_of : Message → List ℕ
six_of m = m.source_first ∷ m.source_second ∷ m.destination_first ∷ m.destination_second ∷ m.control ∷ m.function ∷ []

-- all bytes before the checksum: AA 55, these six, length N, the data
abbrev pub earlier_of : List ℕ → ℕ → List ℕ → List ℕ
earlier_of six n payload = first_mark ∷ second_mark ∷ (six ++ (n ∷ payload))

-- the checksum is the sum of all earlier bytes, AA 55 included, modulo 65,536
unfoldable pub checksum : List ℕ → ℕ
checksum bs = total bs % 65536

abbrev pub earlier : Message → List ℕ
earlier m = earlier_of (six_of m) (length m.payload) m.payload

abbrev pub wire : Message → List ℕ
wire m = earlier m ++ word_bytes (checksum (earlier m))

-- the message of six bytes before the length, and data
abbrev pub message_of : List ℕ → List ℕ → Message
message_of six payload = record {
  source_first = get_or six 0 0;
  source_second = get_or six 1 0;
  destination_first = get_or six 2 0;
  destination_second = get_or six 3 0;
  control = get_or six 4 0;
  function = get_or six 5 0;
  payload = payload;
}
