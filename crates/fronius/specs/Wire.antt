-- Fronius on the wire: 80 80 80, length, device, number, command, data, checksum.
use Rattle.std.specs.Prelude.{ℕ, ◌%◌, ◌≤◌, ◌<◌, List, [], ◌∷◌, ◌++◌, length, drop, get_or, T}
use Rattle.std.proofs.Math.Pow.{are_bytes}
use Rattle.numbers.specs.Lists.{total}

pub record Message : Type 0 where
  pub device : ℕ
  pub number : ℕ
  pub command : ℕ
  pub payload : List ℕ

-- 0 to 127 data bytes
abbrev pub payload_max : ℕ
payload_max = 127

-- a message that the writer takes: all its parts are bytes, and its data are not too long
pub record Takes (m : Message) : Type 0 where
  pub device : m.device < 256
  pub number : m.number < 256
  pub command : m.command < 256
  pub payload : T (are_bytes m.payload)
  pub fits : length m.payload ≤ payload_max

-- the byte of which three make a start
abbrev pub mark : ℕ
mark = 0x80

-- the checksum: the sum of all but the start and itself, modulo 256
unfoldable pub checksum : List ℕ → ℕ
checksum bs = total bs % 256

-- between length and checksum
abbrev pub body : Message → List ℕ
body m = m.device ∷ m.number ∷ m.command ∷ m.payload

-- Length always counts the data
abbrev pub wire : Message → List ℕ
wire m = mark ∷ mark ∷ mark ∷ length m.payload ∷ (body m ++ (checksum (length m.payload ∷ body m) ∷ []))

-- the message that a body is
abbrev pub message_of : List ℕ → Message
message_of bs = record { device = get_or bs 0 0; number = get_or bs 1 0; command = get_or bs 2 0; payload = drop 3 bs }
