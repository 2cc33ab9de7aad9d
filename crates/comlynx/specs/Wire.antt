-- ComLynx on the wire: 7E, the stuffed body, 7E.
use Rattle.std.specs.Prelude.{ℕ, ◌+◌, ◌-◌, ◌*◌, ◌/◌, ◌%◌, ◌≤◌, ◌<◌, cond, List, [], ◌∷◌, ◌++◌, length, take, drop, get_or, T, eqb}
use Rattle.std.proofs.Math.Pow.{are_bytes}
use Rattle.comlynx_checksum.specs.Checksum.{sent}

pub record Message : Type 0 where
  pub source : ℕ
  pub destination : ℕ
  pub kind : ℕ
  pub payload : List ℕ

-- the data that a message has at most
abbrev pub payload_max : ℕ
payload_max = 255

-- a message that the writer takes: source and destination of 16 bits, type and data bytes, 0 to 255 of them
pub record Takes (m : Message) : Type 0 where
  pub source : m.source < 65536
  pub destination : m.destination < 65536
  pub kind : m.kind < 256
  pub payload : T (are_bytes m.payload)
  pub fits : length m.payload ≤ payload_max

-- size counts the data, so a body has 10 to 265 bytes
abbrev pub body_least : ℕ
body_least = 10

abbrev pub body_max : ℕ
body_max = body_least + payload_max

-- ---- the body: FF 03, source high byte first, destination likewise, size, type, data, checksum low byte first

-- all that stands before the data; size counts the data
abbrev pub lead : ℕ → ℕ → ℕ → ℕ → List ℕ
lead source destination size kind =
    0xFF ∷ 0x03 ∷ source / 256 ∷ source % 256 ∷ destination / 256 ∷ destination % 256 ∷ size ∷ kind ∷ []

-- FF through the last data byte, which the checksum takes
abbrev pub covered : Message → List ℕ
covered m = lead m.source m.destination (length m.payload) m.kind ++ m.payload

unfoldable pub body : Message → List ℕ
body m = covered m ++ sent (covered m)

-- the message that a body is
abbrev pub message_of : List ℕ → Message
message_of bs =
    record {
      source = get_or bs 2 0 * 256 + get_or bs 3 0;
      destination = get_or bs 4 0 * 256 + get_or bs 5 0;
      kind = get_or bs 7 0;
      payload = take (length bs - body_least) (drop 8 bs);
    }

-- ---- stuffing: 7E becomes 7D 5E, 7D becomes 7D 5D, nothing else changes

abbrev pub flag : ℕ
flag = 0x7E

abbrev pub escape : ℕ
escape = 0x7D

abbrev pub flag_pair : ℕ
flag_pair = 0x5E

abbrev pub escape_pair : ℕ
escape_pair = 0x5D

abbrev pub stuffed : List ℕ → List ℕ
stuffed [] = []
stuffed (b ∷ bs) =
    cond (eqb b flag) (escape ∷ flag_pair ∷ stuffed bs)
    (cond (eqb b escape) (escape ∷ escape_pair ∷ stuffed bs) (b ∷ stuffed bs))

-- ---- a frame

abbrev pub wire : Message → List ℕ
wire m = flag ∷ (stuffed (body m) ++ (flag ∷ []))
