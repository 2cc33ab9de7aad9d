-- The version and the port of a packet, with the papers' own numbers: document 01 for the ports 1 to 3, document 02, Req 04, for port 4.
use Rattle.std.specs.Prelude.{ℕ, ◌≡◌, List, [], ◌∷◌, map, replicate}
use Rattle.answers.specs.Answer.{Answer, answer, number}
use Rattle.uplink.specs.Packet.{packet_at, written}

-- what the reader answers to a packet of one line byte
abbrev pub read_as : (high low port count : ℕ) → Answer
read_as high low port count = packet_at (0x53 ∷ 0x42 ∷ 0x52 ∷ high ∷ low ∷ port ∷ count ∷ 0x05 ∷ [])

-- its numbers for the ports 0 to 5 and 255, in a version
abbrev pub read_in : (high low : ℕ) → List ℕ
read_in high low = map (λ port. number (read_as high low port 1)) (0 ∷ 1 ∷ 2 ∷ 3 ∷ 4 ∷ 5 ∷ 255 ∷ [])

-- what the writer answers to the same byte for a port, with room for just that packet, and what then stands there
abbrev pub written_for : ℕ → Answer × List ℕ
written_for port = written port (0x05 ∷ []) (replicate 8 0x00)

pub record Cases : Type 0 where
  -- 11 for an unknown version, 12 for a known version with the wrong port
  pub version_00_00 : read_in 0x00 0x00 ≡ 11 ∷ 11 ∷ 11 ∷ 11 ∷ 11 ∷ 11 ∷ 11 ∷ []
  pub version_00_01 : read_in 0x00 0x01 ≡ 12 ∷ 0 ∷ 0 ∷ 0 ∷ 12 ∷ 12 ∷ 12 ∷ []
  pub version_00_02 : read_in 0x00 0x02 ≡ 12 ∷ 12 ∷ 12 ∷ 12 ∷ 0 ∷ 12 ∷ 12 ∷ []
  pub version_00_03 : read_in 0x00 0x03 ≡ 11 ∷ 11 ∷ 11 ∷ 11 ∷ 11 ∷ 11 ∷ 11 ∷ []
  pub version_01_00 : read_in 0x01 0x00 ≡ 11 ∷ 11 ∷ 11 ∷ 11 ∷ 11 ∷ 11 ∷ 11 ∷ []
  pub version_02_00 : read_in 0x02 0x00 ≡ 11 ∷ 11 ∷ 11 ∷ 11 ∷ 11 ∷ 11 ∷ 11 ∷ []
  -- with 0 port, count and bytes used; 12 for a wrong count; 13 for a missing byte
  pub taken : read_as 0x00 0x02 4 1 ≡ answer 0 (4 ∷ 1 ∷ 8 ∷ [])
  pub none_counted : read_as 0x00 0x02 4 0 ≡ answer 12 (0 ∷ 0 ∷ 0 ∷ [])
  pub too_many : read_as 0x00 0x02 4 241 ≡ answer 12 (0 ∷ 0 ∷ 0 ∷ [])
  pub one_missing : read_as 0x00 0x02 4 2 ≡ answer 13 (0 ∷ 0 ∷ 0 ∷ [])
  -- what is written
  pub for_port_3 : written_for 3 ≡ (answer 0 (8 ∷ []), 0x53 ∷ 0x42 ∷ 0x52 ∷ 0x00 ∷ 0x01 ∷ 0x03 ∷ 0x01 ∷ 0x05 ∷ [])
  pub for_port_4 : written_for 4 ≡ (answer 0 (8 ∷ []), 0x53 ∷ 0x42 ∷ 0x52 ∷ 0x00 ∷ 0x02 ∷ 0x04 ∷ 0x01 ∷ 0x05 ∷ [])
  pub for_port_5 : written_for 5 ≡ (answer 12 (0 ∷ []), replicate 8 0x00)
