-- What the writer promises.
use Rattle.std.specs.Prelude.{ℕ, List, length, ltb}
use Rattle.answers.specs.Written.{Writes}
use Rattle.answers.specs.Written.{Written}
use Rattle.comlynx.specs.Wire.{payload_max, wire}

-- what `write` promises of source, destination, type and data, the lent buffer, its result and the buffer afterwards:
-- 8, then 9, then the bytes of the frame
abbrev pub IsWritten : ℕ → ℕ → ℕ → List ℕ → List ℕ → Written → List ℕ → Type 0
IsWritten source destination kind payload =
    Writes (ltb payload_max (length payload)) (wire (record { source = source; destination = destination; kind = kind; payload = payload }))
