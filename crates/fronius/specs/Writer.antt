-- What the writer promises.
use Rattle.std.specs.Prelude.{ℕ, List, length, ltb}
use Rattle.answers.specs.Written.{Writes}
use Rattle.answers.specs.Written.{Written}
use Rattle.fronius.specs.Wire.{payload_max, wire}

-- what `write` promises of device, number, command and data, the lent buffer, its result and the buffer afterwards:
-- 8, then 9, then the bytes of the frame
abbrev pub IsWritten : ℕ → ℕ → ℕ → List ℕ → List ℕ → Written → List ℕ → Type 0
IsWritten device number command payload =
    Writes (ltb payload_max (length payload)) (wire (record { device = device; number = number; command = command; payload = payload }))
