-- What the writer promises.
use Rattle.std.specs.Prelude.{ℕ, List, length, ltb}
use Rattle.answers.specs.Written.{Writes}
use Rattle.answers.specs.Written.{Written}
use Rattle.eversolar.specs.Wire.{Message, payload_max, wire}

-- 8, then 9, then the bytes of the message's frame
abbrev pub WritesMessage : Message → List ℕ → Written → List ℕ → Type 0
WritesMessage m = Writes (ltb payload_max (length m.payload)) (wire m)

-- what `write` promises of source, destination, control, function and data, the lent buffer, its result and the buffer afterwards
abbrev pub IsWritten : ℕ → ℕ → ℕ → ℕ → ℕ → ℕ → List ℕ → List ℕ → Written → List ℕ → Type 0
IsWritten source_first source_second destination_first destination_second control function payload =
    WritesMessage (record {
      source_first = source_first;
      source_second = source_second;
      destination_first = destination_first;
      destination_second = destination_second;
      control = control;
      function = function;
      payload = payload;
    })
