-- A message as it is shown: from, to, code and data, of each family.
use Rattle.std.specs.Prelude.{ℕ, ◌/◌, ◌%◌, List, [], ◌∷◌}
use Rattle.comlynx.specs.Wire as Comlynx
use Rattle.eversolar.specs.Wire as Eversolar
use Rattle.fronius.specs.Wire as Fronius
use Rattle.drives.specs.Wire as Drives
use Rattle.listing_text.specs.Lines.{Shown}

abbrev pub word : ℕ → List ℕ
word w = w / 256 ∷ w % 256 ∷ []

abbrev pub show_comlynx : Comlynx.Message → Shown
show_comlynx m = record { from = word m.source; to = word m.destination; code = m.kind ∷ []; payload = m.payload }

-- Eversolar's code is control and function
abbrev pub show_eversolar : Eversolar.Message → Shown
show_eversolar m = record {
  from = m.source_first ∷ m.source_second ∷ [];
  to = m.destination_first ∷ m.destination_second ∷ [];
  code = m.control ∷ m.function ∷ [];
  payload = m.payload;
}

-- Fronius has `-` for from, and device with number for to
abbrev pub show_fronius : Fronius.Message → Shown
show_fronius m = record { from = []; to = m.device ∷ m.number ∷ []; code = m.command ∷ []; payload = m.payload }

-- Drives have the opening byte for from, the station's characters for to, and the letter's code for code
abbrev pub show_drives : Drives.Message → Shown
show_drives m = record { from = m.opening ∷ []; to = m.station_first ∷ m.station_second ∷ []; code = m.letter ∷ []; payload = m.payload }
