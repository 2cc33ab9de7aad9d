-- What a listing shows: a message as four lists of bytes, a damage by its number and the bytes lost, each on its port; their lines and their counts.
use Rattle.std.specs.Prelude.{ℕ, ◌+◌, List, [], ◌∷◌, ◌++◌, map}
use Rattle.std.proofs.Math.Option.{Option, none, some}
use Rattle.stream.specs.Event.{Event, message, damage}
pub use Rattle.ports.specs.Shown.{word, show_comlynx, show_eversolar, show_fronius, show_drives}
use Rattle.listing_text.specs.Lines.{Shown, message_line, damage_line, stop_line, end_line}

abbrev pub show_event : {M : Type 0} → (M → Shown) → Event M → Event Shown
show_event show (message m) = message (show m)
show_event show (damage n lost) = damage n lost

-- ---- entries, a line each

pub record Entry : Type 0 where
  pub port : ℕ
  pub event : Event Shown

abbrev pub entries_on : (port : ℕ) → List (Event Shown) → List Entry
entries_on port es = map {A = Event Shown} {B = Entry} (λ e. record { port = port; event = e }) es

-- ---- the text

abbrev pub entry_line : (port : ℕ) → Event Shown → List ℕ
entry_line port (message m) = message_line port m
entry_line port (damage n lost) = damage_line port n lost

abbrev pub lines_of : List Entry → List ℕ
lines_of [] = []
lines_of (e ∷ es) = entry_line e.port e.event ++ lines_of es

-- of the entries, how many are messages, and how many are damages
abbrev pub is_message : Event Shown → ℕ
is_message (message m) = 1
is_message (damage n lost) = 0

abbrev pub is_damage : Event Shown → ℕ
is_damage (message m) = 0
is_damage (damage n lost) = 1

abbrev pub messages_in : List Entry → ℕ
messages_in [] = 0
messages_in (e ∷ es) = is_message e.event + messages_in es

abbrev pub damages_in : List Entry → ℕ
damages_in [] = 0
damages_in (e ∷ es) = is_damage e.event + damages_in es

-- A refused packet, or 19, prints `stop` and its number before the end line
abbrev pub last_lines : Option ℕ → (messages damages : ℕ) → List ℕ
last_lines none messages damages = end_line messages damages
last_lines (some n) messages damages = stop_line n ++ end_line messages damages
