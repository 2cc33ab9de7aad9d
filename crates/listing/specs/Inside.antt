-- Need not be read: no public promise cites this. It is what the inner functions promise.
use Rattle.std.specs.Prelude.{ℕ, ◌≤◌, ◌≡◌, Bool, true, false, List, [], ◌++◌, map, length, drop, Result, Ok, Err}
use Rattle.std.proofs.Math.Option.{Option as Stop, none, some}
use Rattle.std.specs.declared.option.Option.{Option}
use Rattle.std.specs.declared.option.Option.TheVariants.{None, Some}
use Rattle.answers.specs.Refusal as Refusal
use Rattle.answers.specs.Damage as Damage
use Rattle.answers.specs.declared.Refusal.{Refusal}
use Rattle.answers.specs.declared.Refusal.TheVariants.{Spoilt}
use Rattle.stream.specs.Event.{message, damage, Told, done, gives, refuses}
use Rattle.stream.specs.Pieces.{calls}
use Rattle.stream.specs.Call.{called, retold}
use Rattle.uplink.specs.Packet.{piece_max}
use Rattle.ports.specs.Ports.{Seat, row_of}
use Rattle.ports.specs.declared.Ports.{Ports}
use Rattle.listing_text.specs.Lines.{Shown, stop_line}
use Rattle.listing.specs.Entries.{Entry, show_event, entries_on, lines_of, messages_in, damages_in}
use Rattle.listing.specs.Steps.{in_range}
use Rattle.listing.specs.declared.family.Event.{Event as Brought}
use Rattle.listing.specs.declared.family.Event.TheVariants.{Message, Damaged}
use Rattle.listing.specs.declared.family.Read.{Read}
use Rattle.listing.specs.declared.drain.Drained.{Drained}
use Rattle.listing.specs.declared.Listing.{Listing}
use Rattle.listing.specs.declared.Listed.{Listed}
use Rattle.listing.specs.declared.Heard.TheVariants.{Packet as Took, End}

-- so many bytes of text stand at the front of what was lent, and its rest is unchanged
abbrev pub Put : (text lent : List ℕ) → (wrote : ℕ) → (later : List ℕ) → Type 0
Put text lent wrote later = (wrote ≡ length text) × (later ≡ text ++ drop (length text) lent)

-- ---- a reader, called once: of a family by its row in the table of ports

-- what a call tells
abbrev pub told_by : {H : Type 0} → Result (Option (Brought H)) Refusal → Told H
told_by (Ok None) = done
told_by (Ok (Some (Message h))) = gives (message h)
told_by (Ok (Some (Damaged what lost))) = gives (damage (Damage.number what) lost)
told_by (Err why) = refuses (Refusal.number why)

-- what the family's promise says of a call of `step`, messages shown: the reader afterwards, what is told, and the bytes used. A state in range leads to
-- such a state, and data that are told of are in the lent buffer
module _ {H : Type 0} (at : Seat) (payload_length : H → ℕ) (shown : H → List ℕ → Shown) where
  pub record IsRead (s : (row_of at).family.State) (piece lent : List ℕ) (r : Read H) (later : (row_of at).family.State) (lent_later : List ℕ) : Type 0 where
    pub state : later ≡ (called (row_of at).next (row_of at).in_range s piece lent).state
    pub tells : retold (λ h. shown h lent_later) (told_by r.told) ≡ retold (row_of at).show (called (row_of at).next (row_of at).in_range s piece lent).told
    pub uses : r.used ≡ (called (row_of at).next (row_of at).in_range s piece lent).used
    pub stays : (row_of at).in_range s ≡ true → (row_of at).in_range later ≡ true
    pub fits : (h : H) → told_by r.told ≡ gives (message h) → payload_length h ≤ length lent

-- ---- a packet's piece handed to a reader: what it comes to, the reader and the lent buffer afterwards

abbrev pub drained : List Entry → Drained
drained es = record { wrote = length (lines_of es); messages = messages_in es; damages = damages_in es }

pub record Drains (at : Seat) (s : (row_of at).family.State) (port : ℕ) (piece lent : List ℕ) (r : Result Drained Refusal) (later : (row_of at).family.State) (text : List ℕ) : Type 0 where
  -- a reader out of range is refused, and nothing is done
  pub refuses : (row_of at).in_range s ≡ false → (r ≡ Err Spoilt) × (later ≡ s) × (text ≡ lent)
  -- one in range reads all of the piece
  pub reads : (row_of at).in_range s ≡ true
      → (let ran = calls (row_of at).next (length piece) s piece in
      let es = entries_on port (map (show_event (row_of at).show) ran.events) in
      (r ≡ Ok (drained es)) × (later ≡ ran.state) × (text ≡ lines_of es ++ drop (length (lines_of es)) lent) × ((row_of at).in_range later ≡ true))
  pub few : (d : Drained) → r ≡ Ok d → (d.messages ≤ piece_max) × (d.damages ≤ piece_max)

-- the same on a port, of all readers: the others stay as they are
abbrev pub DrainsOn : Ports → (port : ℕ) → (piece lent : List ℕ) → Result Drained Refusal → Ports → (text : List ℕ) → Type 0
DrainsOn ps port piece lent r later text =
    (at : Seat) × (reader : (row_of at).family.State) × (port ≡ (row_of at).port) × (later ≡ (row_of at).put ps reader) × Drains at ((row_of at).get ps) (row_of at).port piece lent r reader text

-- `in_range`: whatever the readers are
abbrev pub InRange : (packets messages damages : ℕ) → Bool → Type 0
InRange packets messages damages r = (ports : Ports) → r ≡ in_range (record { ports = ports; packets = packets; messages = messages; damages = damages })

-- how long the last lines are at most
abbrev pub stop_most : ℕ
stop_most = 9

abbrev pub end_most : ℕ
end_most = 46

-- `put_stop`: the line of what stops the listing, if something does
abbrev pub stop_text : Option Refusal → List ℕ
stop_text None = []
stop_text (Some why) = stop_line (Refusal.number why)

abbrev pub stop_of : Option Refusal → Stop ℕ
stop_of None = none
stop_of (Some why) = some (Refusal.number why)

-- `finished`
abbrev pub finish : Listing → (wrote : ℕ) → Listed
finish l wrote = record { listing = l; heard = End; used = 0; wrote = wrote }

-- `taken`
abbrev pub took : Ports → (packets messages damages used wrote : ℕ) → Listed
took ports packets messages damages used wrote = record {
  listing = record { ports = ports; packets = packets; messages = messages; damages = damages };
  heard = Took;
  used = used;
  wrote = wrote;
}
