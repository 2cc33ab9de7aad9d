-- A listing made packet by packet: what `Listing::step` promises, for every listing, forged ones too, every input and every lent buffer.
use Rattle.std.specs.Prelude.{ℕ, ◌+◌, ◌*◌, ◌≡◌, Bool, true, false, cond, ◌&&◌, not, List, [], ◌∷◌, ◌++◌, map, length, take, drop, eqb, leb}
use Rattle.std.proofs.Math.Option.{Option, none, some}
use Rattle.answers.specs.Answer.{number, need}
use Rattle.answers.specs.Refusal as Refusal
use Rattle.answers.specs.declared.Refusal.{Refusal}
use Rattle.answers.specs.declared.Refusal.TheVariants.{NoRoom, BytesMissing, Spoilt, TooManyPackets}
use Rattle.stream.specs.Event.{Event}
use Rattle.stream.specs.Pieces.{calls}
use Rattle.uplink.specs.Packet.{lead_length, piece_max, port_in, count_in, packet_at}
use Rattle.ports.specs.Ports as Table
use Rattle.ports.specs.Ports.{Seat, row_of, seat_at}
use Rattle.ports.specs.declared.Ports.{Ports}
use Rattle.listing_text.specs.Lines.{Shown}
use Rattle.listing.specs.Entries.{show_event, entries_on, lines_of, messages_in, damages_in, last_lines}
use Rattle.listing.specs.declared.Listing.{Listing}
use Rattle.listing.specs.declared.Listed.{Listed}
use Rattle.listing.specs.declared.Heard.{Heard}
use Rattle.listing.specs.declared.Heard.TheVariants.{More, Packet as Took, End, Refused}

-- what `Listing::fresh` promises: fresh readers, and nothing counted
pub record IsFresh (l : Listing) : Type 0 where
  pub readers : Table.IsFresh l.ports
  pub packets : l.packets ≡ 0
  pub messages : l.messages ≡ 0
  pub damages : l.damages ≡ 0

-- ---- a packet

pub record Packet : Type 0 where
  pub port : ℕ
  pub piece : List ℕ

-- the packet that s begins with
abbrev pub packet_in : List ℕ → Packet
packet_in s = record { port = port_in s; piece = take (count_in s) (drop lead_length s) }

-- how many are taken
abbrev pub packets_max : ℕ
packets_max = 65536

-- ---- the piece of a packet goes to the reader of its port, called on until it is used up

pub record Fed : Type 0 where
  pub ports : Ports
  pub events : List (Event Shown)

abbrev pub fed_on : Option Seat → Ports → List ℕ → Fed
fed_on none ps piece = record { ports = ps; events = [] }
fed_on (some at) ps piece =
    let r = calls (row_of at).next (length piece) ((row_of at).get ps) piece in
    record { ports = (row_of at).put ps r.state; events = map (show_event (row_of at).show) r.events }

abbrev pub fed : Packet → Ports → Fed
fed p ps = fed_on (seat_at p.port) ps p.piece

-- the reader of the port is in its range
abbrev pub readable_on : Option Seat → Ports → Bool
readable_on none ps = false
readable_on (some at) ps = (row_of at).in_range ((row_of at).get ps)

abbrev pub readable : (port : ℕ) → Ports → Bool
readable port ps = readable_on (seat_at port) ps

-- ---- one call

-- what a call makes: the next listing, what it came to, the bytes used, and the text
pub record Made : Type 0 where
  pub listing : Listing
  pub heard : Heard
  pub used : ℕ
  pub text : List ℕ

-- a refusal leaves the listing unmoved: nothing used, nothing written
abbrev pub unmoved : Refusal → Listing → Made
unmoved why l = record { listing = l; heard = Refused why; used = 0; text = [] }

abbrev pub wants_more : Listing → Made
wants_more l = record { listing = l; heard = More; used = 0; text = [] }

abbrev pub ends : Listing → Option ℕ → Made
ends l stop = record { listing = l; heard = End; used = 0; text = last_lines stop l.messages l.damages }

-- a packet taken: its lines, and the counts
abbrev pub takes : Listing → Packet → Fed → Made
takes l p f =
    let es = entries_on p.port f.events in
    record {
      listing = record { ports = f.ports; packets = l.packets + 1; messages = l.messages + messages_in es; damages = l.damages + damages_in es };
      heard = Took;
      used = lead_length + length p.piece;
      text = lines_of es;
    }

-- a packet that is accepted is taken, if the reader of its port is in range
unfoldable pub taking : Listing → Packet → Made
taking l p = need (readable p.port l.ports) (unmoved Spoilt l) (takes l p (fed p l.ports))

-- Of a packet that is refused with n nothing is read. Bytes are missing only once the input has ended: else more is wanted
unfoldable pub no_packet : Listing → (n : ℕ) → (ended : Bool) → Made
no_packet l n ended = cond (eqb n (Refusal.number BytesMissing) && not ended) (wants_more l) (ends l (some n))

-- where nothing of the input is at hand
unfoldable pub at_end : Listing → (ended : Bool) → Made
at_end l ended = need ended (wants_more l) (ends l none)

-- by the packet that the input begins with
unfoldable pub by_packet : Listing → List ℕ → (ended : Bool) → Made
by_packet l s ended = let n = number (packet_at s) in cond (eqb n 0) (taking l (packet_in s)) (no_packet l n ended)

-- Once the last packet is taken, more input, whatever it is, stops
unfoldable pub going : Listing → List ℕ → (ended : Bool) → Made
going l [] ended = at_end l ended
going l (b ∷ bs) ended = cond (eqb l.packets packets_max) (ends l (some (Refusal.number TooManyPackets))) (by_packet l (b ∷ bs) ended)

-- a listing that may be: no more packets than are taken, and no more messages or damages than their pieces have bytes
unfoldable pub in_range : Listing → Bool
in_range l = leb l.packets packets_max && (leb l.messages (piece_max * l.packets) && leb l.damages (piece_max * l.packets))

-- what is to be lent at least: room for the lines of any packet
abbrev pub room_least : ℕ
room_least = 8192

-- Tests: 18, then 9, then the input
unfoldable pub made : Listing → List ℕ → (ended : Bool) → (room : ℕ) → Made
made l input ended room =
    need (in_range l) (unmoved Spoilt l)
    (need (leb room_least room) (unmoved NoRoom l)
    (going l input ended))

-- a listing that is never refused with 18
pub record Sound (l : Listing) : Type 0 where
  pub counts : in_range l ≡ true
  pub readers : (at : Seat) → readable_on (some at) l.ports ≡ true

-- what is handed back of what is made
abbrev pub listed : Made → Listed
listed m = record { listing = m.listing; heard = m.heard; used = m.used; wrote = length m.text }

-- a call on l that makes m, of the lent buffer, the result and the buffer afterwards; and a sound listing stays sound
abbrev pub HandsBack : Listing → Made → (lent : List ℕ) → Listed → (later : List ℕ) → Type 0
HandsBack l m lent r later = (r ≡ listed m) × (later ≡ m.text ++ drop (length m.text) lent) × (Sound l → Sound r.listing)

-- WHAT `Listing::step` PROMISES, of listing, input, whether the input has ended, the lent buffer, the result and the buffer afterwards
abbrev pub IsStep : Listing → List ℕ → Bool → List ℕ → Listed → List ℕ → Type 0
IsStep l input ended lent = HandsBack l (made l input ended (length lent)) lent
