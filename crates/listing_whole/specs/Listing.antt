-- THE LISTING OF AN INPUT: a header, one line for each message or damage, and an end line with both counts. No reader's state and no machine is in it:
-- what is listed is what the families' rules find.
use Rattle.std.specs.Prelude.{ℕ, zero, suc, ◌+◌, cond, List, [], ◌∷◌, ◌++◌, map, length, drop, eqb}
use Rattle.std.proofs.Math.Option.{Option, none, some}
use Rattle.answers.specs.Answer.{number}
use Rattle.answers.specs.Refusal as Refusal
use Rattle.answers.specs.declared.Refusal.TheVariants.{TooManyPackets}
use Rattle.stream.specs.Event.{Event}
use Rattle.stream.specs.Rule.{readings}
use Rattle.uplink.specs.Packet.{lead_length, count_in, packet_at}
use Rattle.ports.specs.Ports.{Seat, row_of, seat_at}
use Rattle.listing_text.specs.Lines.{Shown, title_line}
use Rattle.listing.specs.Entries.{show_event, Entry, entries_on, lines_of, messages_in, damages_in, last_lines}
use Rattle.listing.specs.Steps.{Packet, packet_in, packets_max}

-- ---- the packets of an input

-- the packets, and the number that they stop with, if they do
pub record Cut : Type 0 where
  pub packets : List Packet
  pub stop : Option ℕ

abbrev pub stopped : ℕ → Cut
stopped n = record { packets = []; stop = some n }

abbrev pub before : Packet → Cut → Cut
before p c = record { packets = p ∷ c.packets; stop = c.stop }

-- Input that ends where a packet would begin is no refusal
abbrev pub whole : Cut
whole = record { packets = []; stop = none }

-- by the packet at the front, where `rest` is what follows it: a refused packet stops
unfoldable pub by_packet : List ℕ → (rest : Cut) → Cut
by_packet [] rest = whole
by_packet (b ∷ bs) rest = let s = b ∷ bs in cond (eqb (number (packet_at s)) 0) (before (packet_in s) rest) (stopped (number (packet_at s)))

-- where no packet more is taken: more input, whatever it is, stops
unfoldable pub by_end : List ℕ → Cut
by_end [] = whole
by_end (b ∷ bs) = stopped (Refusal.number TooManyPackets)

-- n packets at most
abbrev pub cut : (n : ℕ) → List ℕ → Cut
cut zero s = by_end s
cut (suc n) s = by_packet s (cut n (drop (lead_length + count_in s) s))

-- ---- what a port's bytes come to, by the rule of its family

abbrev pub found_on : Option Seat → List ℕ → List (Event Shown)
found_on none bs = []
found_on (some seat) bs =
    let F = (row_of seat).family in
    map (λ p. show_event (row_of seat).show p.event) (readings F.rule F.after_event F.at_start bs)

abbrev pub found : (port : ℕ) → List ℕ → List (Event Shown)
found port bs = found_on (seat_at port) bs

-- the pieces of a port, joined
abbrev pub joined : (port : ℕ) → List Packet → List ℕ
joined port [] = []
joined port (p ∷ ps) = cond (eqb p.port port) (p.piece ++ joined port ps) (joined port ps)

-- ---- what is listed

-- after the packets ps the packet p brings what is found in its port's bytes up to and with its own, and was not found without its own
abbrev pub brings : List Packet → Packet → List (Event Shown)
brings ps p = drop (length (found p.port (joined p.port ps))) (found p.port (joined p.port (ps ++ (p ∷ []))))

-- the entries of packets that come after the packets ps
abbrev pub entries : List Packet → List Packet → List Entry
entries ps [] = []
entries ps (q ∷ qs) = entries_on q.port (brings ps q) ++ entries (ps ++ (q ∷ [])) qs

-- THE WHOLE OUTPUT
unfoldable pub listing_of : List ℕ → List ℕ
listing_of input =
    let c = cut packets_max input in
    let es = entries [] c.packets in
    title_line ++ (lines_of es ++ last_lines c.stop (messages_in es) (damages_in es))
