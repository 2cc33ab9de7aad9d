-- THE STORED DAY: what was written and packed is listed, all of it and nothing else.
-- Assumes nothing.
use Prim.Native.Nat.{ℕ, zero, suc, ◌+◌, ◌≤◌}
use mathlib.Core.Path.{◌≡◌, refl, sym, ap, ap₂, ◌∙◌, subst}
use mathlib.Core.Bool.{true}
use mathlib.Core.Option.{none}
use mathlib.Core.List.{List, [], ◌∷◌, ◌++◌, map}
use lib.ListN.{length, take, drop}
use lib.Seq.{take-append_seam, drop-append_seam, drop-drop}
use lib.Dec.{T}
use lib.Pow.{are_bytes}
use native.Mathlib.Omega.{arith}
use borrow.Author.Tests.{ne_eqb}
use Rattle.numbers.proofs.TestLaws.{both}
use Rattle.answers.specs.Answer.{answer}
use Rattle.stream.specs.Event.{Event, message}
use Rattle.stream.specs.Written.{written, Each}
use Rattle.stream.proofs.Demands.{written_bytes}
use Rattle.uplink.specs.Packet.{lead_length, known, version_of, counted, takes, port_in, count_in, packet, packet_at}
use Rattle.uplink.proofs.AcceptedIsWritten.{tested, reads_packet}
use Rattle.uplink.proofs.Demands.{put}
use Rattle.ports.specs.Ports.{Seat, seats, sum_over, row_of}
use Rattle.ports.proofs.EveryRow.{facts_of, OnSeat}
use Rattle.ports.proofs.TableLaws.{sums_alike, sums_to_none}
use Rattle.listing_text.specs.Lines.{Shown, title_line}
use Rattle.listing.specs.Entries.{Entry, entries_on, lines_of, is_message, is_damage, messages_in, damages_in, last_lines}
use Rattle.listing.specs.Steps.{Packet, packet_in, packets_max}
use Rattle.listing_whole.specs.Listing.{Cut, before, by_packet, cut, found, joined, brings, entries, listing_of}
use Rattle.listing_whole.specs.Demands.{Packed, no_more, and_one, on_port, Messages, StoredDay}
use Rattle.listing_whole.proofs.FirstPacket.{carried_seat}
use Rattle.listing_whole.proofs.MachineFindsRule.{found_written}
use Rattle.listing_whole.proofs.CallsMakeListing.{cut_nil}
use Rattle.listing_whole.proofs.EntriesByPort.{by_port, OnSeats, among, by_ports, messages_are, damages_are, all_messages}

-- ---- packets as they were written are cut again

module _ (p : Packet) (rest : List ℕ) (taken : takes p.port (length p.piece) ≡ true) where
  abbrev s : List ℕ
  s = packet p.port p.piece ++ rest

  told : packet_at s ≡ answer 0 (p.port ∷ length p.piece ∷ (lead_length + length p.piece) ∷ [])
  told = reads_packet p.port p.piece rest taken

  behind : drop lead_length s ≡ p.piece ++ rest
  behind = refl

  there : (port_in s ≡ p.port) × (count_in s ≡ length p.piece)
  there = let t = tested s p.port (length p.piece) (lead_length + length p.piece) told in (t.port_there, t.count_there)

  same_packet : packet_in s ≡ p
  same_packet =
      ap₂ {C = Packet} (λ (n : ℕ) (l : List ℕ). record { port = n; piece = l }) there.0
      (ap (λ (n : ℕ). take n (drop lead_length s)) there.1 ∙ take-append_seam p.piece rest)

  left : drop (lead_length + count_in s) s ≡ rest
  left = ap (λ (n : ℕ). drop (lead_length + n) s) there.1 ∙ sym (drop-drop (length p.piece) lead_length s) ∙ drop-append_seam p.piece rest

  cut_one : (n : ℕ) (c : Cut) → cut n rest ≡ c → cut (suc n) s ≡ before p c
  unfolding by_packet
  cut_one n c e = rw (told, same_packet, left, e)

cut_packed : (ps : List Packet) (bytes : List ℕ) → Packed ps bytes → (n : ℕ) → length ps ≤ n → cut n bytes ≡ record { packets = ps; stop = none }
cut_packed ps bytes no_more n h = cut_nil n
cut_packed ps bytes (and_one p lent later w k wr told more) zero h = absurd (omega arith)
cut_packed ps bytes (and_one {ps = qs} {bytes = rest} p lent later w k wr told more) (suc n) h =
    let t = put p.port p.piece lent later w k wr told in
    ap (λ (l : List ℕ). cut (suc n) (l ++ rest)) t.front ∙ cut_one p rest t.taken n (record { packets = qs; stop = none }) (cut_packed qs rest more n (omega arith))

-- their entries are on the lines' ports
on_seats : (port : ℕ) → OnSeat port → (es : List (Event Shown)) (later : List Entry) → OnSeats later → OnSeats (entries_on port es ++ later)
on_seats port at [] later o = o
on_seats port at (e ∷ es) later o = (at, on_seats port at es later o)

packed_on_seats : (ps qs : List Packet) (bytes : List ℕ) → Packed qs bytes → OnSeats (entries ps qs)
packed_on_seats ps qs bytes no_more = tt
packed_on_seats ps qs bytes (and_one {ps = rs} {bytes = rest} p lent later w k wr told more) =
    let t = put p.port p.piece lent later w k wr told in
    let at = carried_seat p.port (both (known (version_of p.port)) (counted (length p.piece)) t.taken).0 in
    on_seats p.port at (brings ps p) (entries (ps ++ (p ∷ [])) rs) (packed_on_seats (ps ++ (p ∷ [])) rs rest more)

-- so no other port has one
on_no_other : (es : List Entry) → OnSeats es → (port : ℕ) → ((seat : Seat) → (row_of seat).port ≡ port → ⊥) → on_port port es ≡ []
on_no_other [] o port other = refl
on_no_other (e ∷ es) o port other = rw (ne_eqb e.port port (λ q. other o.0.0 (o.0.1 ∙ q))) (on_no_other es o.1 port other)

-- ---- each line's messages

module _ (ps : List Packet) (ms : Messages) (takes_all : (seat : Seat) → Each (row_of seat).family.Takes (ms seat))
    (sent : (seat : Seat) → joined (row_of seat).port ps ≡ written (row_of seat).family.wire (ms seat)) where
  on_seat : (seat : Seat) → on_port (row_of seat).port (entries [] ps) ≡ map (λ m. message ((row_of seat).show m)) (ms seat)
  on_seat seat =
      by_port (row_of seat).port ps (subst (λ (l : List ℕ). T (are_bytes l)) (sym (sent seat)) (written_bytes (row_of seat).family (facts_of seat).facts (ms seat) (takes_all seat)))
      ∙ ap (found (row_of seat).port) (sent seat)
      ∙ rw (facts_of seat).own_seat (found_written seat (ms seat) (takes_all seat))

pub stored_day : StoredDay
unfolding listing_of
stored_day ps input packed few ms takes_all sent =
    let es = entries [] ps in
    let each = on_seat ps ms takes_all sent in
    let on = packed_on_seats [] ps input packed in
    let counted : messages_in es ≡ sum_over seats (λ seat. length (ms seat)) =
    messages_are es ∙ by_ports is_message es on
    ∙ sums_alike seats (λ seat. among is_message (on_port (row_of seat).port es)) (λ seat. length (ms seat)) (λ seat. ap (among is_message) (each seat) ∙ (all_messages (row_of seat).show (ms seat)).0) in
    let whole : damages_in es ≡ 0 =
    damages_are es ∙ by_ports is_damage es on
    ∙ sums_to_none seats (λ seat. among is_damage (on_port (row_of seat).port es)) (λ seat. ap (among is_damage) (each seat) ∙ (all_messages (row_of seat).show (ms seat)).1) in
    record {
      listed = es;
      each = each;
      only = on_no_other es on;
      messages = counted;
      damages = whole;
      text =
          ap (λ (k : Cut). title_line ++ (lines_of (entries [] k.packets) ++ last_lines k.stop (messages_in (entries [] k.packets)) (damages_in (entries [] k.packets)))) (cut_packed ps input packed packets_max few);
    }
