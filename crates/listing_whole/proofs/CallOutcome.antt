-- What a call makes, by what stands at the front of the input.
-- Assumes nothing.
use Prim.Native.Nat.{ℕ, ◌+◌, ◌*◌, ◌≤◌, ◌<◌}
use mathlib.Core.Path.{◌≡◌, refl, ap, ◌∙◌}
use mathlib.Core.Bool.{Bool, true, false, cond, ◌&&◌}
use mathlib.Core.Option.{none, some}
use mathlib.Core.List.{List, [], ◌∷◌, ◌++◌, append-nil}
use lib.ListN.{length}
use lib.Dec.{eqb, leb}
use borrow.Author.Tests.{eqb-true, eqb-false, leb-true}
use native.Mathlib.Omega.{arith}
use Rattle.numbers.proofs.TestLaws.{both}
use Rattle.answers.specs.Answer.{number, need}
use Rattle.answers.specs.Refusal.{number as refusalNumber}
use Rattle.answers.specs.declared.Refusal.{Refusal}
use Rattle.answers.specs.declared.Refusal.TheVariants.{NoRoom, BytesMissing, Spoilt, TooManyPackets}
use Rattle.uplink.specs.Packet.{lead_length, piece_max, port_in, count_in, packet_at}
use Rattle.ports.proofs.EveryRow.{OnSeat}
use Rattle.listing.specs.Steps.{packet_in, packets_max}
use Rattle.listing.specs.Steps.{fed, readable, Made, unmoved, wants_more, ends, takes, taking, no_packet, at_end, by_packet, going, in_range, room_least, made}
use Rattle.listing.specs.declared.Listing.{Listing}
use Rattle.listing_whole.proofs.FirstPacket.{Kind, short, wrong, packet, kind}

-- a packet at the front, whatever follows
pub record Whole (s : List ℕ) : Type 0 where
  pub long : lead_length ≤ length s
  pub on_seat : OnSeat (port_in s)
  pub count_least : 1 ≤ count_in s
  pub count_most : count_in s ≤ piece_max
  pub there : lead_length + count_in s ≤ length s
  pub accepted : (rest : List ℕ) → number (packet_at (s ++ rest)) ≡ 0

pub data Outcome (l : Listing) (s : List ℕ) (ended : Bool) : Made → Type 0 where
  refuses : (why : Refusal) → Outcome l s ended (unmoved why l)
  wants : ended ≡ false → length s < lead_length + piece_max → Outcome l s ended (wants_more l)
  all_read : s ≡ [] → ended ≡ true → Outcome l s ended (ends l none)
  too_many : 0 < length s → l.packets ≡ packets_max → Outcome l s ended (ends l (some (refusalNumber TooManyPackets)))
  stops : (n : ℕ) → 0 < length s → eqb l.packets packets_max ≡ false → eqb n 0 ≡ false
      → ((rest : List ℕ) → (ended ≡ true → rest ≡ []) → number (packet_at (s ++ rest)) ≡ n) → Outcome l s ended (ends l (some n))
  packets : eqb l.packets packets_max ≡ false → l.packets < packets_max → Whole s → readable (port_in s) l.ports ≡ true → Outcome l s ended (takes l (packet_in s) (fed (packet_in s) l.ports))

module _ (l : Listing) (s : List ℕ) (within : l.packets ≤ packets_max) where
  by_first : (ended : Bool) → 0 < length s → eqb l.packets packets_max ≡ false → Kind s → Outcome l s ended (by_packet l s ended)
  unfolding by_packet taking no_packet
  by_first true some_left few (short n h) = rw n (stops (refusalNumber BytesMissing) some_left few refl (λ rest all. ap (λ (r : List ℕ). number (packet_at (s ++ r))) (all refl) ∙ rw append-nil n))
  by_first false some_left few (short n h) = rw n (wants refl h)
  by_first ended some_left few (wrong why a b n m) = rw (n, a, b) (stops (refusalNumber why) some_left few a (λ rest all. m rest))
  by_first ended some_left few (packet a p c d t n m) = rw n (go (readable (port_in s) l.ports) refl)
    where
      go : (t : Bool) → readable (port_in s) l.ports ≡ t → Outcome l s ended (cond t (takes l (packet_in s) (fed (packet_in s) l.ports)) (unmoved Spoilt l))
      go true e = packets few (omega (arith, eqb-false l.packets packets_max few)) (record { long = a; on_seat = p; count_least = c; count_most = d; there = t; accepted = m }) e
      go false e = refuses Spoilt

by_packets : (l : Listing) → l.packets ≤ packets_max → (b : ℕ) (bs : List ℕ) (ended t : Bool) → eqb l.packets packets_max ≡ t
    → Outcome l (b ∷ bs) ended (cond t (ends l (some (refusalNumber TooManyPackets))) (by_packet l (b ∷ bs) ended))
by_packets l within b bs ended true e = too_many (omega arith) (eqb-true l.packets packets_max e)
by_packets l within b bs ended false e = by_first l (b ∷ bs) within ended (omega arith) e (kind (b ∷ bs))

by_input : (l : Listing) → l.packets ≤ packets_max → (s : List ℕ) (ended : Bool) → Outcome l s ended (going l s ended)
unfolding going at_end
by_input l within [] true = all_read refl refl
by_input l within [] false = wants refl (omega arith)
by_input l within (b ∷ bs) ended = by_packets l within b bs ended (eqb l.packets packets_max) refl

within_range : (l : Listing) → in_range l ≡ true → l.packets ≤ packets_max
unfolding in_range
within_range l e = leb-true l.packets packets_max (both (leb l.packets packets_max) (leb l.messages (piece_max * l.packets) && leb l.damages (piece_max * l.packets)) e).0

pub outcome : (l : Listing) (s : List ℕ) (ended : Bool) (room : ℕ) → Outcome l s ended (made l s ended room)
unfolding made
outcome l s ended room = go (in_range l) (leb room_least room) refl
  where
    go : (t u : Bool) → in_range l ≡ t → Outcome l s ended (need t (unmoved Spoilt l) (need u (unmoved NoRoom l) (going l s ended)))
    go true false e = refuses NoRoom
    go true true e = by_input l (within_range l e) s ended
    go false u e = refuses Spoilt
