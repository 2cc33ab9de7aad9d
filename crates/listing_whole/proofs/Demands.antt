-- What is demanded of a listing, each under its name.
-- Assumes nothing.
use Prim.Native.Nat.{ℕ, ◌+◌, ◌≤◌, ◌<◌}
use mathlib.Core.Path.{◌≡◌, refl, sym, ap, ◌∙◌, subst}
use mathlib.Core.Bool.{Bool, true, false, cond}
use mathlib.Core.Option.{Option, some}
use mathlib.Core.List.{List, [], ◌∷◌, ◌++◌}
use lib.ListN.{length, take, drop, length-take, length-drop}
use lib.Dec.{eqb}
use borrow.Author.Tests.{le-leb}
use native.Mathlib.Omega.{arith}
use Rattle.numbers.proofs.Alike.{zero_is_one}
use Rattle.answers.specs.Refusal.{number as refusalNumber}
use Rattle.answers.specs.declared.Refusal.{Refusal}
use Rattle.answers.specs.declared.Refusal.TheVariants.{TooManyPackets}
use Rattle.ports.specs.Ports.{Seat, row_of}
use Rattle.ports.proofs.EveryRow.{facts_of, OnSeat}
use Rattle.ports.proofs.TableLaws.{seat_at_lem}
use Rattle.uplink.specs.Packet.{lead_length, piece_max, port_in, count_in}
use Rattle.listing.specs.Steps.{packets_max}
use Rattle.listing.specs.Steps.{IsFresh, readable_on, readable, Made, ends, taking, no_packet, at_end, by_packet, going, in_range, room_least, made, Sound, IsStep}
use Rattle.listing_whole.specs.Demands as Specs
use Rattle.listing_whole.specs.Demands.{Reached, at_first, by_call}
use Rattle.listing.specs.declared.Listing.{Listing}
use Rattle.listing.specs.declared.Listed.{Listed}
use Rattle.listing.specs.declared.Heard.{Heard}
use Rattle.listing.specs.declared.Heard.TheVariants.{More, Packet as Took, End, Refused}
use Rattle.listing_whole.proofs.FirstPacket.{Kind, short, wrong, packet, kind}
use Rattle.listing_whole.proofs.CallOutcome.{Outcome, refuses, wants, all_read, too_many, stops, packets, outcome}
use Rattle.listing_whole.proofs.CallsMakeListing as Makes
use Rattle.listing_whole.proofs.EntriesByPort as Ports
use Rattle.listing_whole.proofs.StoredDayIsListed as Day

pub makes : Specs.Makes
makes = Makes.makes

pub by_port : Specs.ByPort
by_port = Ports.by_port

pub cuts_do_not_matter : Specs.CutsDoNotMatter
cuts_do_not_matter = Ports.cuts_do_not_matter

pub stored_day : Specs.StoredDay
stored_day = Day.stored_day

-- ---- what a call came to

-- what is known of a call by what is heard of it
abbrev Known : Listing → List ℕ → Bool → Made → Heard → Type 0
Known l s ended m More = (ended ≡ false) × (length s < lead_length + piece_max) × (m.listing ≡ l) × (m.used ≡ 0) × (m.text ≡ [])
Known l s ended m Took = (lead_length < m.used) × (m.used ≤ length s) × (l.packets < packets_max) × (m.listing.packets ≡ l.packets + 1)
Known l s ended m End = (m.used ≡ 0) × (m.listing ≡ l)
Known l s ended m (Refused why) = (m.listing ≡ l) × (m.used ≡ 0) × (m.text ≡ [])

known : (l : Listing) (s : List ℕ) (ended : Bool) (m : Made) → Outcome l s ended m → Known l s ended m m.heard
known l s ended m (refuses why) = (refl, refl, refl)
known l s ended m (wants e h) = (e, h, refl, refl, refl)
known l s ended m (all_read n e) = (refl, refl)
known l s ended m (too_many n e) = (refl, refl)
known l s ended m (stops n a b c d) = (refl, refl)
known l s ended m (packets a b w e) =
    let n : length (take (count_in s) (drop lead_length s)) ≡ count_in s = simp (length-take, length-drop) (omega (arith, w.there)) in
    (omega (arith, w.count_least), omega (arith, w.there), b, refl)

module _ (l : Listing) (input lent later : List ℕ) (ended : Bool) (r : Listed) (st : IsStep l input ended lent r later) where
  abbrev m : Made
  m = made l input ended (length lent)

  heard_as : (h : Heard) → r.heard ≡ h → Known l input ended m h
  heard_as h e = subst (Known l input ended m) (sym (ap (λ (v : Listed). v.heard) st.0) ∙ e) (known l input ended m (outcome l input ended (length lent)))

  used_is : r.used ≡ m.used
  used_is = ap (λ (v : Listed). v.used) st.0

  took_is : r.heard ≡ Took → (lead_length < r.used) × (r.used ≤ length input) × (l.packets < packets_max) × (r.listing.packets ≡ l.packets + 1)
  took_is h =
      let k = heard_as Took h in
      (omega (arith, used_is, k.0), omega (arith, used_is, k.1), k.2, ap (λ (v : Listed). v.listing.packets) st.0 ∙ k.3)

  more_is : r.heard ≡ More → (ended ≡ false) × (length input < lead_length + piece_max) × (r.listing ≡ l) × (r.used ≡ 0) × (r.wrote ≡ 0)
  more_is h =
      let k = heard_as More h in
      (k.0, k.1, ap (λ (v : Listed). v.listing) st.0 ∙ k.2, used_is ∙ k.3, ap (λ (v : Listed). v.wrote) st.0 ∙ ap length k.4)

  end_is : r.heard ≡ End → (r.used ≡ 0) × (r.listing ≡ l)
  end_is h = let k = heard_as End h in (used_is ∙ k.0, ap (λ (v : Listed). v.listing) st.0 ∙ k.1)

pub gets_on : Specs.GetsOn
gets_on l input lent later ended r st = (more_is l input lent later ended r st, took_is l input lent later ended r st, end_is l input lent later ended r st)

pub kept : Specs.Kept
kept l input lent later ended r why st h =
    let k = heard_as l input lent later ended r st (Refused why) h in (
      ap (λ (v : Listed). v.listing) st.0 ∙ k.0,
      used_is l input lent later ended r st ∙ k.1,
      ap (λ (v : Listed). v.wrote) st.0 ∙ ap length k.2,
      st.1 ∙ ap (λ (t : List ℕ). t ++ drop (length t) lent) k.2,
    )

-- ---- a sound listing is not refused

module _ (l : Listing) (sound : Sound l) (why : Refusal) where
  readable_at : (port : ℕ) → OnSeat port → readable port l.ports ≡ true
  readable_at port at = ap (λ (on : Option Seat). readable_on on l.ports) (seat_at_lem at.0 (sym at.1)) ∙ sound.readers at.0

  packet_not : (s : List ℕ) (ended : Bool) → Kind s → (by_packet l s ended).heard ≡ Refused why → ⊥
  unfolding by_packet taking no_packet
  packet_not s true (short n h) = rw n (λ e. zero_is_one cc)
  packet_not s false (short n h) = rw n (λ e. zero_is_one cc)
  packet_not s ended (wrong w a b n m) = rw (n, a, b) (λ e. zero_is_one cc)
  packet_not s ended (packet a p c d t n m) =
      rw (n, readable_at (port_in s) p) (λ e. zero_is_one cc)

  going_not : (s : List ℕ) (ended : Bool) → (going l s ended).heard ≡ Refused why → ⊥
  unfolding going at_end
  going_not [] true = λ e. zero_is_one cc
  going_not [] false = λ e. zero_is_one cc
  going_not (b ∷ bs) ended = go (eqb l.packets packets_max)
    where
      go : (t : Bool) → (cond t (ends l (some (refusalNumber TooManyPackets))) (by_packet l (b ∷ bs) ended)).heard ≡ Refused why → ⊥
      go true e = zero_is_one cc
      go false e = packet_not (b ∷ bs) ended (kind (b ∷ bs)) e

  pub made_not : (s : List ℕ) (ended : Bool) (room : ℕ) → room_least ≤ room → (made l s ended room).heard ≡ Refused why → ⊥
  unfolding made
  made_not s ended room h = rw (sound.counts, le-leb room_least room h) (going_not s ended)

pub fresh_sound : (l : Listing) → IsFresh l → Sound l
unfolding in_range
fresh_sound l e = record {
  counts = rw (e.packets, e.messages, e.damages) refl;
  readers = λ at. ap (row_of at).in_range (e.readers at) ∙ (facts_of at).fresh_in_range;
}

reached_sound : (l : Listing) → Reached l → Sound l
reached_sound l (at_first e) = fresh_sound l e
reached_sound l (by_call {l = k} r input lent later ended s st) = st.2 (reached_sound k r)

pub never_refused : Specs.NeverRefused
never_refused l reached input lent later ended r st room why h =
    made_not l (reached_sound l reached) why input ended (length lent) room (sym (ap (λ (v : Listed). v.heard) st.0) ∙ h)
