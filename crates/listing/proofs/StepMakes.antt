-- What the parts of a call come to, and which of them a call is.
-- Assumes nothing.
use Prim.Native.Nat.{ℕ, ◌+◌, ◌*◌, ◌-◌, ◌≤◌, ◌<◌}
use mathlib.Core.Path.{◌≡◌, refl, sym, ap, ◌∙◌, subst}
use mathlib.Core.Bool.{Bool, true, false, ◌&&◌}
use mathlib.Core.Logic.{◌⊎◌, inl, inr}
use mathlib.Core.Option.{some}
use mathlib.Core.List.{List, [], ◌∷◌, ◌++◌, map, append-nil, append_assoc}
use lib.ListN.{length, take, drop, length-append, length-drop, drop_of_length-le}
use lib.Seq.{length-take-le, take_all, take_at, drop_at, drop-drop}
use lib.Dec.{eqb, leb}
use borrow.Author.Tests.{leb-true, le-leb, lt-leb, eq-eqb, ne_eqb, eqb-true}
use borrow.Rule.Slice.PartMut.{put_mid}
use mir.Val.{Fits}
use mir.Syntax.{w64}
use native.Mathlib.Nat.{le_refl}
use native.Mathlib.Omega.{arith}
use Rattle.std.specs.Prelude.{Result, Ok, Err}
use Rattle.std.specs.declared.option.Option.{Option}
use Rattle.std.specs.declared.option.Option.TheVariants.{None, Some}
use Rattle.numbers.proofs.Alike.{zero_is_one}
use Rattle.numbers.proofs.TestLaws.{both}
use Rattle.answers.specs.Answer.{number}
use Rattle.answers.specs.Refusal.{number as refusalNumber}
use Rattle.answers.specs.declared.Refusal.{Refusal}
use Rattle.answers.specs.declared.Refusal.TheVariants.{NoRoom, BytesMissing, Spoilt, TooManyPackets}
use Rattle.answers.proofs.NumbersHaveCases.{refusal_above, refusal_alike}
use Rattle.stream.specs.Pieces.{calls}
use Rattle.uplink.specs.Packet.{lead_length, piece_max, count_in, packet_at, IsRead}
use Rattle.uplink.specs.Demands.{Within}
use Rattle.uplink.proofs.AcceptedIsWritten.{tested}
use Rattle.ports.specs.Ports.{Seat, row_of}
use Rattle.ports.specs.declared.Ports.{Ports}
use Rattle.ports.proofs.EveryRow.{facts_of}
use Rattle.ports.proofs.TableLaws.{same_seat}
use Rattle.listing_text.specs.Lines.{end_line}
use Rattle.listing.specs.Entries.{show_event, entries_on, last_lines}
use Rattle.listing.specs.Steps.{Packet, packet_in, packets_max}
use Rattle.listing.specs.Steps.{Fed, readable_on, Made, unmoved, wants_more, ends, takes, taking, no_packet, at_end, by_packet, going, in_range, room_least, made, Sound, listed, HandsBack}
use Rattle.listing.specs.Inside.{Put, drained as drained_of, Drains, DrainsOn, stop_text, stop_of, took}
use Rattle.listing.specs.declared.drain.Drained.{Drained}
use Rattle.listing.specs.declared.Listing.{Listing}
use Rattle.listing.specs.declared.Listed.{Listed}

-- ---- counts in range

pub in_counts : (l : Listing) → in_range l ≡ true → (l.packets ≤ packets_max) × (l.messages ≤ piece_max * l.packets) × (l.damages ≤ piece_max * l.packets)
unfolding in_range
in_counts l e =
    let one = both (leb l.packets packets_max) (leb l.messages (piece_max * l.packets) && leb l.damages (piece_max * l.packets)) e in
    let two = both (leb l.messages (piece_max * l.packets)) (leb l.damages (piece_max * l.packets)) one.1 in
    (leb-true l.packets packets_max one.0, leb-true l.messages (piece_max * l.packets) two.0, leb-true l.damages (piece_max * l.packets) two.1)

pub counts_in : (l : Listing) → l.packets ≤ packets_max → l.messages ≤ piece_max * l.packets → l.damages ≤ piece_max * l.packets → in_range l ≡ true
unfolding in_range
counts_in l p m d = rw (le-leb l.packets packets_max p, le-leb l.messages (piece_max * l.packets) m, le-leb l.damages (piece_max * l.packets) d)

-- a listing that can take a packet whose piece has so many bytes, with so much room
pub record CanTake (l : Listing) (piece room : ℕ) : Type 0 where
  pub counts : in_range l ≡ true
  pub packets : l.packets < packets_max
  pub some : 0 < piece
  pub most : piece ≤ piece_max
  pub lent : room_least ≤ room

abbrev pub packet : ℕ → List ℕ → Packet
packet port piece = record { port = port; piece = piece }

-- one packet more, and no count is beyond its type
pub fits : (l : Listing) {piece room messages damages : ℕ} → CanTake l piece room → (messages ≤ piece_max) × (damages ≤ piece_max)
    → Fits w64 (l.messages + messages) × Fits w64 (l.damages + damages)
fits l can d =
    let before = in_counts l can.counts in
    (omega (arith, before.1, d.0, can.packets), omega (arith, before.2, d.1, can.packets))

-- ---- text

-- text after text
pub put_after : (a b lent mid m : List ℕ) (p q : ℕ) → Put a lent p mid → Put b (take (length mid - p) (drop p mid)) q m
    → Put (a ++ b) lent (p + q) (put_mid p (length mid - p) mid m)
put_after a b lent mid m p q x y =
    let whole : take (length mid - p) (drop p mid) ≡ drop p mid = take_all (length mid - p) (drop p mid) (simp length-drop (le_refl _)) in
    let behind : drop (length mid - p) (drop p mid) ≡ [] = drop_of_length-le (drop p mid) {i = length mid - p} (simp length-drop (le_refl _)) in
    let put : put_mid p (length mid - p) mid m ≡ take p mid ++ (b ++ drop (length b) (drop p mid)) = simp (behind, append-nil, y.1, whole) in
    let first : take p mid ≡ a = ap (take p) x.1 ∙ take_at a (drop (length a) lent) p (sym x.0) in
    let rest : drop p mid ≡ drop (length a) lent = ap (drop p) x.1 ∙ drop_at a (drop (length a) lent) p (sym x.0) in
    (rw (x.0, y.0) (sym (length-append a b)), put ∙ simp (first, rest, append_assoc, drop-drop, length-append))

pub last_lines_lem : (stop : Option Refusal) (messages damages : ℕ) → last_lines (stop_of stop) messages damages ≡ stop_text stop ++ end_line messages damages
last_lines_lem None messages damages = refl
last_lines_lem (Some why) messages damages = refl

-- ---- ends of a call

pub same_made : (l : Listing) (lent later : List ℕ) (r : Listed) {m n : Made} → m ≡ n → HandsBack l m lent r later → HandsBack l n lent r later
same_made l lent later r {m} {n} e x = subst (λ (k : Made). HandsBack l k lent r later) e x

-- nothing is written, and the listing is as it was
pub nothing : (l : Listing) (m : Made) (lent : List ℕ) (r : Listed) → m.listing ≡ l → m.text ≡ [] → r ≡ listed m → HandsBack l m lent r lent
nothing l m lent r a b e = (e, rw b, λ s. subst Sound (sym (ap (λ (x : Listed). x.listing) e ∙ a)) s)

-- ---- the reader of a seat among the ports

-- one in range put there, and all that were in range are
pub still_readable : (at other : Seat) (ps : Ports) (s : (row_of at).family.State) → (row_of at).in_range s ≡ true
    → readable_on (some other) ps ≡ true → readable_on (some other) ((row_of at).put ps s) ≡ true
still_readable at other ps s h x = go (same_seat at other)
  where
    go : (at ≡ other) ⊎ (at ≡ other → ⊥) → readable_on (some other) ((row_of at).put ps s) ≡ true
    go (inl e) = subst (λ (l : Seat). readable_on (some l) ((row_of at).put ps s) ≡ true) e (ap (row_of at).in_range ((facts_of at).got ps s) ∙ h)
    go (inr n) = ap (row_of other).in_range ((facts_of at).others other ps s n) ∙ x

pub drained_few : {ps later : Ports} {port : ℕ} {piece lent text : List ℕ} {r : Result Drained Refusal} {d : Drained} → DrainsOn ps port piece lent r later text → r ≡ Ok d
    → (d.messages ≤ piece_max) × (d.damages ≤ piece_max)
drained_few on e = on.4.few _ e

-- a reader out of its range is refused with 18; one in its range is not
err_not_ok : {A : Type 0} {d : Drained} {why : Refusal} → ◌≡◌ {A = Result Drained Refusal} (Ok d) (Err why) → A
err_not_ok e = zero_is_one cc

module _ (l : Listing) (port : ℕ) (piece lent later : List ℕ) (ps : Ports) (drained : Result Drained Refusal) (r : Listed) (on : DrainsOn l.ports port piece lent drained ps later) where
  abbrev at : Seat
  at = on.0

  abbrev reader : (row_of at).family.State
  reader = on.1

  abbrev d : Drains at ((row_of at).get l.ports) (row_of at).port piece lent drained reader later
  d = on.4

  abbrev p : Packet
  p = packet port piece

  abbrev own : Packet
  own = packet (row_of at).port piece

  same_taking : taking l own ≡ taking l p
  same_taking = ap (λ (n : ℕ). taking l (packet n piece)) (sym on.2)

  -- the readers afterwards, and nothing counted
  abbrev put_back : Listing
  put_back = record { ports = ps; packets = l.packets; messages = l.messages; damages = l.damages }

  out_of_range_or_in : (row_of at).in_range ((row_of at).get l.ports) ≡ true ⊎ (row_of at).in_range ((row_of at).get l.ports) ≡ false
  out_of_range_or_in = decided ((row_of at).in_range ((row_of at).get l.ports)) refl
    where
      decided : (t : Bool) → (row_of at).in_range ((row_of at).get l.ports) ≡ t → (row_of at).in_range ((row_of at).get l.ports) ≡ true ⊎ (row_of at).in_range ((row_of at).get l.ports) ≡ false
      decided true e = inl e
      decided false e = inr e

  -- out of its range: it is as it was
  pub drain_refused : (why : Refusal) → drained ≡ Err why → r ≡ listed (unmoved why put_back) → HandsBack l (taking l p) lent r later
  unfolding taking
  drain_refused why q e = go out_of_range_or_in
    where
      go : (row_of at).in_range ((row_of at).get l.ports) ≡ true ⊎ (row_of at).in_range ((row_of at).get l.ports) ≡ false → HandsBack l (taking l p) lent r later
      go (inl inside) = err_not_ok (sym (d.reads inside).0 ∙ q)
      go (inr out) =
          let left = d.refuses out in
          let spoilt : why ≡ Spoilt = wrong (sym q ∙ left.0) in
          let is : unmoved Spoilt l ≡ taking l own = rw ((facts_of at).own_seat, out) in
          let same : ps ≡ l.ports = on.3 ∙ ap ((row_of at).put l.ports) left.1 ∙ (facts_of at).puts_own l.ports in
          let told-so : r ≡ listed (unmoved Spoilt l) =
          e ∙ ap (λ (w : Refusal). listed (unmoved w put_back)) spoilt
          ∙ ap (λ (x : Ports). listed (unmoved Spoilt (record { ports = x; packets = l.packets; messages = l.messages; damages = l.damages }))) same in
          rw left.2 (same_made l lent lent r (is ∙ same_taking) (nothing l (unmoved Spoilt l) lent r refl refl told-so))
        where
          wrong : ◌≡◌ {A = Result Drained Refusal} (Err why) (Err Spoilt) → why ≡ Spoilt
          wrong x = cc

  -- in its range
  pub drain_taken : (n : Drained) → drained ≡ Ok n → CanTake l (length piece) (length lent)
      → r ≡ took ps (l.packets + 1) (l.messages + n.messages) (l.damages + n.damages) (lead_length + length piece) n.wrote
      → HandsBack l (taking l p) lent r later
  unfolding taking
  drain_taken n q can e = go out_of_range_or_in
    where
      few : (n.messages ≤ piece_max) × (n.damages ≤ piece_max)
      few = d.few n q

      go : (row_of at).in_range ((row_of at).get l.ports) ≡ true ⊎ (row_of at).in_range ((row_of at).get l.ports) ≡ false → HandsBack l (taking l p) lent r later
      go (inr out) = err_not_ok (sym q ∙ (d.refuses out).0)
      go (inl inside) =
          let ran = calls (row_of at).next (length piece) ((row_of at).get l.ports) piece in
          let es = entries_on (row_of at).port (map (show_event (row_of at).show) ran.events) in
          let fed-on : Fed = record { ports = (row_of at).put l.ports ran.state; events = map (show_event (row_of at).show) ran.events } in
          let is : takes l own fed-on ≡ taking l own = rw ((facts_of at).own_seat, inside) in
          let x = d.reads inside in
          let counts : n ≡ drained_of es = same_count (sym q ∙ x.0) in
          let moved : ps ≡ (row_of at).put l.ports ran.state = on.3 ∙ ap ((row_of at).put l.ports) x.1 in
          let told-so : r ≡ listed (takes l own fed-on) =
          e ∙ ap (λ (q : Ports). took q (l.packets + 1) (l.messages + n.messages) (l.damages + n.damages) (lead_length + length piece) n.wrote) moved
          ∙ ap (λ (m : Drained). took ((row_of at).put l.ports ran.state) (l.packets + 1) (l.messages + m.messages) (l.damages + m.damages) (lead_length + length piece) m.wrote) counts in
          let before = in_counts l can.counts in
          let after : Listing = record { ports = ps; packets = l.packets + 1; messages = l.messages + n.messages; damages = l.damages + n.damages } in
          let in-range : in_range after ≡ true =
          counts_in after (omega (arith, can.packets))
          (omega (arith, before.1, few.0)) (omega (arith, before.2, few.1)) in
          let sound : Sound l → Sound after = λ s. record {
            counts = in-range;
            readers = λ other. subst (λ (q : Ports). readable_on (some other) q ≡ true) (sym on.3) (still_readable at other l.ports reader x.3 (s.readers other));
          } in
          same_made l lent later r (is ∙ same_taking) (told-so, x.2, λ s. subst Sound (sym (ap (λ (y : Listed). y.listing) e)) (sound s))
        where
          same_count : {a b : Drained} → ◌≡◌ {A = Result Drained Refusal} (Ok a) (Ok b) → a ≡ b
          same_count x = cc

-- ---- a packet that is refused

module _ (l : Listing) where
  pub no_packet_more : (why : Refusal) (ended : Bool) → why ≡ BytesMissing → ended ≡ false → wants_more l ≡ no_packet l (refusalNumber why) ended
  unfolding no_packet
  no_packet_more why ended w e = rw (w, e)

  pub no_packet_over : (why : Refusal) (ended : Bool) → (why ≡ BytesMissing → ended ≡ true) → ends l (some (refusalNumber why)) ≡ no_packet l (refusalNumber why) ended
  unfolding no_packet
  no_packet_over why ended h = decided (eqb (refusalNumber why) (refusalNumber BytesMissing)) refl
    where
      decided : (t : Bool) → eqb (refusalNumber why) (refusalNumber BytesMissing) ≡ t → ends l (some (refusalNumber why)) ≡ no_packet l (refusalNumber why) ended
      decided true e = rw (e, h (refusal_alike why BytesMissing (eqb-true (refusalNumber why) (refusalNumber BytesMissing) e)))
      decided false e = rw e

-- ---- a packet that is there

pub line_long : (s : List ℕ) (port count used : ℕ) → Within s port count used → length (take (used - lead_length) (drop lead_length s)) ≡ count
line_long s port count used w =
    let u : used - lead_length ≡ count = omega (arith, w.uses) in
    rw u (length-take-le count (drop lead_length s) (simp length-drop (omega (arith, w.uses, w.there))))

-- ---- which of them a call is

going_none : (l : Listing) (s : List ℕ) (ended : Bool) → length s ≡ 0 → at_end l ended ≡ going l s ended
unfolding going
going_none l [] ended h = refl
going_none l (b ∷ bs) ended h = absurd (omega arith)

going_full : (l : Listing) (s : List ℕ) (ended : Bool) → (length s ≡ 0 → ⊥) → l.packets ≡ packets_max → ends l (some (refusalNumber TooManyPackets)) ≡ going l s ended
unfolding going
going_full l [] ended h e = absurd (h refl)
going_full l (b ∷ bs) ended h e = rw (eq-eqb l.packets packets_max e)

going_on : (l : Listing) (s : List ℕ) (ended : Bool) → (length s ≡ 0 → ⊥) → (l.packets ≡ packets_max → ⊥) → by_packet l s ended ≡ going l s ended
unfolding going
going_on l [] ended h e = absurd (h refl)
going_on l (b ∷ bs) ended h e = rw (ne_eqb l.packets packets_max e)

module _ (l : Listing) (s : List ℕ) (ended : Bool) (room : ℕ) where
  pub out_of_range : in_range l ≡ false → unmoved Spoilt l ≡ made l s ended room
  unfolding made
  out_of_range e = rw e

  pub no_room : in_range l ≡ true → room < room_least → unmoved NoRoom l ≡ made l s ended room
  unfolding made
  no_room e h = rw (e, lt-leb room_least room h)

  goes : in_range l ≡ true → room_least ≤ room → going l s ended ≡ made l s ended room
  unfolding made
  goes e h = rw (e, le-leb room_least room h)

  pub no_input : in_range l ≡ true → room_least ≤ room → length s ≡ 0 → at_end l ended ≡ made l s ended room
  no_input e h n = going_none l s ended n ∙ goes e h

  pub too_many : in_range l ≡ true → room_least ≤ room → (length s ≡ 0 → ⊥) → l.packets ≡ packets_max → ends l (some (refusalNumber TooManyPackets)) ≡ made l s ended room
  too_many e h n p = going_full l s ended n p ∙ goes e h

  module _ (e : in_range l ≡ true) (h : room_least ≤ room) (n : length s ≡ 0 → ⊥) (p : l.packets ≡ packets_max → ⊥) where
    pub one_packet : (port count used : ℕ) → IsRead s (Ok (record { port = port; count = count; used = used })) → taking l (packet port (take (used - lead_length) (drop lead_length s))) ≡ made l s ended room
    unfolding by_packet
    one_packet port count used q =
        let t = tested s port count used (sym q) in
        let zero : number (packet_at s) ≡ 0 = ap number (sym q) in
        let long : used - lead_length ≡ count_in s = omega (arith, t.uses, t.count_there) in
        let is : packet port (take (used - lead_length) (drop lead_length s)) ≡ packet_in s = rw (long, ← t.port_there) in
        let by : taking l (packet_in s) ≡ by_packet l s ended = rw zero in
        ap (taking l) is ∙ by ∙ going_on l s ended n p ∙ goes e h

    pub refused_packet : (why : Refusal) → IsRead s (Err why) → no_packet l (refusalNumber why) ended ≡ made l s ended room
    unfolding by_packet
    refused_packet why q =
        let is : number (packet_at s) ≡ refusalNumber why = ap number (sym q) in
        let by : no_packet l (refusalNumber why) ended ≡ by_packet l s ended = rw (is, ne_eqb (refusalNumber why) 0 (λ z. omega (arith, refusal_above why))) in
        by ∙ going_on l s ended n p ∙ goes e h
