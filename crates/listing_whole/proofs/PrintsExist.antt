-- Every call has a result, and every input is printed to its end.
-- Assumes nothing.
use Prim.Native.Nat.{ℕ, zero, suc, ◌+◌, ◌≤◌, ◌<◌}
use mathlib.Core.Path.{◌≡◌, refl, sym, ap, ◌∙◌, subst}
use mathlib.Core.Bool.{Bool, true}
use mathlib.Core.Option.{Option, none, some}
use mathlib.Core.List.{List, [], ◌∷◌, ◌++◌, map, append-nil}
use lib.ListN.{length, take, drop, replicate, length-replicate, length-take, length-drop}
use lib.Dec.{T}
use lib.Pow.{are_bytes}
use native.Mathlib.Omega.{arith}
use Rattle.numbers.proofs.Alike.{zero_is_one}
use Rattle.stream.specs.Event.{Event, message, damage}
use Rattle.stream.specs.Pieces.{Moved, Ran, before, settle, scan, calls}
use Rattle.stream.specs.Call.{Seen, lent_least, answered}
use Rattle.stream.specs.Family.{Family}
use Rattle.stream.proofs.BytesOfParts.{bytes_cons, bytes_head, bytes_tail, bytes_take, bytes_drop}
use Rattle.stream.proofs.CallsComeTo.{after, events, calls_is}
use Rattle.stream.proofs.PromiseOfStep.{in_room}
use Rattle.stream.proofs.FamilyFacts.{Facts}
use Rattle.ports.specs.Ports.{Seat, row_of}
use Rattle.ports.proofs.EveryRow.{facts_of}
use Rattle.ports.proofs.TableLaws.{seat_at_lem}
use Rattle.uplink.specs.Packet.{lead_length, piece_max, port_in, count_in}
use Rattle.listing_text.specs.Lines.{Shown}
use Rattle.listing.specs.Entries.{show_event, entries_on, messages_in, damages_in}
use Rattle.listing.specs.Steps.{packet_in, packets_max, Fed, fed_on, fed, Made, takes, room_least, made, Sound, listed}
use Rattle.listing.specs.declared.Listing.{Listing}
use Rattle.listing.proofs.StepMakes.{in_counts, counts_in, still_readable}
use Rattle.listing_whole.specs.Demands as Specs
use Rattle.listing_whole.specs.Demands.{Has, Result, Print, Answers, Printed}
use Rattle.listing_whole.proofs.CallOutcome.{Whole, Outcome, refuses, wants, all_read, too_many, stops, packets, outcome}
use Rattle.listing_whole.proofs.Demands.{made_not, fresh_sound}

-- ---- the reader of a seat stays in range, on a piece of bytes

module _ (F : Family) (facts : Facts F) where
  scan_ranged : (s : F.State) (bs : List ℕ) → facts.in_range s ≡ true → T (are_bytes bs) → facts.in_range (scan facts.next s bs).state ≡ true
  scan_ranged s bs i g =
      let lent : List ℕ = replicate lent_least 0 in
      let room : lent_least ≤ length lent = omega (arith, length-replicate {A = ℕ} lent_least 0) in
      let has = facts.results s bs lent i g room in
      let seen : F.seen has.result has.later ≡ answered (scan facts.next s bs) = facts.steps s bs lent has.later has.result has.steps ∙ in_room facts.next facts.in_range s bs lent i room in
      sym (ap (λ (v : Seen F.State F.Message). facts.in_range v.state) seen) ∙ facts.stays_in_range s bs lent has.later has.result has.steps i

  one_byte : (o : Option (Event F.Message)) (t : F.State) → (settle o t (scan facts.next t [])).state ≡ t
  one_byte none t = refl
  one_byte (some e) t = refl

  after_ranged : (bs : List ℕ) (s : F.State) → facts.in_range s ≡ true → T (are_bytes bs) → facts.in_range (after facts.next s bs) ≡ true
  after_ranged [] s i g = i
  after_ranged (b ∷ bs) s i g =
      let m = facts.next s b in
      after_ranged bs m.state
      (ap facts.in_range (sym (one_byte m.event m.state)) ∙ scan_ranged s (b ∷ []) i (bytes_cons b [] (bytes_head b bs g) tt))
      (bytes_tail b bs g)

module _ {S E : Type 0} (next : S → ℕ → Moved S E) where
  one_more : (o : Option E) (es : List E) (n : ℕ) → length es ≤ n → length (before o es) ≤ suc n
  one_more none es n h = omega arith
  one_more (some e) es n h = omega arith

  -- each event has a byte of its own
  events_few : (bs : List ℕ) (s : S) → length (events next s bs) ≤ length bs
  events_few [] s = omega arith
  events_few (b ∷ bs) s = one_more (next s b).event (events next (next s b).state bs) (length bs) (events_few bs (next s b).state)

module _ (seat : Seat) where
  abbrev F : Family
  F = (row_of seat).family

  -- a piece called on until it is used up
  abbrev ran : F.State → List ℕ → Ran F.State (Event F.Message)
  ran s piece = calls (row_of seat).next (length piece) s piece

  ran_ranged : (s : F.State) (piece : List ℕ) → (row_of seat).in_range s ≡ true → T (are_bytes piece) → (row_of seat).in_range (ran s piece).state ≡ true
  ran_ranged s piece i g =
      let facts = (facts_of seat).facts in
      let ranges = (facts_of seat).ranges in
      let good : facts.in_range (after facts.next s piece) ≡ true = after_ranged F facts piece s (ap (λ (r : F.State → Bool). r s) ranges ∙ i) g in
      ap (λ (r : Ran F.State (Event F.Message)). (row_of seat).in_range r.state) (calls_is (row_of seat).next (length piece) s piece (omega arith))
      ∙ ap (λ (n : F.State → ℕ → Moved F.State (Event F.Message)). (row_of seat).in_range (after n s piece)) (sym (facts_of seat).machine)
      ∙ ap (λ (r : F.State → Bool). r (after facts.next s piece)) (sym ranges)
      ∙ good

  ran_few : (s : F.State) (piece : List ℕ) → length (ran s piece).events ≤ length piece
  ran_few s piece =
      let same : length (ran s piece).events ≡ length (events (row_of seat).next s piece) = ap (λ (r : Ran F.State (Event F.Message)). length r.events) (calls_is (row_of seat).next (length piece) s piece (omega arith)) in
      omega (arith, same, events_few (row_of seat).next piece s)

-- ---- a packet taken leaves a sound listing sound

map_length : {A B : Type 0} (f : A → B) (l : List A) → length (map f l) ≡ length l
map_length f [] = refl
map_length f (a ∷ l) = ap suc (map_length f l)

messages_few : (port : ℕ) (es : List (Event Shown)) → messages_in (entries_on port es) ≤ length es
messages_few port [] = omega arith
messages_few port (message m ∷ es) = omega (arith, messages_few port es)
messages_few port (damage n lost ∷ es) = omega (arith, messages_few port es)

damages_few : (port : ℕ) (es : List (Event Shown)) → damages_in (entries_on port es) ≤ length es
damages_few port [] = omega arith
damages_few port (message m ∷ es) = omega (arith, damages_few port es)
damages_few port (damage n lost ∷ es) = omega (arith, damages_few port es)

module _ (l : Listing) (sound : Sound l) (s : List ℕ) (g : T (are_bytes s)) (w : Whole s) (below : l.packets < packets_max) where
  abbrev at : Seat
  at = w.on_seat.0

  abbrev piece : List ℕ
  piece = take (count_in s) (drop lead_length s)

  abbrev own : Fed
  own = fed_on (some at) l.ports piece

  fed_is : fed (packet_in s) l.ports ≡ own
  fed_is = ap (λ (o : Option Seat). fed_on o l.ports piece) (seat_at_lem at (sym w.on_seat.1))

  own_few : length own.events ≤ piece_max
  own_few =
      let run = ran at ((row_of at).get l.ports) piece in
      omega (arith, map_length (show_event (row_of at).show) run.events, ran_few at ((row_of at).get l.ports) piece, length-take (count_in s) (drop lead_length s), w.count_most)

  own_sound : Sound (takes l (packet_in s) own).listing
  own_sound =
      let before = in_counts l sound.counts in
      record {
        counts = counts_in (takes l (packet_in s) own).listing (omega (arith, below))
            (omega (arith, before.1, messages_few (port_in s) own.events, own_few))
            (omega (arith, before.2, damages_few (port_in s) own.events, own_few));
        readers = λ other. still_readable at other l.ports (ran at ((row_of at).get l.ports) piece).state
            (ran_ranged at ((row_of at).get l.ports) piece (sound.readers at) (bytes_take (count_in s) (drop lead_length s) (bytes_drop lead_length s g)))
            (sound.readers other);
      }

  taken_sound : Sound (takes l (packet_in s) (fed (packet_in s) l.ports)).listing
  taken_sound = subst (λ (f : Fed). Sound (takes l (packet_in s) f).listing) (sym fed_is) own_sound

-- ---- every call has a result

made_sound : (l : Listing) (s : List ℕ) (ended : Bool) (m : Made) → T (are_bytes s) → Outcome l s ended m → Sound l → Sound m.listing
made_sound l s ended m g (refuses why) k = k
made_sound l s ended m g (wants e h) k = k
made_sound l s ended m g (all_read n e) k = k
made_sound l s ended m g (too_many n e) k = k
made_sound l s ended m g (stops n a b c d) k = k
made_sound l s ended m g (packets a b w e) k = taken_sound l k s g w b

result : (l : Listing) (s lent : List ℕ) (ended : Bool) → T (are_bytes s) → Result l s ended lent
result l s lent ended g =
    let m = made l s ended (length lent) in
    record { result = listed m; later = m.text ++ drop (length m.text) lent; steps = (refl, refl, made_sound l s ended m g (outcome l s ended (length lent))) }

pub answers : Answers
answers = result

-- ---- every input is printed, by a host that has all of it at hand

module _ (lent : List ℕ) (room : room_least ≤ length lent) (left : List ℕ) (g : T (are_bytes left)) (l : Listing) (sound : Sound l)
    (on : (rest : List ℕ) → length rest < length left → T (are_bytes rest) → (k : Listing) → Sound k → Print k rest) where
  abbrev call : Result l left true lent
  call = result l left lent true g

  all : Has true left left
  all = record { rest = []; joins = sym (append-nil left); all = λ e. refl }

  by_outcome : (m : Made) → made l left true (length lent) ≡ m → Outcome l left true m → Print l left
  unfolding result
  by_outcome m e (refuses why) = absurd (made_not l sound why left true (length lent) room (ap (λ (v : Made). v.heard) e))
  by_outcome m e (wants f h) = zero_is_one cc
  by_outcome m e (all_read n f) = record { text = _; prints = Specs.ends left lent call.later true call.result all call.steps (ap (λ (v : Made). v.heard) e) }
  by_outcome m e (too_many n f) = record { text = _; prints = Specs.ends left lent call.later true call.result all call.steps (ap (λ (v : Made). v.heard) e) }
  by_outcome m e (stops n a b c d) = record { text = _; prints = Specs.ends left lent call.later true call.result all call.steps (ap (λ (v : Made). v.heard) e) }
  by_outcome m e (packets a b w f) =
      let used : call.result.used ≡ lead_length + length (take (count_in left) (drop lead_length left)) = ap (λ (v : Made). v.used) e in
      let u = call.result.used in
      let rest = on (drop u left) (omega (arith, length-drop u left, used, w.long)) (bytes_drop u left g) call.result.listing (call.steps.2 sound) in
      record { text = _; prints = Specs.takes left lent call.later true call.result all call.steps (ap (λ (v : Made). v.heard) e) rest.prints }

  prints_on : Print l left
  prints_on = by_outcome (made l left true (length lent)) refl (outcome l left true (length lent))

prints_all : (lent : List ℕ) → room_least ≤ length lent → (n : ℕ) (left : List ℕ) → length left ≤ n → T (are_bytes left) → (l : Listing) → Sound l → Print l left
prints_all lent room zero left h g l sound = prints_on lent room left g l sound (λ rest less. absurd (omega arith))
prints_all lent room (suc n) left h g l sound = prints_on lent room left g l sound (λ rest less k. prints_all lent room n rest (omega arith) k)

pub printed : Printed
printed input l g fresh =
    prints_all (replicate room_least 0) (omega (arith, length-replicate {A = ℕ} room_least 0)) (length input) input (omega arith) g l (fresh_sound l fresh)
