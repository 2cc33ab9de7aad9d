-- The calls make the listing: what is printed from a listing on, after the packets that led to it, is what is left of the listing of the input.
-- Assumes nothing.
use Prim.Native.Nat.{ℕ, zero, suc, ◌+◌, ◌-◌, ◌≤◌, ◌<◌}
use mathlib.Core.Path.{◌≡◌, refl, sym, ap, ap₂, ◌∙◌, subst}
use mathlib.Core.Bool.{Bool, true, false, cond}
use mathlib.Core.Option.{Option, none, some}
use mathlib.Core.List.{List, [], ◌∷◌, ◌++◌, append-nil, append_assoc}
use lib.ListN.{length, take, drop, length-append, length-take, length-drop}
use lib.Seq.{take-append_seam}
use lib.Dec.{T, eqb}
use lib.Pow.{are_bytes}
use borrow.Author.Tests.{eqb-false}
use native.Mathlib.Omega.{arith}
use Rattle.answers.specs.Answer.{number}
use Rattle.answers.specs.Refusal.{number as refusalNumber}
use Rattle.answers.specs.declared.Refusal.TheVariants.{TooManyPackets}
use Rattle.stream.proofs.BytesOfParts.{bytes_append, bytes_take, bytes_drop}
use Rattle.uplink.specs.Packet.{lead_length, count_in, packet_at}
use Rattle.listing_text.specs.Lines.{title_line}
use Rattle.listing.specs.Entries.{entries_on, Entry, lines_of, messages_in, damages_in, last_lines}
use Rattle.listing.specs.Steps.{Packet, packet_in, packets_max}
use Rattle.listing_whole.specs.Listing.{Cut, stopped, before, whole, by_packet, by_end, cut, joined, brings, entries, listing_of}
use Rattle.listing.specs.Steps.{IsFresh, Fed, fed, Made, takes, made, IsStep}
use Rattle.listing_whole.specs.Demands.{Has, Prints, reads_on, takes as took, ends as over, Makes}
use Rattle.listing.specs.declared.Listing.{Listing}
use Rattle.listing.specs.declared.Listed.{Listed}
use Rattle.listing.specs.declared.Heard.{Heard}
use Rattle.listing.specs.declared.Heard.TheVariants.{More, Packet as Took, End, Refused}
use Rattle.listing_whole.proofs.FirstPacket.{same_packet, same_count}
use Rattle.listing_whole.proofs.EntriesByPacket.{joined_append, entries_one}
use Rattle.listing.proofs.LinesInOrder.{lines_append, messages_append, damages_append}
use Rattle.listing_whole.proofs.PacketBringsRule.{Stand, Bytes, Right, fed_right}
use Rattle.listing_whole.proofs.CallOutcome.{Whole, Outcome, refuses, wants, all_read, too_many, stops, packets, outcome}

-- ---- what is left of a listing, after the packets ps

abbrev rest : List Packet → Cut → List ℕ
rest ps c =
    let all = entries [] (ps ++ c.packets) in
    lines_of (entries ps c.packets) ++ last_lines c.stop (messages_in all) (damages_in all)

abbrev left_of_lem : List Packet → List ℕ → List ℕ
left_of_lem ps left = rest ps (cut (packets_max - length ps) left)

-- a listing that the packets ps led to
record Stands (ps : List Packet) (l : Listing) : Type 0 where
  readers : Stand ps l.ports
  bytes : Bytes ps
  taken : l.packets ≡ length ps
  few : length ps ≤ packets_max
  messages : l.messages ≡ messages_in (entries [] ps)
  damages : l.damages ≡ damages_in (entries [] ps)

-- ---- the first packet of what is left

by_end_lem : (left : List ℕ) → 0 < length left → by_end left ≡ stopped (refusalNumber TooManyPackets)
unfolding by_end
by_end_lem [] h = absurd (omega arith)
by_end_lem (b ∷ bs) h = refl

by_stop : (left : List ℕ) (c : Cut) (n : ℕ) → 0 < length left → number (packet_at left) ≡ n → eqb n 0 ≡ false → by_packet left c ≡ stopped n
unfolding by_packet
by_stop [] c n h e f = absurd (omega arith)
by_stop (b ∷ bs) c n h e f = rw (e, f)

by_packet_lem : (left : List ℕ) (c : Cut) → 0 < length left → number (packet_at left) ≡ 0 → by_packet left c ≡ before (packet_in left) c
unfolding by_packet
by_packet_lem [] c h e = absurd (omega arith)
by_packet_lem (b ∷ bs) c h e = rw e

pub cut_nil : (n : ℕ) → cut n [] ≡ whole
unfolding by_end by_packet
cut_nil zero = refl
cut_nil (suc n) = refl

module _ (ps : List Packet) (l : Listing) (st : Stands ps l) where
  -- how the listing ends where its packets do
  ends_here : (stop : Option ℕ) → last_lines stop l.messages l.damages ≡ rest ps (record { packets = []; stop = stop })
  ends_here stop = ap₂ (last_lines stop) st.messages st.damages ∙ rw append-nil

  less : eqb l.packets packets_max ≡ false → length ps < packets_max
  less e = omega (arith, eqb-false l.packets packets_max e, st.taken, st.few)

  by_one : (left : List ℕ) → eqb l.packets packets_max ≡ false
      → cut (packets_max - length ps) left ≡ by_packet left (cut (packets_max - suc (length ps)) (drop (lead_length + count_in left) left))
  by_one left e = ap (λ (n : ℕ). cut n left) (let s : packets_max - length ps ≡ suc (packets_max - suc (length ps)) = omega (arith, less e) in s)

  module _ (front left : List ℕ) (ended : Bool) (has : Has ended front left) where
    longer : length front ≤ length left
    longer = let e = ap length has.joins ∙ length-append front has.rest in omega arith

    -- one that takes a packet prints its lines, and leads on
    record Leads (m : Made) : Type 0 where
      packet : Packet
      stands : Stands (ps ++ (packet ∷ [])) m.listing
      after : T (are_bytes (drop m.used left))
      text : m.text ++ left_of_lem (ps ++ (packet ∷ [])) (drop m.used left) ≡ left_of_lem ps left

    module _ (good : T (are_bytes left)) (few : eqb l.packets packets_max ≡ false) (w : Whole front) where
      abbrev p : Packet
      p = packet_in front

      abbrev f : Fed
      f = fed p l.ports

      abbrev m : Made
      m = takes l p f

      line_is : p.piece ≡ take (count_in left) (drop lead_length left)
      line_is = ap (λ (q : Packet). q.piece) (sym (same_packet front has.rest w.long w.there)) ∙ ap (λ (s : List ℕ). (packet_in s).piece) (sym has.joins)

      line_long : length p.piece ≡ count_in front
      line_long = simp (length-take, length-drop) (omega (arith, w.there))

      used_is : lead_length + length p.piece ≡ lead_length + count_in left
      used_is = ap (λ (n : ℕ). lead_length + n) (line_long ∙ sym (ap count_in has.joins ∙ same_count front has.rest w.long))

      one_more : (port : ℕ) (t : Bool) → T (are_bytes (cond t (p.piece ++ []) []))
      one_more port true = subst (λ (s : List ℕ). T (are_bytes s)) (sym (append-nil p.piece ∙ line_is)) (bytes_take (count_in left) (drop lead_length left) (bytes_drop lead_length left good))
      one_more port false = tt

      bytes_on : Bytes (ps ++ (p ∷ []))
      bytes_on port =
          subst (λ (s : List ℕ). T (are_bytes s)) (sym (joined_append port ps (p ∷ [])))
          (bytes_append (joined port ps) (joined port (p ∷ [])) (st.bytes port) (one_more port (eqb p.port port)))

      right : Right ps p f
      right = fed_right ps p l.ports st.readers w.on_seat bytes_on

      es : entries_on p.port f.events ≡ entries_on p.port (brings ps p)
      es = ap (entries_on p.port) right.brought

      stands_on : Stands (ps ++ (p ∷ [])) m.listing
      stands_on = record {
        readers = right.stand;
        bytes = bytes_on;
        taken = simp length-append (omega (arith, st.taken));
        few = simp length-append (omega (arith, less few));
        messages = ap₂ ◌+◌ st.messages (ap messages_in es) ∙ sym (ap messages_in (entries_one ps p) ∙ messages_append (entries [] ps) (entries_on p.port (brings ps p)));
        damages = ap₂ ◌+◌ st.damages (ap damages_in es) ∙ sym (ap damages_in (entries_one ps p) ∙ damages_append (entries [] ps) (entries_on p.port (brings ps p)));
      }

      -- the cut of what is left is this packet, and then the cut of what follows it
      abbrev later : Cut
      later = cut (packets_max - length (ps ++ (p ∷ []))) (drop m.used left)

      cut_on : cut (packets_max - length ps) left ≡ before p later
      cut_on =
          by_one left few
          ∙ by_packet_lem left _ (omega (arith, w.long, longer)) (ap (λ (s : List ℕ). number (packet_at s)) has.joins ∙ w.accepted has.rest)
          ∙ ap₂ {C = Cut} before (ap packet_in has.joins ∙ same_packet front has.rest w.long w.there)
          (ap₂ cut (let n : packets_max - suc (length ps) ≡ packets_max - length (ps ++ (p ∷ [])) = simp length-append (omega arith) in n) (ap (λ (n : ℕ). drop n left) (sym used_is)))

      text_on : m.text ++ left_of_lem (ps ++ (p ∷ [])) (drop m.used left) ≡ left_of_lem ps left
      text_on =
          let qs = later.packets in
          let own = entries_on p.port (brings ps p) in
          let all = entries [] ((ps ++ (p ∷ [])) ++ qs) in
          let last = last_lines later.stop (messages_in all) (damages_in all) in
          ap (λ (t : List Entry). lines_of t ++ (lines_of (entries (ps ++ (p ∷ [])) qs) ++ last)) es
          ∙ sym (append_assoc (lines_of own) (lines_of (entries (ps ++ (p ∷ [])) qs)) last)
          ∙ ap (λ (t : List ℕ). t ++ last) (sym (lines_append own (entries (ps ++ (p ∷ [])) qs)))
          ∙ ap (λ (r : List Packet). lines_of (own ++ entries (ps ++ (p ∷ [])) qs) ++ last_lines later.stop (messages_in (entries [] r)) (damages_in (entries [] r))) (append_assoc ps (p ∷ []) qs)
          ∙ ap (rest ps) (sym cut_on)

      leads_on : Leads m
      leads_on = record { packet = p; stands = stands_on; after = bytes_drop m.used left good; text = text_on }

    -- a call that wants more leaves the listing as it is; one that ends it prints what is left of it
    abbrev Does : Made → Heard → Type 0
    Does m More = m.listing ≡ l
    Does m Took = Leads m
    Does m End = m.text ≡ left_of_lem ps left
    Does m (Refused why) = Unit {0}

    does : T (are_bytes left) → (m : Made) → Outcome l front ended m → Does m m.heard
    does good m (refuses why) = tt
    does good m (wants e s) = refl
    does good m (all_read none-there e) =
        let nothing : left ≡ [] = has.joins ∙ ap₂ (λ (a b : List ℕ). a ++ b) none-there (has.all e) in
        ends_here none ∙ ap (rest ps) (sym (ap (cut (packets_max - length ps)) nothing ∙ cut_nil (packets_max - length ps)))
    does good m (too_many there all) =
        let full : packets_max - length ps ≡ 0 = omega (arith, st.taken) in
        ends_here (some (refusalNumber TooManyPackets)) ∙ ap (rest ps) (sym (ap (λ (n : ℕ). cut n left) full ∙ by_end_lem left (omega (arith, longer))))
    does good m (stops n there few f same) =
        ends_here (some n)
        ∙ ap (rest ps) (sym (by_one left few ∙ by_stop left _ n (omega (arith, longer)) (ap (λ (s : List ℕ). number (packet_at s)) has.joins ∙ same has.rest has.all) f))
    does good m (packets few less-than w e) = leads_on good few w

-- ---- every call

-- what a call wrote is its text
printed : (l : Listing) (input lent later : List ℕ) (ended : Bool) (r : Listed) → IsStep l input ended lent r later
    → take r.wrote later ≡ (made l input ended (length lent)).text
printed l input lent later ended r st =
    let m = made l input ended (length lent) in
    ap₂ take (ap (λ (v : Listed). v.wrote) st.0) st.1 ∙ take-append_seam m.text (drop (length m.text) lent)

-- what a call does, by what is heard of it
call_does : (l : Listing) (front left lent later : List ℕ) (ended : Bool) (r : Listed) (ps : List Packet) (st : Stands ps l) (has : Has ended front left) → T (are_bytes left)
    → (step : IsStep l front ended lent r later) (h : Heard) → r.heard ≡ h → Does ps l st front left ended has (made l front ended (length lent)) h
call_does l front left lent later ended r ps st has good step h e =
    subst (Does ps l st front left ended has (made l front ended (length lent))) (sym (ap (λ (v : Listed). v.heard) step.0) ∙ e)
    (does ps l st front left ended has good (made l front ended (length lent)) (outcome l front ended (length lent)))

prints : (l : Listing) (left text : List ℕ) (ps : List Packet) → Stands ps l → T (are_bytes left) → Prints l left text → text ≡ left_of_lem ps left
prints l left text ps st good (reads_on front lent later r has step heard more) =
    let same : r.listing ≡ l = ap (λ (v : Listed). v.listing) step.0 ∙ call_does l front left lent later false r ps st has good step More heard in
    prints r.listing left text ps (subst (Stands ps) (sym same) st) good more
prints l left text-printed ps st good (took {text} front lent later ended r has step heard more) =
    let m = made l front ended (length lent) in
    let k = call_does l front left lent later ended r ps st has good step Took heard in
    let used : r.used ≡ m.used = ap (λ (v : Listed). v.used) step.0 in
    let ps' = ps ++ (k.packet ∷ []) in
    let later-text : text ≡ left_of_lem ps' (drop r.used left) =
    prints r.listing (drop r.used left) text ps' (subst (Stands ps') (sym (ap (λ (v : Listed). v.listing) step.0)) k.stands)
    (subst (λ (n : ℕ). T (are_bytes (drop n left))) (sym used) k.after) more in
    ap₂ (λ (a b : List ℕ). a ++ b) (printed l front lent later ended r step) (later-text ∙ ap (λ (n : ℕ). left_of_lem ps' (drop n left)) used)
    ∙ k.text
prints l left text ps st good (over front lent later ended r has step heard) =
    printed l front lent later ended r step ∙ call_does l front left lent later ended r ps st has good step End heard

fresh_stands : (l : Listing) → IsFresh l → Stands [] l
fresh_stands l e = record { readers = e.readers; bytes = λ port. tt; taken = e.packets; few = omega arith; messages = e.messages; damages = e.damages }

pub makes : Makes
unfolding listing_of
makes input text l good fresh p = ap (λ (t : List ℕ). title_line ++ t) (prints l input text [] (fresh_stands l fresh) good p)
