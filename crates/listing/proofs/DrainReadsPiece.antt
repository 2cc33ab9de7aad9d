-- A packet's piece called on until it is used up, of any family: what holds between two calls, and what is so at the end.
-- Assumes nothing.
use Prim.Native.Nat.{ℕ, ◌+◌, ◌-◌, ◌*◌, ◌≤◌, ◌<◌}
use mathlib.Core.Path.{◌≡◌, refl, sym, ap, ◌∙◌, subst}
use mathlib.Core.Bool.{Bool, true, false}
use mathlib.Core.Option.{Option, none, some}
use mathlib.Core.List.{List, [], ◌∷◌, ◌++◌, map, append-nil, append_assoc}
use lib.ListN.{length, take, drop, length-append, length-drop, drop_of_length-le}
use lib.Seq.{sets, sets-eq, drop-drop, take_all}
use native.Mathlib.Nat.{le_refl, zero-add}
use native.Mathlib.Omega.{arith}
use borrow.Rule.Slice.PartMut.{put_mid}
use Rattle.numbers.proofs.Alike.{zero_is_one}
use Rattle.std.specs.Prelude.{Result, Ok, Err}
use Rattle.std.specs.Result.{result_unwrap_or}
use Rattle.answers.specs.Written.{Writes}
use Rattle.answers.specs.Written.{Written}
use Rattle.answers.specs.declared.Refusal.{Refusal}
use Rattle.answers.specs.declared.Refusal.TheVariants.{Spoilt}
use Rattle.stream.specs.Event.{Event, message, damage, Told, done, gives, refuses, number, outcome}
use Rattle.stream.specs.Pieces.{Moved, Called, Ran, before, scan, calls}
use Rattle.stream.specs.Call.{Seen, lent_least, unmoved, answered, called, retold}
use Rattle.stream.proofs.CallsComeTo.{after, events, scan_after, scan_events, calls_is}
use Rattle.stream.proofs.LoopScans.{scan_used, scan_uses}
use Rattle.stream.proofs.PromiseOfStep.{in_room}
use Rattle.stream.proofs.HostRelies.{Fine}
use Rattle.uplink.specs.Packet.{piece_max}
use Rattle.ports.specs.Ports.{Seat, row_of}
use Rattle.listing_text.specs.Lines.{Shown}
use Rattle.listing_text.proofs.PutsJoin.{sets_append, put_front}
use Rattle.listing_text.proofs.LineLengths.{line_written}
use Rattle.listing.specs.Entries.{show_event, Entry, entries_on, entry_line, lines_of, is_message, is_damage, messages_in, damages_in}
use Rattle.listing.specs.Steps.{room_least}
use Rattle.listing.specs.Inside.{Put, told_by, IsRead, drained, Drains}
use Rattle.listing.specs.declared.family.Read.{Read}
use Rattle.listing.specs.declared.drain.Drained.{Drained}
use Rattle.listing.proofs.LinesInOrder.{lines_append, messages_append, damages_append}
use Rattle.listing.proofs.LinesFit.{line_for, per_byte, held_most, scan_weighs, weight_of, weighs_of, heavy_of}

-- ---- a line at an index of the lent buffer

-- a line for which there is room is put
pub put_line : (long : Bool) (piece lent later : List ℕ) (w : Written) (n : ℕ) → Writes long piece lent w later → long ≡ false → length piece ≤ length lent → n ≡ result_unwrap_or w 0 → Put piece lent n later
put_line long piece lent later w n x e room m =
    let p = line_written long piece lent later w x e room in
    (m ∙ ap (λ (v : Written). result_unwrap_or v 0) p.0, p.1)

-- the whole rest of a buffer, lent as a part
pub rest : (l : List ℕ) (k : ℕ) → take (length l - k) (drop k l) ≡ drop k l
rest l k = take_all (length l - k) (drop k l) (simp length-drop (le_refl _))

pub rest_length : (l : List ℕ) (k : ℕ) → length (take (length l - k) (drop k l)) ≡ length l - k
rest_length l k = ap length (rest l k) ∙ length-drop k l

-- what is put at the front of it is put at its index
pub into : (l m piece : List ℕ) (at : ℕ) → at + length piece ≤ length l → m ≡ piece ++ drop (length piece) (take (length l - at) (drop at l))
    → put_mid at (length l - at) l m ≡ sets l at piece
into l m piece at h e =
    let none : drop (length l - at) (drop at l) ≡ [] = drop_of_length-le (drop at l) {i = length l - at} (simp length-drop (le_refl _)) in
    simp (none, append-nil, e, rest l at, drop-drop) (sym (sets-eq piece l at h ∙ append_assoc (take at l) piece (drop (at + length piece) l)))

-- ---- one event more

module _ {M : Type 0} (show : M → Shown) (port : ℕ) where
  abbrev pub entries_in : List (Event M) → List Entry
  entries_in es = entries_on port (map (show_event show) es)

  abbrev pub message_for : Option (Event M) → ℕ
  message_for none = 0
  message_for (some e) = is_message (show_event show e)

  abbrev pub damage_for : Option (Event M) → ℕ
  damage_for none = 0
  damage_for (some e) = is_damage (show_event show e)

  pub message_most_one : (o : Option (Event M)) → message_for o ≤ 1
  message_most_one none = omega arith
  message_most_one (some (message m)) = omega arith
  message_most_one (some (damage n lost)) = omega arith

  pub damage_most_one : (o : Option (Event M)) → damage_for o ≤ 1
  damage_most_one none = omega arith
  damage_most_one (some (message m)) = omega arith
  damage_most_one (some (damage n lost)) = omega arith

  entries_append : (a b : List (Event M)) → entries_in (a ++ b) ≡ entries_in a ++ entries_in b
  entries_append [] b = refl
  entries_append (e ∷ a) b = ap (λ (l : List Entry). record { port = port; event = show_event show e } ∷ l) (entries_append a b)

  own_lines : (o : Option (Event M)) → lines_of (entries_in (before o [])) ≡ line_for show port o
  own_lines none = refl
  own_lines (some e) = append-nil (line_for show port (some e))

  own_messages : (o : Option (Event M)) → messages_in (entries_in (before o [])) ≡ message_for o
  own_messages none = refl
  own_messages (some e) = omega arith

  own_damages : (o : Option (Event M)) → damages_in (entries_in (before o [])) ≡ damage_for o
  own_damages none = refl
  own_damages (some e) = omega arith

  pub lines_more : (es : List (Event M)) (o : Option (Event M)) → lines_of (entries_in (es ++ before o [])) ≡ lines_of (entries_in es) ++ line_for show port o
  lines_more es o =
      ap lines_of (entries_append es (before o []))
      ∙ lines_append (entries_in es) (entries_in (before o []))
      ∙ ap (λ (l : List ℕ). lines_of (entries_in es) ++ l) (own_lines o)

  pub messages_more : (es : List (Event M)) (o : Option (Event M)) → messages_in (entries_in (es ++ before o [])) ≡ messages_in (entries_in es) + message_for o
  messages_more es o =
      ap messages_in (entries_append es (before o []))
      ∙ messages_append (entries_in es) (entries_in (before o []))
      ∙ ap (λ (n : ℕ). messages_in (entries_in es) + n) (own_messages o)

  pub damages_more : (es : List (Event M)) (o : Option (Event M)) → damages_in (entries_in (es ++ before o [])) ≡ damages_in (entries_in es) + damage_for o
  damages_more es o =
      ap damages_in (entries_append es (before o []))
      ∙ damages_append (entries_in es) (entries_in (before o []))
      ∙ ap (λ (n : ℕ). damages_in (entries_in es) + n) (own_damages o)

before_split : {E : Type 0} (o : Option E) (es : List E) → before o es ≡ before o [] ++ es
before_split none es = refl
before_split (some e) es = refl

-- ---- between two calls: the events that were told and those that are left are all events, and the text and the counts are those of the told ones

module _ {S M : Type 0} (next : S → ℕ → Moved S (Event M)) (show : M → Shown) (port : ℕ) where
  pub record Mid (s₀ : S) (piece out₀ : List ℕ) (s : S) (at wrote messages damages : ℕ) (out : List ℕ) : Type 0 where
    pub told : List (Event M)
    pub goes : events next s₀ piece ≡ told ++ events next s (drop at piece)
    pub ends : after next s₀ piece ≡ after next s (drop at piece)
    pub laid : out ≡ sets out₀ 0 (lines_of (entries_in show port told))
    pub count : wrote ≡ length (lines_of (entries_in show port told))
    pub messages_told : messages ≡ messages_in (entries_in show port told)
    pub damages_told : damages ≡ damages_in (entries_in show port told)

  pub mid_begins : (s : S) (piece out : List ℕ) → Mid s piece out s 0 0 0 0 out
  mid_begins s piece out = record { told = []; goes = refl; ends = refl; laid = refl; count = refl; messages_told = refl; damages_told = refl }

  module _ (s₀ : S) (piece out₀ : List ℕ) (s : S) (at wrote messages damages : ℕ) (out : List ℕ) (m : Mid s₀ piece out₀ s at wrote messages damages out) where
    pub mid_turns : (t : S) (o : Option (Event M)) (u : ℕ) → scan next s (drop at piece) ≡ record { state = t; event = o; used = u }
        → (wrote' messages' damages' : ℕ) (out' : List ℕ) → wrote' ≡ wrote + length (line_for show port o) → messages' ≡ messages + message_for show port o
        → damages' ≡ damages + damage_for show port o → out' ≡ sets out wrote (line_for show port o)
        → Mid s₀ piece out₀ t (at + u) wrote' messages' damages' out'
    mid_turns t o u e wrote' messages' damages' out' ew em ed eo =
        let all = lines_of (entries_in show port m.told) in
        let left : events next s (drop at piece) ≡ before o (events next t (drop (at + u) piece)) =
        scan_events next s (drop at piece)
        ∙ ap (λ (c : Called S (Event M)). before c.event (events next c.state (drop c.used (drop at piece)))) e
        ∙ ap (λ (l : List ℕ). before o (events next t l)) (drop-drop u at piece) in
        record {
          told = m.told ++ before o [];
          goes = m.goes ∙ ap (λ (l : List (Event M)). m.told ++ l) (left ∙ before_split o (events next t (drop (at + u) piece)))
              ∙ sym (append_assoc m.told (before o []) (events next t (drop (at + u) piece)));
          ends = m.ends ∙ scan_after next s (drop at piece)
              ∙ ap (λ (c : Called S (Event M)). after next c.state (drop c.used (drop at piece))) e
              ∙ ap (after next t) (drop-drop u at piece);
          laid = eo ∙ ap (λ (l : List ℕ). sets l wrote (line_for show port o)) m.laid
              ∙ ap (λ (n : ℕ). sets (sets out₀ 0 all) n (line_for show port o)) (m.count ∙ sym (zero-add (length all)))
              ∙ sets_append out₀ 0 all (line_for show port o)
              ∙ ap (sets out₀ 0) (sym (lines_more show port m.told o));
          count = ew ∙ ap (λ (n : ℕ). n + length (line_for show port o)) m.count ∙ sym (ap length (lines_more show port m.told o) ∙ length-append all (line_for show port o));
          messages_told = em ∙ ap (λ (n : ℕ). n + message_for show port o) m.messages_told ∙ sym (messages_more show port m.told o);
          damages_told = ed ∙ ap (λ (n : ℕ). n + damage_for show port o) m.damages_told ∙ sym (damages_more show port m.told o);
        }

    -- where nothing is left, all calls came to this
    pub mid_ends : length piece ≤ at → calls next (length piece) s₀ piece ≡ record { state = s; events = m.told; left = [] }
    mid_ends h =
        let none : drop at piece ≡ [] = drop_of_length-le piece h in
        calls_is next (length piece) s₀ piece (le_refl _)
        ∙ ap {B = Ran S (Event M)} (λ (t : S). record { state = t; events = events next s₀ piece; left = [] }) (m.ends ∙ ap (after next s) none)
        ∙ ap {B = Ran S (Event M)} (λ (es : List (Event M)). record { state = s; events = es; left = [] })
        (m.goes ∙ ap (λ (l : List ℕ). m.told ++ events next s l) none ∙ append-nil m.told)

-- ---- a call

false_true : {A : Type 0} → false ≡ true → A
false_true e = zero_is_one cc

-- the event that was told, if there was one
abbrev pub given : {M : Type 0} → Told M → Option (Event M)
given done = none
given (gives e) = some e
given (refuses n) = none

-- messages shown: an event's line, and what it counts
abbrev pub line_of : (port : ℕ) → Option (Event Shown) → List ℕ
line_of port none = []
line_of port (some e) = entry_line port e

abbrev pub messages_of : Option (Event Shown) → ℕ
messages_of none = 0
messages_of (some e) = is_message e

abbrev pub damages_of : Option (Event Shown) → ℕ
damages_of none = 0
damages_of (some e) = is_damage e

module _ {M : Type 0} (show : M → Shown) where
  abbrev pub shows : Option (Event M) → Option (Event Shown)
  shows none = none
  shows (some e) = some (show_event show e)

  given_shows : (o : Option (Event M)) → given (retold show (outcome o)) ≡ shows o
  given_shows none = refl
  given_shows (some (message m)) = refl
  given_shows (some (damage n lost)) = refl

  fine_outcome : (o : Option (Event M)) → Fine (retold show (outcome o))
  fine_outcome none = tt
  fine_outcome (some (message m)) = tt
  fine_outcome (some (damage n lost)) = tt

  pub fine_retold : (t : Told M) → Fine t → Fine (retold show t)
  fine_retold done f = tt
  fine_retold (gives (message m)) f = tt
  fine_retold (gives (damage n lost)) f = tt
  fine_retold (refuses n) f = f

  line_shown : (port : ℕ) (o : Option (Event M)) → line_of port (shows o) ≡ line_for show port o
  line_shown port none = refl
  line_shown port (some e) = refl

  messages_shown : (port : ℕ) (o : Option (Event M)) → messages_of (shows o) ≡ message_for show port o
  messages_shown port none = refl
  messages_shown port (some e) = refl

  damages_shown : (port : ℕ) (o : Option (Event M)) → damages_of (shows o) ≡ damage_for show port o
  damages_shown port none = refl
  damages_shown port (some e) = refl

called_same : {S E : Type 0} {s t : S} {o p : Option E} {u v : ℕ} → s ≡ t → o ≡ p → u ≡ v
    → ◌≡◌ {A = Called S E} (record { state = s; event = o; used = u }) (record { state = t; event = p; used = v })
called_same {S} {E} {s} {t} {o} {p} {u} {v} a b c =
    ap {B = Called S E} (λ (x : S). record { state = x; event = o; used = u }) a
    ∙ ap {B = Called S E} (λ (x : Option E). record { state = t; event = x; used = u }) b
    ∙ ap {B = Called S E} (λ (x : ℕ). record { state = t; event = p; used = x }) c

module _ (at : Seat) where
  -- the family's machine
  abbrev next : (row_of at).family.State → ℕ → Moved (row_of at).family.State (Event (row_of at).family.Message)
  next = (row_of at).next

  -- a call that was not refused scanned its piece, from a state in range
  pub record Went (s : (row_of at).family.State) (piece : List ℕ) (later : (row_of at).family.State) (o : Option (Event Shown)) (used : ℕ) : Type 0 where
    pub ranged : (row_of at).in_range s ≡ true
    pub state : later ≡ (scan next s piece).state
    pub event : o ≡ shows (row_of at).show (scan next s piece).event
    pub uses : used ≡ (scan next s piece).used

  module _ {H : Type 0} {payload_length : H → ℕ} {shown : H → List ℕ → Shown} {s : (row_of at).family.State} {piece lent : List ℕ} {r : Read H} {later : (row_of at).family.State} {lent_later : List ℕ}
      (x : IsRead at payload_length shown s piece lent r later lent_later) (room : lent_least ≤ length lent) where
    -- what is told, messages shown
    abbrev pub tells : Told H → Told Shown
    tells t = retold (λ h. shown h lent_later) t

    abbrev seen : Seen (row_of at).family.State (row_of at).family.Message
    seen = called next (row_of at).in_range s piece lent

    scanned : (row_of at).in_range s ≡ true → seen ≡ answered (scan next s piece)
    scanned i = in_room next (row_of at).in_range s piece lent i room

    spoilt : (row_of at).in_range s ≡ false → seen ≡ unmoved 18 s
    spoilt i = rw i

    pub read_used : r.used ≤ length piece
    read_used = go ((row_of at).in_range s) refl
      where
        go : (t : Bool) → (row_of at).in_range s ≡ t → r.used ≤ length piece
        go true i =
            let u : r.used ≡ (scan next s piece).used = x.uses ∙ ap (λ (v : Seen (row_of at).family.State (row_of at).family.Message). v.used) (scanned i) in
            omega (arith, scan_used next s piece)
        go false i =
            let u : r.used ≡ 0 = x.uses ∙ ap (λ (v : Seen (row_of at).family.State (row_of at).family.Message). v.used) (spoilt i) in
            omega arith

    pub went : (t : Told H) → told_by r.told ≡ t → Fine t → Went s piece later (given (tells t)) r.used
    went t e fine = go ((row_of at).in_range s) refl
      where
        told_so : tells t ≡ retold (row_of at).show seen.told
        told_so = ap tells (sym e) ∙ x.tells

        go : (q : Bool) → (row_of at).in_range s ≡ q → Went s piece later (given (tells t)) r.used
        go true i = record {
          ranged = i;
          state = x.state ∙ ap (λ (v : Seen (row_of at).family.State (row_of at).family.Message). v.state) (scanned i);
          event = ap given (told_so ∙ ap (λ (v : Seen (row_of at).family.State (row_of at).family.Message). retold (row_of at).show v.told) (scanned i))
              ∙ given_shows (row_of at).show (scan next s piece).event;
          uses = x.uses ∙ ap (λ (v : Seen (row_of at).family.State (row_of at).family.Message). v.used) (scanned i);
        }
        go false i =
            let bad : tells t ≡ refuses 18 = told_so ∙ ap (λ (v : Seen (row_of at).family.State (row_of at).family.Message). retold (row_of at).show v.told) (spoilt i) in
            absurd (subst Fine bad (fine_retold (λ h. shown h lent_later) t fine))

    -- and one that was refused was made in a state out of range, and left it
    pub spoils : (n : ℕ) → told_by r.told ≡ refuses n → ((row_of at).in_range s ≡ false) × (later ≡ s) × (n ≡ 18)
    spoils n e = go ((row_of at).in_range s) refl
      where
        told_so : refuses n ≡ retold (row_of at).show seen.told
        told_so = ap tells (sym e) ∙ x.tells

        go : (q : Bool) → (row_of at).in_range s ≡ q → ((row_of at).in_range s ≡ false) × (later ≡ s) × (n ≡ 18)
        go true i =
            let bad = told_so ∙ ap (λ (v : Seen (row_of at).family.State (row_of at).family.Message). retold (row_of at).show v.told) (scanned i) in
            absurd (subst Fine (sym bad) (fine_outcome (row_of at).show (scan next s piece).event))
        go false i =
            let is : refuses n ≡ refuses 18 = told_so ∙ ap (λ (v : Seen (row_of at).family.State (row_of at).family.Message). retold (row_of at).show v.told) (spoilt i) in
            (i, x.state ∙ ap (λ (v : Seen (row_of at).family.State (row_of at).family.Message). v.state) (spoilt i), ap (number {M = Shown}) is)

  -- ---- what a loop of calls keeps

  module _ (port : ℕ) where
    pub record Kept (s₀ : (row_of at).family.State) (piece out₀ : List ℕ) (s : (row_of at).family.State) (k wrote messages damages : ℕ) (out : List ℕ) : Type 0 where
      pub mid : Mid next (row_of at).show port s₀ piece out₀ s k wrote messages damages out
      pub within : k ≤ length piece
      pub few_messages : messages ≤ k
      pub few_damages : damages ≤ k
      pub same : (row_of at).in_range s ≡ (row_of at).in_range s₀
      pub room : (row_of at).in_range s ≡ true → wrote + weight_of at s ≤ held_most + per_byte * k
      -- out of range nothing is done
      pub still : (row_of at).in_range s₀ ≡ false → (k ≡ 0) × (s ≡ s₀) × (out ≡ out₀)

    pub begins : (s : (row_of at).family.State) (piece out : List ℕ) → Kept s piece out s 0 0 0 0 out
    begins s piece out = record {
      mid = mid_begins next (row_of at).show port s piece out;
      within = omega arith;
      few_messages = omega arith;
      few_damages = omega arith;
      same = refl;
      room = λ i. omega (arith, heavy_of at s i);
      still = λ i. (refl, refl, refl);
    }

    module _ (small : port < 10) {s₀ : (row_of at).family.State} {piece out₀ : List ℕ} {s : (row_of at).family.State} {k wrote messages damages : ℕ} {out : List ℕ}
        (kept : Kept s₀ piece out₀ s k wrote messages damages out) where
      module _ {later : (row_of at).family.State} {o : Option (Event Shown)} {used : ℕ} (w : Went s (drop k piece) later o used) where
        abbrev event : Option (Event (row_of at).family.Message)
        event = (scan next s (drop k piece)).event

        pub line_used : k + used ≤ length piece
        line_used = omega (arith, w.uses, scan_used next s (drop k piece), length-drop k piece, kept.within)

        pub line_uses : k < length piece → 0 < used
        line_uses h = omega (arith, w.uses, scan_uses next s (drop k piece) (simp length-drop (omega arith)))

        line_same : line_of port o ≡ line_for (row_of at).show port event
        line_same = ap (line_of port) w.event ∙ line_shown (row_of at).show port event

        -- there is room for its line
        pub line_room : wrote + length (line_of port o) + weight_of at later ≤ held_most + per_byte * (k + used)
        line_room =
            let one = scan_weighs next (row_of at).show port (weight_of at) (weighs_of at port small) s (drop k piece) in
            let long : length (line_of port o) ≡ length (line_for (row_of at).show port event) = ap length line_same in
            let heavy : weight_of at later ≡ weight_of at (scan next s (drop k piece)).state = ap (weight_of at) w.state in
            omega (arith, w.uses, kept.room w.ranged)

        pub turns : ((row_of at).in_range s ≡ true → (row_of at).in_range later ≡ true) → k < length piece → (wrote' messages' damages' : ℕ) (out' : List ℕ) → wrote' ≡ wrote + length (line_of port o)
            → messages' ≡ messages + messages_of o → damages' ≡ damages + damages_of o → out' ≡ sets out wrote (line_of port o)
            → Kept s₀ piece out₀ later (k + used) wrote' messages' damages' out'
        turns stays h wrote' messages' damages' out' ew em ed eo =
            let now-ranged : (row_of at).in_range later ≡ true = stays w.ranged in
            let a-message : messages_of o ≡ message_for (row_of at).show port event = ap messages_of w.event ∙ messages_shown (row_of at).show port event in
            let a-damage : damages_of o ≡ damage_for (row_of at).show port event = ap damages_of w.event ∙ damages_shown (row_of at).show port event in
            let is : scan next s (drop k piece) ≡ record { state = later; event = event; used = used } = called_same (sym w.state) refl (sym w.uses) in
            record {
              mid = mid_turns next (row_of at).show port s₀ piece out₀ s k wrote messages damages out kept.mid later event used is wrote' messages' damages' out'
                  (ew ∙ ap (λ (l : List ℕ). wrote + length l) line_same) (em ∙ ap (λ (n : ℕ). messages + n) a-message)
                  (ed ∙ ap (λ (n : ℕ). damages + n) a-damage) (eo ∙ ap (sets out wrote) line_same);
              within = line_used;
              few_messages = omega (arith, em, a-message, kept.few_messages, line_uses h, message_most_one (row_of at).show port event);
              few_damages = omega (arith, ed, a-damage, kept.few_damages, line_uses h, damage_most_one (row_of at).show port event);
              same = now-ranged ∙ sym w.ranged ∙ kept.same;
              room = λ i. omega (arith, ew, line_room);
              still = λ i. false_true (sym i ∙ sym kept.same ∙ w.ranged);
            }

      -- ---- the two ends

      pub ends : length piece ≤ k → 0 < length piece → length piece ≤ piece_max → room_least ≤ length out₀
          → Drains at s₀ port piece out₀ (Ok (record { wrote = wrote; messages = messages; damages = damages })) s out
      ends h any short room = record {
        refuses = λ i. absurd (omega (arith, (kept.still i).0));
        reads = λ i.
            subst (λ (ran : Ran (row_of at).family.State (Event (row_of at).family.Message)).
            (◌≡◌ {A = Result Drained Refusal} (Ok (record { wrote = wrote; messages = messages; damages = damages })) (Ok (drained (entries_in (row_of at).show port ran.events))))
            × (s ≡ ran.state) × (out ≡ lines_of (entries_in (row_of at).show port ran.events) ++ drop (length (lines_of (entries_in (row_of at).show port ran.events))) out₀)
            × ((row_of at).in_range s ≡ true))
            (sym (mid_ends next (row_of at).show port s₀ piece out₀ s k wrote messages damages out kept.mid h))
            (counted, refl, kept.mid.laid ∙ put_front out₀ (lines_of (entries_in (row_of at).show port kept.mid.told)) (omega (arith, kept.mid.count, kept.within, kept.room (kept.same ∙ i))), kept.same ∙ i);
        few = λ d e. let is : d ≡ record { wrote = wrote; messages = messages; damages = damages } = cc in rw is (omega (arith, kept.within, kept.few_messages), omega (arith, kept.within, kept.few_damages));
      }
        where
          counted : ◌≡◌ {A = Result Drained Refusal} (Ok (record { wrote = wrote; messages = messages; damages = damages })) (Ok (drained (entries_in (row_of at).show port kept.mid.told)))
          counted = rw (kept.mid.count, kept.mid.messages_told, kept.mid.damages_told)

      pub ends_spoilt : (r : Result Drained Refusal) (later : (row_of at).family.State) → r ≡ Err Spoilt → later ≡ s → (row_of at).in_range s ≡ false
          → Drains at s₀ port piece out₀ r later out
      ends_spoilt r later er el o =
          let out_of : (row_of at).in_range s₀ ≡ false = sym kept.same ∙ o in
          record {
            refuses = λ i. (er, el ∙ (kept.still i).1, (kept.still i).2);
            reads = λ i. false_true (sym out_of ∙ i);
            few = λ d e. absurd (bad d (sym e ∙ er));
          }
        where
          bad : (d : Drained) → ◌≡◌ {A = Result Drained Refusal} (Ok d) (Err Spoilt) → ⊥
          bad d e = zero_is_one cc
