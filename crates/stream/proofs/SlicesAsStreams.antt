-- A reader of slices and a streaming one follow one rule, so they tell the same.
-- Assumes nothing.
use Prim.Native.Nat.{ℕ, zero, suc, ◌+◌, ◌-◌, ◌≤◌, ◌<◌}
use mathlib.Core.Path.{◌≡◌, refl, sym, ap, ap₂, ◌∙◌, subst}
use mathlib.Core.Bool.{Bool, true, false, cond}
use mathlib.Core.Option.{Option, none, some}
use mathlib.Core.List.{List, [], ◌∷◌, ◌++◌, map}
use lib.ListN.{length, drop, length-drop}
use lib.Seq.{drop-drop}
use lib.Dec.{T, ltb}
use lib.Pow.{are_bytes}
use borrow.Author.Tests.{le-ltb, lt-ltb}
use native.Mathlib.Omega.{arith}
use Rattle.numbers.proofs.Alike.{zero_is_one}
use Rattle.stream.specs.Event.{Event, message, Told, done, gives, refuses, outcome}
use Rattle.stream.specs.Pieces.{Moved, scan}
use Rattle.stream.specs.Call.{Seen, lent_least, called, delivered, retold, Steps}
use Rattle.stream.specs.Call as Call
use Rattle.stream.specs.Rule.{Settled, and_on, first_readings, readings}
use Rattle.stream.specs.Family.{Family}
use Rattle.stream.specs.Demands.{as_told}
use Rattle.stream.specs.Slice.{Asked, asked_of, slice_most, refused, answered, asked, retells, Answers, seen_by, SliceReader, AskedFrom, ends, tells, AskedToTheEnd, AtPlace, SameAsStreaming, GetsOn, AsksExist, Kept, SlicesAsStreams}
use Rattle.stream.proofs.BytesOfParts.{bytes_drop}
use Rattle.stream.proofs.LoopScans.{scan_used, scan_uses, scan_none}
use Rattle.stream.proofs.PromiseOfStep.{in_room, rejoined, untouched, steps_seen}
use Rattle.stream.proofs.FamilyFacts.{found, Facts}
use Rattle.stream.proofs.Demands.{accepts}

-- ---- what the promise of `answer_at` gives a family, whatever its messages

-- in its bounds and lent enough, an ask is what the rule finds
pub asked_in : {K M : Type 0} (rule : K → List ℕ → Option (Settled (Event M))) (known_at : List ℕ → ℕ → K) (slice lent : List ℕ) (place : ℕ)
    → length slice ≤ slice_most → place ≤ length slice → lent_least ≤ length lent
    → asked rule known_at slice place lent ≡ answered place (length slice) (rule (known_at slice place) (drop place slice))
asked_in rule known_at slice lent place h i j = rw (le-ltb slice_most (length slice) h, le-ltb (length slice) place i, le-ltb (length lent) lent_least j)

-- what a scan came to is answered as the call is that made it
answered_found : {M : Type 0} (place end : ℕ) (o : Option (Event M)) (u : ℕ) → (o ≡ none → place + u ≡ end) → answered place end (found o u) ≡ asked_of (outcome o) (place + u)
answered_found place end none u h = ap (asked_of done) (sym (h refl))
answered_found place end (some e) u h = refl

module _ {K M H R : Type 0} (rule : K → List ℕ → Option (Settled (Event M))) (known_at : List ℕ → ℕ → K) (header : M → H) (payload : M → List ℕ) (shown : R → Asked H) where
  -- two results that the promise allows are shown alike, and the buffer holds the same
  pub answers_one : (slice lent a b : List ℕ) (place : ℕ) (q r : R)
      → Answers rule known_at header payload shown slice place lent q a → Answers rule known_at header payload shown slice place lent r b → (shown q ≡ shown r) × (a ≡ b)
  answers_one slice lent a b place q r x y = (x.0 ∙ sym y.0, x.1 ∙ sym y.1)

  -- ---- how an `answer_at` shows its promise, at each of its ends

  by_asked : (slice lent later : List ℕ) (place : ℕ) (r : R) (a : Asked M) → asked rule known_at slice place lent ≡ a → shown r ≡ retells header a → later ≡ delivered payload a.told lent
      → Answers rule known_at header payload shown slice place lent r later
  by_asked slice lent later place r a e x y =
      subst (λ (v : Asked M). (shown r ≡ retells header v) × (later ≡ delivered payload v.told lent)) (sym e) (x, y)

  pub answers_too_long : (slice lent : List ℕ) (place : ℕ) (r : R) → slice_most < length slice → shown r ≡ refused 23
      → Answers rule known_at header payload shown slice place lent r lent
  answers_too_long slice lent place r h x = by_asked slice lent lent place r (refused 23) (rw (lt-ltb slice_most (length slice) h)) x refl

  pub answers_past_end : (slice lent : List ℕ) (place : ℕ) (r : R) → length slice ≤ slice_most → length slice < place → shown r ≡ refused 24
      → Answers rule known_at header payload shown slice place lent r lent
  answers_past_end slice lent place r h i x = by_asked slice lent lent place r (refused 24) (rw (le-ltb slice_most (length slice) h, lt-ltb (length slice) place i)) x refl

  pub answers_no_room : (slice lent : List ℕ) (place : ℕ) (r : R) → length slice ≤ slice_most → place ≤ length slice → length lent < lent_least → shown r ≡ refused 9
      → Answers rule known_at header payload shown slice place lent r lent
  answers_no_room slice lent place r h i j x =
      by_asked slice lent lent place r (refused 9) (rw (le-ltb slice_most (length slice) h, le-ltb (length slice) place i, lt-ltb (length lent) lent_least j)) x refl

  pub answers_rule : (slice lent later : List ℕ) (place : ℕ) (r : R) (o : Option (Settled (Event M))) → length slice ≤ slice_most → place ≤ length slice → lent_least ≤ length lent
      → rule (known_at slice place) (drop place slice) ≡ o → shown r ≡ retells header (answered place (length slice) o) → later ≡ delivered payload (answered place (length slice) o).told lent
      → Answers rule known_at header payload shown slice place lent r later
  answers_rule slice lent later place r o h i j e x y =
      by_asked slice lent later place r (answered place (length slice) o) (asked_in rule known_at slice lent place h i j ∙ ap (answered place (length slice)) e) x y

  -- where a header and the data that stand in the buffer make up the message
  module _ (join : H → List ℕ → M) (joins : (m : M) (rest : List ℕ) → join (header m) (payload m ++ rest) ≡ m) where
    pub answers_seen : (slice lent later : List ℕ) (place : ℕ) (r : R) → Answers rule known_at header payload shown slice place lent r later
        → seen_by join shown r later ≡ asked rule known_at slice place lent
    answers_seen slice lent later place r st =
        let a = asked rule known_at slice place lent in
        ap (retells (λ h. join h later)) st.0
        ∙ ap {B = Asked M} (λ (l : List ℕ). record { number = a.number; told = retold (λ h. join h l) (retold header a.told); place = a.place }) st.1
        ∙ ap {B = Asked M} (λ (t : Told M). record { number = a.number; told = t; place = a.place }) (rejoined header payload join joins a.told lent)

    pub answers_keeps : (slice lent later : List ℕ) (place : ℕ) (r : R) → Answers rule known_at header payload shown slice place lent r later
        → ((m : M) → (seen_by join shown r later).told ≡ gives (message m) → ⊥) → later ≡ lent
    answers_keeps slice lent later place r st n =
        st.1 ∙ untouched payload (asked rule known_at slice place lent).told lent (λ m e. n m (ap (λ (v : Asked M). v.told) (answers_seen slice lent later place r st) ∙ e))

-- ---- and beside that of `step`

module _ {K S M H R Q : Type 0} (rule : K → List ℕ → Option (Settled (Event M))) (known_at : List ℕ → ℕ → K) (header : M → H) (payload : M → List ℕ) (shown : R → Asked H)
    (next : S → ℕ → Moved S (Event M)) (in_range : S → Bool) (stepped : Q → Seen S H) where
  -- a step that comes to what the rule finds from the place answers the ask; `found_of` puts its answer to a place
  pub step_answers : (found_of : Q → ℕ → R) → ((q : Q) (k : ℕ) → shown (found_of q k) ≡ record { number = (stepped q).number; told = (stepped q).told; place = k })
      → (s : S) (slice lent later : List ℕ) (place : ℕ) (q : Q) → length slice ≤ slice_most → place ≤ length slice → lent_least ≤ length lent → in_range s ≡ true
      → Steps next in_range header payload stepped s (drop place slice) lent q later
      → rule (known_at slice place) (drop place slice) ≡ found (scan next s (drop place slice)).event (scan next s (drop place slice)).used
      → Answers rule known_at header payload shown slice place lent (found_of q (place + (stepped q).used)) later
  step_answers found_of alike s slice lent later place q h i j k st e =
      let c = scan next s (drop place slice) in
      let called_is = in_room next in_range s (drop place slice) lent k j in
      let ended = answered_found place (length slice) c.event c.used (λ o. omega (arith, scan_none next s (drop place slice) o, length-drop place slice)) in
      by_asked rule known_at header payload shown slice lent later place (found_of q (place + (stepped q).used)) (asked_of (outcome c.event) (place + c.used))
      (asked_in rule known_at slice lent place h i j ∙ ap (answered place (length slice)) e ∙ ended)
      (alike q (place + (stepped q).used)
      ∙ ap {B = Asked H} (λ (v : Seen S H). record { number = v.number; told = v.told; place = place + v.used }) (st.0 ∙ ap (Call.retells header) called_is))
      (st.1 ∙ ap (λ (v : Seen S M). delivered payload v.told lent) called_is)

  -- and leaves the same in the buffer, where both tell the same
  pub leaves_same : (join : H → List ℕ → M) (joins : (m : M) (rest : List ℕ) → join (header m) (payload m ++ rest) ≡ m)
      → (s : S) (slice piece lent later laterStep : List ℕ) (place : ℕ) (r : R) (q : Q)
      → Answers rule known_at header payload shown slice place lent r later → Steps next in_range header payload stepped s piece lent q laterStep
      → (seen_by join shown r later).told ≡ (Call.seen_by join stepped q laterStep).told → later ≡ laterStep
  leaves_same join joins s slice piece lent later laterStep place r q a st same =
      let asks = ap (λ (v : Asked M). v.told) (answers_seen rule known_at header payload shown join joins slice lent later place r a) in
      let steps = ap (λ (v : Seen S M). v.told) (steps_seen next in_range header payload stepped join joins s piece lent laterStep q st) in
      a.1 ∙ ap (λ (t : Told M). delivered payload t lent) (sym asks ∙ same ∙ steps) ∙ sym st.1

-- ---- THE FACTS THAT A FAMILY'S READER OF SLICES HAS TO SHOW

-- an ask has a result
pub record HasAnswer (F : Family) (G : SliceReader F) (slice lent : List ℕ) (place : ℕ) : Type 0 where
  pub result : G.Found
  pub later : List ℕ
  pub answers : G.Answers slice place lent result later

pub record SliceFacts (F : Family) (facts : Facts F) (G : SliceReader F) : Type 1 where
  -- what it tells is what its promise says, and without a message the buffer is as it was
  pub asks : (slice lent later : List ℕ) (place : ℕ) (r : G.Found) → G.Answers slice place lent r later → G.seen r later ≡ asked F.rule G.known_at slice place lent
  pub keeps : (slice lent later : List ℕ) (place : ℕ) (r : G.Found) → G.Answers slice place lent r later
      → ((m : F.Message) → (G.seen r later).told ≡ gives (message m) → ⊥) → later ≡ lent
  -- at 0 nothing was seen, and after an event what is known after one
  pub start : (slice : List ℕ) → G.known_at slice 0 ≡ F.at_start
  pub edge : (slice : List ℕ) (place : ℕ) (p : Settled (Event F.Message)) → F.rule (G.known_at slice place) (drop place slice) ≡ some p
      → G.known_at slice (place + p.used) ≡ F.after_event
  -- a fresh reader that was handed what counts as seen stands where the rule begins
  pub handed_bytes : (known : F.Known) → T (are_bytes (G.handed_first known))
  pub ready : (known : F.Known) → facts.At known (scan facts.next F.fresh (G.handed_first known)).state
  -- a call of the streaming reader that comes to what the rule finds is a result of the ask too, and leaves the same in the buffer
  pub as_step : (s : F.State) (slice lent later : List ℕ) (place : ℕ) (q : F.Result) → length slice ≤ slice_most → place ≤ length slice → lent_least ≤ length lent
      → facts.in_range s ≡ true → F.Steps s (drop place slice) lent q later
      → F.rule (G.known_at slice place) (drop place slice) ≡ found (scan facts.next s (drop place slice)).event (scan facts.next s (drop place slice)).used
      → HasAnswer F G slice lent place
  pub leaves : (s : F.State) (slice piece lent later laterStep : List ℕ) (place : ℕ) (r : G.Found) (q : F.Result) → G.Answers slice place lent r later → F.Steps s piece lent q laterStep
      → (G.seen r later).told ≡ (F.seen q laterStep).told → later ≡ laterStep

-- ---- THE DEMANDS

some_some : {E : Type 0} (o : Option E) (u : ℕ) (p : Settled E) → found o u ≡ some p → (o ≡ some p.event) × (u ≡ p.used)
some_some none u p h = zero_is_one cc
some_some (some e) u p h = (cc, cc)

told_none : {M : Type 0} (place end : ℕ) (o : Option (Settled (Event M))) → (answered place end o).told ≡ done → o ≡ none
told_none place end none h = refl
told_none place end (some p) h = zero_is_one cc

told_some : {M : Type 0} (place end : ℕ) (o : Option (Settled (Event M))) (e : Event M) → (answered place end o).told ≡ gives e
    → (p : Settled (Event M)) × (o ≡ some p) × (p.event ≡ e) × ((answered place end o).place ≡ place + p.used)
told_some place end none e h = zero_is_one cc
told_some place end (some p) e h = (p, refl, cc, refl)

-- with a refusal the place is 0
refused_at : {K M : Type 0} (rule : K → List ℕ → Option (Settled (Event M))) (known_at : List ℕ → ℕ → K) (slice lent : List ℕ) (place n : ℕ)
    → (asked rule known_at slice place lent).told ≡ refuses n → (asked rule known_at slice place lent).place ≡ 0
refused_at {K} {M} rule known_at slice lent place n =
    go (ltb slice_most (length slice)) (ltb (length slice) place) (ltb (length lent) lent_least) (rule (known_at slice place) (drop place slice))
  where
    go : (a b c : Bool) (o : Option (Settled (Event M)))
        → (let q : Asked M = cond a (refused 23) (cond b (refused 24) (cond c (refused 9) (answered place (length slice) o))) in q.told ≡ refuses n → q.place ≡ 0)
    go true b c o = λ e. refl
    go false true c o = λ e. refl
    go false false true o = λ e. refl
    go false false false none = λ e. zero_is_one cc
    go false false false (some p) = λ e. zero_is_one cc

module _ (F : Family) (facts : Facts F) (G : SliceReader F) (own : SliceFacts F facts G) where
  abbrev M : Type 0
  M = F.Message

  -- a fresh reader that was handed what counts as seen
  abbrev ready_at : List ℕ → ℕ → F.State
  ready_at slice place = (scan facts.next F.fresh (G.handed_first (G.known_at slice place))).state

  -- the rule at a place, as the scan of that reader
  ruled_at : (slice : List ℕ) (place : ℕ) → T (are_bytes slice)
      → F.rule (G.known_at slice place) (drop place slice)
      ≡ found (scan facts.next (ready_at slice place) (drop place slice)).event (scan facts.next (ready_at slice place) (drop place slice)).used
  ruled_at slice place g = (facts.follows (G.known_at slice place) _ (own.ready (G.known_at slice place)) (drop place slice) (bytes_drop place slice g)).finds

  -- an event is past the place, and within the slice
  past : (slice : List ℕ) (place : ℕ) (p : Settled (Event M)) → T (are_bytes slice) → place ≤ length slice → F.rule (G.known_at slice place) (drop place slice) ≡ some p
      → (0 < p.used) × (place + p.used ≤ length slice)
  past slice place p g i e =
      let s = ready_at slice place in
      let c = scan facts.next s (drop place slice) in
      let two = some_some c.event c.used p (sym (ruled_at slice place g) ∙ e) in
      let most : c.used ≤ length (drop place slice) = scan_used facts.next s (drop place slice) in
      let some-there : 0 < length (drop place slice) = by_length (drop place slice) s p.event two.0 in
      (omega (arith, scan_uses facts.next s (drop place slice) some-there, two.1), omega (arith, most, two.1, length-drop place slice))
    where
      by_length : (bs : List ℕ) (s : F.State) (e : Event M) → (scan facts.next s bs).event ≡ some e → 0 < length bs
      by_length [] s e h = zero_is_one cc
      by_length (b ∷ bs) s e h = omega arith

  -- an event that was told, before what is told from the place given
  abbrev Reads : (slice : List ℕ) (place : ℕ) → List (Settled (Told M)) → Type 0
  Reads slice place ps = (n : ℕ) → length (drop place slice) ≤ n → ps ≡ map as_told (first_readings F.rule F.after_event n (G.known_at slice place) place (drop place slice))

  told_on : (slice : List ℕ) → T (are_bytes slice) → (place : ℕ) → place ≤ length slice → (p : Settled (Event M)) (e : Event M) (qs : List (Settled (Told M)))
      → F.rule (G.known_at slice place) (drop place slice) ≡ some p → p.event ≡ e → Reads slice (place + p.used) qs
      → Reads slice place (record { event = gives e; used = place + p.used } ∷ qs)
  told_on slice g place i p e qs hit is more zero k = absurd (omega (arith, past slice place p g i hit, length-drop place slice))
  told_on slice g place i p e qs hit is more (suc n) k =
      let two = past slice place p g i hit in
      let later = more n (omega (arith, two.0, two.1, length-drop place slice, length-drop (place + p.used) slice)) in
      ap₂ {C = List (Settled (Told M))} (λ (x : Event M) (l : List (Settled (Told M))). record { event = gives x; used = place + p.used } ∷ l) (sym is)
      (later
      ∙ ap₂ (λ (known : F.Known) (l : List ℕ). map as_told (first_readings F.rule F.after_event n known (place + p.used) l)) (own.edge slice place p hit) (sym (drop-drop p.used place slice)))
      ∙ sym (ap (λ (o : Option (Settled (Event M))). map as_told (and_on place o (λ u. first_readings F.rule F.after_event n F.after_event (place + u) (drop u (drop place slice))))) hit)

  told_off : (slice : List ℕ) (place : ℕ) → F.rule (G.known_at slice place) (drop place slice) ≡ none → Reads slice place []
  told_off slice place nothing zero k = refl
  told_off slice place nothing (suc n) k =
      sym (ap (λ (o : Option (Settled (Event M))). map as_told (and_on place o (λ u. first_readings F.rule F.after_event n F.after_event (place + u) (drop u (drop place slice))))) nothing)

  -- what an ask in its bounds tells
  asks_in : (slice lent later : List ℕ) (place : ℕ) (r : G.Found) → length slice ≤ slice_most → place ≤ length slice → lent_least ≤ length lent → G.Answers slice place lent r later
      → G.seen r later ≡ answered place (length slice) (F.rule (G.known_at slice place) (drop place slice))
  asks_in slice lent later place r h i room st = own.asks slice lent later place r st ∙ asked_in F.rule G.known_at slice lent place h i room

  -- asked on and on: what the rule reads from there
  asks_read : (slice : List ℕ) {place : ℕ} {ps : List (Settled (Told M))} → length slice ≤ slice_most → T (are_bytes slice) → place ≤ length slice → AskedFrom F G slice place ps → Reads slice place ps
  asks_read slice {place} h g i (ends lent later r room st d) =
      let seen = asks_in slice lent later place r h i room st in
      told_off slice place (told_none place (length slice) (F.rule (G.known_at slice place) (drop place slice)) (sym (ap (λ (a : Asked M). a.told) seen) ∙ d))
  asks_read slice {place} h g i (tells {told = qs} lent later r e room st d more) =
      let seen = asks_in slice lent later place r h i room st in
      let hit = told_some place (length slice) (F.rule (G.known_at slice place) (drop place slice)) e (sym (ap (λ (a : Asked M). a.told) seen) ∙ d) in
      let at : (G.seen r later).place ≡ place + hit.0.used = ap (λ (a : Asked M). a.place) seen ∙ hit.3 in
      let two = past slice place hit.0 g i hit.1 in
      let fits : (G.seen r later).place ≤ length slice = omega (arith, two.1, at) in
      subst (λ (k : ℕ). Reads slice place (record { event = gives e; used = k } ∷ qs)) (sym at)
      (told_on slice g place i hit.0 e qs hit.1 hit.2 (subst (λ (k : ℕ). Reads slice k qs) at (asks_read slice h g fits more)))

  pub same_as_streaming : SameAsStreaming F G
  same_as_streaming slice h g ps a cs al u =
      asks_read slice h g (omega arith) a (length slice) (omega arith)
      ∙ ap (λ (known : F.Known). map as_told (first_readings F.rule F.after_event (length slice) known 0 slice)) (own.start slice)
      ∙ ap (λ (l : List ℕ). map as_told (readings F.rule F.after_event F.at_start l)) (sym u)
      ∙ sym (accepts F facts cs al (subst (λ (l : List ℕ). T (are_bytes l)) (sym u) g))

  pub at_place : AtPlace F G
  at_place slice place h i g lent later r room st lentFirst laterFirst first roomFirst stFirst laterStep step stStep =
      let next = facts.next in
      let known = G.known_at slice place in
      let bs = drop place slice in
      let s = ready_at slice place in
      let one = facts.steps F.fresh (G.handed_first known) lentFirst laterFirst first stFirst
      ∙ in_room next facts.in_range F.fresh (G.handed_first known) lentFirst facts.fresh_in_range roomFirst in
      let state : (F.seen first laterFirst).state ≡ s = ap (λ (v : Seen F.State M). v.state) one in
      let ranged = facts.stays_in_range F.fresh (G.handed_first known) lentFirst laterFirst first stFirst facts.fresh_in_range in
      let two = facts.steps (F.seen first laterFirst).state bs lent laterStep step stStep
      ∙ in_room next facts.in_range (F.seen first laterFirst).state bs lent ranged room
      ∙ ap (λ (t : F.State). Call.answered (scan next t bs)) state in
      let c = scan next s bs in
      let seen = asks_in slice lent later place r h i room st ∙ ap (answered place (length slice)) (ruled_at slice place g)
      ∙ answered_found place (length slice) c.event c.used (λ e. omega (arith, scan_none next s bs e, length-drop place slice)) in
      let tells-same : (G.seen r later).told ≡ (F.seen step laterStep).told = ap (λ (a : Asked M). a.told) seen ∙ sym (ap (λ (v : Seen F.State M). v.told) two) in (
        tells-same,
        ap (λ (a : Asked M). a.place) seen ∙ ap (λ (n : ℕ). place + n) (sym (ap (λ (v : Seen F.State M). v.used) two)),
        own.leaves (F.seen first laterFirst).state slice bs lent later laterStep place r step st stStep tells-same,
      )

  pub gets_on : GetsOn F G
  gets_on slice place h i g lent later r room st =
      let seen = asks_in slice lent later place r h i room st in
      let o = F.rule (G.known_at slice place) (drop place slice) in (
        (λ e d.
            let hit = told_some place (length slice) o e (sym (ap (λ (a : Asked M). a.told) seen) ∙ d) in
            let two = past slice place hit.0 g i hit.1 in
            let at : (G.seen r later).place ≡ place + hit.0.used = ap (λ (a : Asked M). a.place) seen ∙ hit.3 in
            (omega (arith, two.0, at), omega (arith, two.1, at))),
        (λ d.
            let nothing = told_none place (length slice) o (sym (ap (λ (a : Asked M). a.told) seen) ∙ d) in
            ap (λ (a : Asked M). a.place) seen ∙ ap (λ (x : Option (Settled (Event M))). (answered place (length slice) x).place) nothing),
      )

  pub kept : Kept F G
  kept slice place lent later r st =
      let seen = own.asks slice lent later place r st in (
        own.keeps slice lent later place r st,
        (λ n d.
            ap (λ (a : Asked M). a.place) seen
            ∙ refused_at F.rule G.known_at slice lent place n (sym (ap (λ (a : Asked M). a.told) seen) ∙ d)),
      )

  -- an ask within the slice has a result: a call of the streaming reader has one
  answer_there : (slice lent : List ℕ) (place : ℕ) → length slice ≤ slice_most → place ≤ length slice → T (are_bytes slice) → lent_least ≤ length lent → HasAnswer F G slice lent place
  answer_there slice lent place h i g room =
      let known = G.known_at slice place in
      let s = ready_at slice place in
      let ranged : facts.in_range s ≡ true = ready_ranged known lent room in
      let made = facts.results s (drop place slice) lent ranged (bytes_drop place slice g) room in
      own.as_step s slice lent made.later place made.result h i room ranged made.steps (ruled_at slice place g)
    where
      ready_ranged : (known : F.Known) (lent : List ℕ) → lent_least ≤ length lent → facts.in_range (scan facts.next F.fresh (G.handed_first known)).state ≡ true
      ready_ranged known lent room =
          let made = facts.results F.fresh (G.handed_first known) lent facts.fresh_in_range (own.handed_bytes known) room in
          let seen = facts.steps F.fresh (G.handed_first known) lent made.later made.result made.steps
          ∙ in_room facts.next facts.in_range F.fresh (G.handed_first known) lent facts.fresh_in_range room in
          ap (λ (v : Seen F.State M). facts.in_range v.state) (sym seen)
          ∙ facts.stays_in_range F.fresh (G.handed_first known) lent made.later made.result made.steps facts.fresh_in_range

  -- asked on and on from a place, in at most n asks
  go_on : (slice : List ℕ) → length slice ≤ slice_most → T (are_bytes slice) → (lent : ℕ → List ℕ) → ((place : ℕ) → lent_least ≤ length (lent place))
      → (n place : ℕ) → place ≤ length slice → length slice - place < n → AskedToTheEnd F G slice place
  go_on slice h g lent room zero place i k = absurd (omega arith)
  go_on slice h g lent room (suc n) place i k =
      let there = answer_there slice (lent place) place h i g (room place) in
      let seen = asks_in slice (lent place) there.later place there.result h i (room place) there.answers in
      let o = F.rule (G.known_at slice place) (drop place slice) in
      by_found o refl there.result there.later there.answers (ap (λ (a : Asked M). a.told) seen) (ap (λ (a : Asked M). a.place) seen)
      (λ at j m. go_on slice h g lent room n at j m)
    where
      by_found : (o : Option (Settled (Event M))) → F.rule (G.known_at slice place) (drop place slice) ≡ o
          → (r : G.Found) (later : List ℕ) → G.Answers slice place (lent place) r later
          → (G.seen r later).told ≡ (answered place (length slice) o).told → (G.seen r later).place ≡ (answered place (length slice) o).place
          → ((at : ℕ) → at ≤ length slice → length slice - at < n → AskedToTheEnd F G slice at) → AskedToTheEnd F G slice place
      by_found none e r later st t p on = record { told = []; asks = ends (lent place) later r (room place) st t }
      by_found (some q) e r later st t p on =
          let two = past slice place q g i e in
          let rest = on (G.seen r later).place (omega (arith, p, two.1)) (omega (arith, p, two.0, two.1, k)) in
          record { told = _; asks = tells (lent place) later r q.event (room place) st t rest.asks }

  pub asks_exist : AsksExist F G
  asks_exist slice h g lent room = go_on slice h g lent room (suc (length slice)) 0 (omega arith) (omega arith)

  pub slices_as_streams : SlicesAsStreams F G
  slices_as_streams = record {
    at_place = at_place;
    same_as_streaming = same_as_streaming;
    gets_on = gets_on;
    asks_exist = asks_exist;
    kept = kept;
  }
