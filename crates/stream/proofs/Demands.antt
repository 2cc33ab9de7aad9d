-- The demands, for every family that shows its facts.
-- Assumes nothing.
use Prim.Native.Nat.{ℕ, zero, suc, ◌+◌, ◌-◌, ◌≤◌, ◌<◌}
use mathlib.Core.Path.{◌≡◌, refl, sym, ap, ap₂, ◌∙◌, subst}
use mathlib.Core.Bool.{Bool, true, false, cond}
use mathlib.Core.Option.{Option, none, some}
use mathlib.Core.List.{List, [], ◌∷◌, ◌++◌, map, flatten, append_assoc}
use lib.ListN.{length, take, drop, length-append, length-drop, take-append-drop, drop_of_length-le}
use lib.Seq.{take-add, drop-drop}
use lib.Dec.{T, ltb}
use lib.Pow.{are_bytes}
use native.Mathlib.Omega.{arith}
use Rattle.numbers.proofs.Alike.{zero_is_one}
use Rattle.stream.specs.Event.{Event, message, Told, done, gives, refuses, outcome}
use Rattle.stream.specs.Pieces.{Moved, Called, scan}
use Rattle.stream.specs.Call.{Seen, lent_least, unmoved, answered, called}
use Rattle.stream.specs.Written.{written, ended, Each}
use Rattle.stream.specs.Rule.{Settled, and_on, first_readings, readings}
use Rattle.stream.specs.Family.{Family, Call, told_before, sees, Allowed, used, told_from, Serves, ends, turns, calls}
use Rattle.stream.specs.Demands.{as_told, EndsWith, Accepts, BorneOut, Sound, ReadsBack, InPieces, CutAnywhere, Served, CallsExist, Handed, UsedUp, Different, Kept, NeverSpoilt, Demands}
use Rattle.stream.proofs.BytesOfParts.{bytes_append, bytes_left, bytes_right, bytes_drop}
use Rattle.stream.proofs.CallsComeTo.{settled_before, events, settled_in, settled_in_events, scan_settled_in}
use Rattle.stream.proofs.LoopScans.{scan_used, scan_uses, scan_none, scan_front}
use Rattle.stream.proofs.WrittenIsGiven.{got_at, Reads, all_given, given_at, given, told_apart}
use Rattle.stream.proofs.PromiseOfStep.{in_room}
use Rattle.stream.proofs.FamilyFacts.{found, Facts}
use Rattle.stream.proofs.BorneOutByBytes.{ends_later, borne_later}

-- ---- what is told by different names is different

done_refuses : {M : Type 0} {n : ℕ} → ◌≡◌ {A = Told M} done (refuses n) → ⊥
done_refuses h = zero_is_one cc

gives_refuses : {M : Type 0} {e : Event M} {n : ℕ} → gives e ≡ refuses n → ⊥
gives_refuses h = zero_is_one cc

nine_eighteen : {M : Type 0} → ◌≡◌ {A = Told M} (refuses 9) (refuses 18) → ⊥
nine_eighteen h = let z : ◌≡◌ {A = ℕ} 9 18 = cc in omega arith

no_refusal : {M : Type 0} (o : Option (Event M)) (n : ℕ) → outcome o ≡ refuses n → ⊥
no_refusal none n h = done_refuses h
no_refusal (some e) n h = gives_refuses h

told_done : {M : Type 0} (o : Option (Event M)) → outcome o ≡ done → o ≡ none
told_done none h = refl
told_done (some e) h = zero_is_one cc

-- ---- a call that is not refused is the scan of its piece

module _ {S M : Type 0} (next : S → ℕ → Moved S (Event M)) (in_range : S → Bool) (s : S) (piece lent : List ℕ) where
  by_tests : (t u : Bool) (c : Called S (Event M))
      → ((n : ℕ) → (cond t (cond u (unmoved {M = M} 9 s) (answered c)) (unmoved 18 s)).told ≡ refuses n → ⊥)
      → cond t (cond u (unmoved {M = M} 9 s) (answered c)) (unmoved 18 s) ≡ answered c
  by_tests true true c h = absurd (h 9 refl)
  by_tests true false c h = refl
  by_tests false u c h = absurd (h 18 refl)

  unrefused : ((n : ℕ) → (called next in_range s piece lent).told ≡ refuses n → ⊥) → called next in_range s piece lent ≡ answered (scan next s piece)
  unrefused h = by_tests (in_range s) (ltb (length lent) lent_least) (scan next s piece) h

  refusal_keeps : (n : ℕ) → (called next in_range s piece lent).told ≡ refuses n → ((called next in_range s piece lent).state ≡ s) × ((called next in_range s piece lent).used ≡ 0)
  refusal_keeps n = go (in_range s) (ltb (length lent) lent_least) (scan next s piece).event refl
    where
      go : (t u : Bool) (o : Option (Event M)) → (scan next s piece).event ≡ o → (cond t (cond u (unmoved {M = M} 9 s) (answered (scan next s piece))) (unmoved 18 s)).told ≡ refuses n
          → ((cond t (cond u (unmoved {M = M} 9 s) (answered (scan next s piece))) (unmoved 18 s)).state ≡ s) × ((cond t (cond u (unmoved {M = M} 9 s) (answered (scan next s piece))) (unmoved 18 s)).used ≡ 0)
      go true true o e h = (refl, refl)
      go true false none e h = absurd (done_refuses (ap outcome (sym e) ∙ h))
      go true false (some x) e h = absurd (gives_refuses (ap outcome (sym e) ∙ h))
      go false u o e h = (refl, refl)

  not_spoilt : ((called next in_range s piece lent).told ≡ refuses 18 → ⊥) → in_range s ≡ true
  not_spoilt = go (in_range s) (ltb (length lent) lent_least) refl
    where
      go : (t u : Bool) → in_range s ≡ t → ((cond t (cond u (unmoved {M = M} 9 s) (answered (scan next s piece))) (unmoved 18 s)).told ≡ refuses 18 → ⊥) → t ≡ true
      go true u e h = refl
      go false u e h = absurd (h refl)

  spoilt_only : in_range s ≡ true → (called next in_range s piece lent).told ≡ refuses 18 → ⊥
  spoilt_only r = rw r (go (ltb (length lent) lent_least) (scan next s piece).event refl)
    where
      go : (u : Bool) (o : Option (Event M)) → (scan next s piece).event ≡ o → (cond u (unmoved {M = M} 9 s) (answered (scan next s piece))).told ≡ refuses 18 → ⊥
      go true o e h = nine_eighteen h
      go false none e h = done_refuses (ap outcome (sym e) ∙ h)
      go false (some x) e h = gives_refuses (ap outcome (sym e) ∙ h)

-- ---- what is told is what the bytes used come to, each event at its place

told_settled_in : {M : Type 0} (o : Option (Event M)) (at : ℕ) (ps : List (Settled (Event M))) → told_before (outcome o) at (map as_told ps) ≡ map as_told (settled_before o at ps)
told_settled_in none at ps = refl
told_settled_in (some e) at ps = refl

-- ---- an event that a call found is the one that the rule found

found_some : {E : Type 0} (o : Option E) (u : ℕ) (p : Settled E) → found o u ≡ some p → (o ≡ some p.event) × (u ≡ p.used)
found_some none u p h = zero_is_one cc
found_some (some e) u p h = (cc, cc)

-- so bytes in which the rule finds an event at the last are read
pub found_reads : {S E : Type 0} (next : S → ℕ → Moved S E) {Rest : S → Type 0} (s : S) (w : List ℕ) (e : E)
    → found (scan next s w).event (scan next s w).used ≡ some (record { event = e; used = length w })
    → ((e : E) → (scan next s w).event ≡ some e → Rest (scan next s w).state) → Reads next Rest s w e
found_reads {S} {E} next s w e h rests =
    let p = found_some (scan next s w).event (scan next s w).used _ h in
    record {
      state = (scan next s w).state;
      rests = rests e p.0;
      call = ap₂ {C = Called S E} (λ (o : Option E) (u : ℕ). record { state = (scan next s w).state; event = o; used = u }) p.0 p.1;
    }

-- what a call found, and what the bytes after it come to, is what the rule finds, and goes on to find
found_on_lem : {E : Type 0} (o : Option E) (at u : ℕ) (more : List (Settled E)) (later : ℕ → List (Settled E))
    → (o ≡ none → more ≡ []) → ((e : E) → o ≡ some e → more ≡ later u) → settled_before o (at + u) more ≡ and_on at (found o u) later
found_on_lem none at u more later n g = n refl
found_on_lem (some e) at u more later n g = ap {B = List (Settled _)} (λ ps. record { event = e; used = at + u } ∷ ps) (g e refl)

-- ---- each piece called on until it is used up

served : (F : Family) {s : F.State} {ps : List (List ℕ)} {cs : List (Call F.Result)} → Serves F s ps cs → Allowed F s cs × (used F cs ≡ flatten ps)
unfolding flatten
served F ends = (tt, refl)
served F (turns more) = served F more
served F (calls {ps} p lent later r room st more) =
    let rest = served F more in
    let u = (F.seen r later).used in
    ((room, st, rest.0), ap (λ (l : List ℕ). take u p ++ l) rest.1 ∙ sym (append_assoc (take u p) (drop u p) (flatten ps)) ∙ ap (λ (l : List ℕ). l ++ flatten ps) (take-append-drop u p))

pub in_pieces : (F : Family) → InPieces F
in_pieces F s ps cs h = served F h

module _ (F : Family) (facts : Facts F) where
  -- the machine's events, each at its place, are those of the rule
  shorter : (n : ℕ) (s : F.State) (bs : List ℕ) → length bs ≤ suc n → length (drop (scan facts.next s bs).used bs) ≤ n
  shorter n s [] h = simp length-drop (omega arith)
  shorter n s (b ∷ bs) h = simp length-drop (omega (arith, scan_uses facts.next s (b ∷ bs) (omega arith)))

  pub ruled : (n : ℕ) (bs : List ℕ) → length bs ≤ n → (known : F.Known) (s : F.State) → facts.At known s → T (are_bytes bs) → (at : ℕ)
      → settled_in facts.next at s bs ≡ first_readings F.rule F.after_event n known at bs
  ruled zero [] h known s a g at = refl
  ruled zero (b ∷ bs) h known s a g at = absurd (omega arith)
  ruled (suc n) bs h known s a g at =
      let next = facts.next in
      let f = facts.follows known s a bs g in
      let u = (scan next s bs).used in
      let t = (scan next s bs).state in
      ap (settled_in next at s) (sym (take-append-drop u bs)) ∙ scan_settled_in next s bs (drop u bs) at
      ∙ found_on_lem (scan next s bs).event at u (settled_in next (at + u) t (drop u bs)) (λ v. first_readings F.rule F.after_event n F.after_event (at + v) (drop v bs))
      (λ e. ap (settled_in next (at + u) t) (drop_of_length-le bs {i = u} (omega (arith, scan_none next s bs e))))
      (λ e p. ruled n (drop u bs) (shorter n s bs h) F.after_event t (f.goes_on e p) (bytes_drop u bs g) (at + u))
      ∙ ap (λ (o : Option (Settled (Event F.Message))). and_on at o (λ v. first_readings F.rule F.after_event n F.after_event (at + v) (drop v bs))) (sym f.finds)

  -- and so without the places: from fresh, the events of the machine are those that the rule finds
  pub events_found : (bs : List ℕ) → T (are_bytes bs)
      → events facts.next F.fresh bs ≡ map (λ p. p.event) (readings F.rule F.after_event F.at_start bs)
  events_found bs g =
      sym (settled_in_events facts.next 0 F.fresh bs)
      ∙ ap (map (λ p. p.event)) (ruled (length bs) bs (omega arith) F.at_start F.fresh facts.at_start_lem g 0)

  -- what the calls told is what the machine makes of the bytes they used
  pub told_is : (cs : List (Call F.Result)) (s : F.State) → facts.in_range s ≡ true → Allowed F s cs → (at : ℕ)
      → told_from F at cs ≡ map as_told (settled_in facts.next at s (used F cs))
  told_is [] s r al at = refl
  told_is (c ∷ cs) s r al at =
      let next = facts.next in
      let one : sees F c ≡ answered (scan next s c.piece) = facts.steps s c.piece c.lent c.later c.result al.1 ∙ in_room next facts.in_range s c.piece c.lent r al.0 in
      let kept = facts.stays_in_range s c.piece c.lent c.later c.result al.1 r in
      let rest = told_is cs (sees F c).state kept al.2 (at + (sees F c).used) in
      ap (told_before (sees F c).told (at + (sees F c).used)) rest
      ∙ ap (λ (v : Seen F.State F.Message). told_before v.told (at + v.used) (map as_told (settled_in next (at + v.used) v.state (used F cs)))) one
      ∙ told_settled_in (scan next s c.piece).event _ _
      ∙ ap (map as_told) (sym (scan_settled_in next s c.piece (used F cs) at))
      ∙ ap (λ (v : Seen F.State F.Message). map as_told (settled_in next at s (take v.used c.piece ++ used F cs))) (sym one)

  pub accepts : Accepts F
  accepts cs al g =
      told_is cs F.fresh facts.fresh_in_range al 0
      ∙ ap (map as_told) (ruled (length (used F cs)) (used F cs) (omega arith) F.at_start F.fresh facts.at_start_lem g 0)

  -- what the rule finds in all the bytes, from some of them on, is borne out by all of them
  abbrev AllBorne : List ℕ → List (Settled (Event F.Message)) → Type 0
  AllBorne whole = Each (λ p. BorneOut F (take p.used whole) (gives p.event))

  all_borne : (n : ℕ) (known : F.Known) (at : ℕ) (whole : List ℕ) → T (are_bytes whole) → EndsWith (facts.last_known known) (take at whole)
      → AllBorne whole (first_readings F.rule F.after_event n known at (drop at whole))
  all_borne zero known at whole g e = tt
  all_borne (suc n) known at whole g e = go (F.rule known (drop at whole)) refl (λ a f. all_borne n F.after_event a whole g f)
    where
      go : (o : Option (Settled (Event F.Message))) → F.rule known (drop at whole) ≡ o
          → ((a : ℕ) → EndsWith (facts.last_known F.after_event) (take a whole) → AllBorne whole (first_readings F.rule F.after_event n F.after_event a (drop a whole)))
          → AllBorne whole (and_on at o (λ u. first_readings F.rule F.after_event n F.after_event (at + u) (drop u (drop at whole))))
      go none q ih = tt
      go (some p) q ih =
          let u = p.used in
          let part : List ℕ = facts.last_known known ++ take u (drop at whole) in
          let b = facts.borne_out known (drop at whole) (bytes_drop at whole g) p q in
          let split : take (at + u) whole ≡ e.front ++ part = take-add at u whole ∙ ap (λ (l : List ℕ). l ++ take u (drop at whole)) e.joins ∙ append_assoc e.front (facts.last_known known) (take u (drop at whole)) in (
            subst (λ (l : List ℕ). BorneOut F l (gives p.event)) (sym split) (borne_later F e.front part (gives p.event) b.0),
            subst (λ (l : List ℕ). AllBorne whole (first_readings F.rule F.after_event n F.after_event (at + u) l)) (sym (drop-drop u at whole))
                (ih (at + u) (subst (EndsWith (facts.last_known F.after_event)) (sym split) (ends_later e.front b.1))),
          )

  told_borne : (whole : List ℕ) (ps : List (Settled (Event F.Message))) → AllBorne whole ps → Each (λ p. BorneOut F (take p.used whole) p.event) (map as_told ps)
  told_borne whole [] b = tt
  told_borne whole (p ∷ ps) b = (b.0, told_borne whole ps b.1)

  pub sound : Sound F
  sound cs al g =
      let whole = used F cs in
      let none_yet : EndsWith (facts.last_known F.at_start) [] = record { front = []; joins = sym facts.none_at_start } in
      subst (Each (λ p. BorneOut F (take p.used whole) p.event)) (sym (accepts cs al g))
      (told_borne whole (readings F.rule F.after_event F.at_start whole) (all_borne (length whole) F.at_start 0 whole g none_yet))

  -- a state in which a message may begin to be read
  abbrev pub Rest : F.State → Type 0
  Rest s = (known : F.Known) × facts.At known s

  pub reads_at_rest : (s : F.State) → Rest s → (m : F.Message) → F.Takes m → Reads facts.next Rest s (F.wire m) (message m)
  reads_at_rest s rest m t =
      let f = facts.follows rest.0 s rest.1 (F.wire m) (facts.wire_bytes m t) in
      found_reads facts.next s (F.wire m) (message m) (sym f.finds ∙ facts.reads rest.0 m t) (λ e p. (F.after_event, f.goes_on e p))

  fresh_rests : Rest F.fresh
  fresh_rests = (F.at_start, facts.at_start_lem)

  pub reads_back : ReadsBack F
  reads_back m t room frame w n wr len rest lent later r h st =
      let next = facts.next in
      let k = reads_at_rest F.fresh fresh_rests m t in
      let wrote = facts.writes m room frame w n wr len in
      let whole : scan next F.fresh (take n frame ++ rest) ≡ record { state = k.state; event = some (message m); used = length (F.wire m) } =
      ap (λ (v : List ℕ). scan next F.fresh (v ++ rest)) wrote.0
      ∙ scan_front next F.fresh (F.wire m) rest (message m) (ap (λ (c : Called F.State (Event F.Message)). c.event) k.call)
      ∙ k.call in
      let seen = facts.steps F.fresh (take n frame ++ rest) lent later r st ∙ in_room next facts.in_range F.fresh (take n frame ++ rest) lent facts.fresh_in_range h ∙ ap answered whole in
      (ap (λ (v : Seen F.State F.Message). v.told) seen, ap (λ (v : Seen F.State F.Message). v.used) seen ∙ sym wrote.1)

  -- messages written one after another come to those messages, in order, and to nothing else; and they are bytes
  pub events_written : (ms : List F.Message) → Each F.Takes ms → events facts.next F.fresh (written F.wire ms) ≡ map message ms
  events_written = all_given facts.next F.wire message F.Takes Rest reads_at_rest F.fresh fresh_rests

  -- the first n bytes of messages, from any state in which one may begin to be read: each message at its last byte, and nothing else
  pub settled_written : (known : F.Known) (s : F.State) → facts.At known s → (ms : List F.Message) → Each F.Takes ms → (n at : ℕ)
      → settled_in facts.next at s (take n (written F.wire ms)) ≡ got_at F.wire message at (take (ended F.wire n ms) ms)
  settled_written known s a = given_at facts.next F.wire message F.Takes Rest reads_at_rest s (known, a)

  pub written_bytes : (ms : List F.Message) → Each F.Takes ms → T (are_bytes (written F.wire ms))
  written_bytes [] g = tt
  written_bytes (m ∷ ms) g = bytes_append (F.wire m) (written F.wire ms) (facts.wire_bytes m g.0) (written_bytes ms g.1)

  told_events : (ps : List (Settled (Event F.Message))) → map (λ p. p.event) (map as_told ps) ≡ map gives (map (λ p. p.event) ps)
  told_events [] = refl
  told_events (p ∷ ps) = ap {B = List (Told F.Message)} (λ es. gives p.event ∷ es) (told_events ps)

  told_messages : (ms : List F.Message) → map gives (map message ms) ≡ map (λ m. gives (message m)) ms
  told_messages [] = refl
  told_messages (m ∷ ms) = ap {B = List (Told F.Message)} (λ es. gives (message m) ∷ es) (told_messages ms)

  pub handed : Handed F
  handed ms g n cs al cut =
      let next = facts.next in
      ap (map (λ p. p.event)) (told_is cs F.fresh facts.fresh_in_range al 0)
      ∙ told_events (settled_in next 0 F.fresh (used F cs))
      ∙ ap (map gives) (settled_in_events next 0 F.fresh (used F cs) ∙ ap (events next F.fresh) cut
      ∙ given next F.wire message F.Takes Rest reads_at_rest F.fresh fresh_rests ms g n)
      ∙ told_messages (take (ended F.wire n ms) ms)

  pub cut_anywhere : CutAnywhere F
  cut_anywhere ms g n ps cut cs h =
      let all = served F h in
      handed ms g n cs all.0 (all.1 ∙ cut)

  -- ---- the calls exist: where n bounds bytes and pieces together, each call and each piece used up makes both fewer

  module _ (lent : ℕ → List ℕ) (room : (n : ℕ) → lent_least ≤ length (lent n)) where
    one_call : (s : F.State) (b : ℕ) (bs : List ℕ) (ps : List (List ℕ)) (at : ℕ) → facts.in_range s ≡ true → T (are_bytes (b ∷ bs))
        → ((t : F.State) (u : ℕ) → facts.in_range t ≡ true → 0 < u → Served F t (drop u (b ∷ bs) ∷ ps) lent (suc at)) → Served F s ((b ∷ bs) ∷ ps) lent at
    unfolding flatten
    one_call s b bs ps at i g on =
        let next = facts.next in
        let p = b ∷ bs in
        let has = facts.results s p (lent at) i g (room at) in
        let r = has.result in
        let later = has.later in
        let one : F.seen r later ≡ answered (scan next s p) = facts.steps s p (lent at) later r has.steps ∙ in_room next facts.in_range s p (lent at) i (room at) in
        let u = (F.seen r later).used in
        let count : u ≡ (scan next s p).used = ap (λ (v : Seen F.State F.Message). v.used) one in
        let some : 0 < u = omega (arith, scan_uses next s p (omega arith)) in
        let rest = on (F.seen r later).state u (facts.stays_in_range s p (lent at) later r has.steps i) some in
        let fewer : length (drop u p ++ flatten ps) ≡ length p - u + length (flatten ps) = length-append (drop u p) (flatten ps) ∙ ap (λ (k : ℕ). k + length (flatten ps)) (length-drop u p) in
        record {
          made = record { piece = p; lent = lent at; result = r; later = later } ∷ rest.made;
          serves = calls p (lent at) later r (room at) has.steps rest.serves;
          lends = (refl, rest.lends);
          ends = rw length-append (omega (arith, rest.ends, fewer, count, scan_used next s p));
          unrefused = (λ why e. no_refusal (scan next s p).event why (sym (ap (λ (v : Seen F.State F.Message). v.told) one) ∙ e), rest.unrefused);
        }

    serve : (n : ℕ) (s : F.State) (ps : List (List ℕ)) (at : ℕ) → facts.in_range s ≡ true → T (are_bytes (flatten ps)) → length (flatten ps) + length ps ≤ n → Served F s ps lent at
    unfolding flatten
    serve n s [] at i g h = record { made = []; serves = ends; lends = tt; ends = omega arith; unrefused = tt }
    serve zero s (p ∷ ps) at i g h = absurd (omega arith)
    serve (suc n) s ([] ∷ ps) at i g h =
        let rest = serve n s ps at i g (omega arith) in
        record { made = rest.made; serves = turns rest.serves; lends = rest.lends; ends = rest.ends; unrefused = rest.unrefused }
    serve (suc n) s ((b ∷ bs) ∷ ps) at i g h =
        one_call s b bs ps at i (bytes_left (b ∷ bs) (flatten ps) g)
        (λ t u j some. serve n t (drop u (b ∷ bs) ∷ ps) (suc at) j (bytes_append (drop u (b ∷ bs)) (flatten ps) (bytes_drop u (b ∷ bs) (bytes_left (b ∷ bs) (flatten ps) g)) (bytes_right (b ∷ bs) (flatten ps) g))
        (omega (arith, length-append (drop u (b ∷ bs)) (flatten ps), length-drop u (b ∷ bs), length-append (b ∷ bs) (flatten ps), some)))

  pub calls_exist : CallsExist F
  calls_exist ps g lent room = serve lent room (length (flatten ps) + length ps) F.fresh ps 0 facts.fresh_in_range g (omega arith)

  pub different : Different F
  different = told_apart facts.next F.wire message F.Takes Rest reads_at_rest (λ a b e. cc) F.fresh fresh_rests

  pub used_up : UsedUp F
  used_up s piece lent later r st n =
      let next = facts.next in
      let seen = facts.steps s piece lent later r st in
      let one : F.seen r later ≡ answered (scan next s piece) = seen ∙ unrefused next facts.in_range s piece lent (λ k e. n k (ap (λ (v : Seen F.State F.Message). v.told) seen ∙ e)) in
      let count : (F.seen r later).used ≡ (scan next s piece).used = ap (λ (v : Seen F.State F.Message). v.used) one in (
        omega (arith, scan_used next s piece),
        λ h. omega (arith, scan_uses next s piece h),
        λ h. count ∙ scan_none next s piece (told_done _ (sym (ap (λ (v : Seen F.State F.Message). v.told) one) ∙ h)),
      )

  pub kept : Kept F
  kept = (
    facts.writes_nothing,
    facts.keeps,
    λ s piece lent later r n st e.
        let seen = facts.steps s piece lent later r st in
        let k = refusal_keeps facts.next facts.in_range s piece lent n (sym (ap (λ (v : Seen F.State F.Message). v.told) seen) ∙ e) in
        (ap (λ (v : Seen F.State F.Message). v.state) seen ∙ k.0, ap (λ (v : Seen F.State F.Message). v.used) seen ∙ k.1),
  )

  pub never_spoilt : NeverSpoilt F
  never_spoilt = (
    λ piece lent later r st e. never F.fresh piece lent later r facts.fresh_in_range st e,
    λ s piece lent later r st n piece' lent' later' r' st' e.
        let seen = facts.steps s piece lent later r st in
        let good : facts.in_range s ≡ true = not_spoilt facts.next facts.in_range s piece lent (λ q. n (ap (λ (v : Seen F.State F.Message). v.told) seen ∙ q)) in
        never (F.seen r later).state piece' lent' later' r' (facts.stays_in_range s piece lent later r st good) st' e,
  )
    where
      never : (s : F.State) (piece lent later : List ℕ) (r : F.Result) → facts.in_range s ≡ true → F.Steps s piece lent r later → (F.seen r later).told ≡ refuses 18 → ⊥
      never s piece lent later r good st e =
          spoilt_only facts.next facts.in_range s piece lent good (sym (ap (λ (v : Seen F.State F.Message). v.told) (facts.steps s piece lent later r st)) ∙ e)

pub demands : (F : Family) → Facts F → Demands F
demands F facts = record {
  accepts = accepts F facts;
  sound = sound F facts;
  reads_back = reads_back F facts;
  cut_anywhere = cut_anywhere F facts;
  calls_exist = calls_exist F facts;
  handed = handed F facts;
  used_up = used_up F facts;
  different = different F facts;
  kept = kept F facts;
  never_spoilt = never_spoilt F facts;
}
