-- What is told of messages behind a storm, for every family that shows its facts: all of them, where from every state the first byte of the first one
-- opens; all but the first, where its last byte closes; none, where a message is swallowed, and leaves what swallows the next.
-- Assumes nothing.
use Prim.Native.Nat.{ℕ, zero, suc, ◌+◌, ◌-◌, ◌≤◌, ◌<◌}
use mathlib.Core.Path.{◌≡◌, refl, sym, ap, ◌∙◌, subst}
use mathlib.Core.Bool.{Bool, true, false, cond}
use mathlib.Core.Option.{Option, none, some}
use mathlib.Core.List.{List, [], ◌∷◌, ◌++◌, map, flatten, append-nil, map-append}
use lib.ListN.{length, take, drop, replicate, length-append, length-replicate}
use lib.Seq.{take-length}
use lib.Dec.{T, leb}
use lib.Pow.{are_bytes}
use borrow.Author.Tests.{le-leb, leb-true, leb-false}
use native.Mathlib.Nat.{zero-add, le_of_eq}
use native.Mathlib.Omega.{arith}
use Rattle.numbers.proofs.Alike.{zero_is_one}
use Rattle.stream.specs.Event.{Event, message, damage, Told, gives}
use Rattle.stream.specs.Call.{lent_least}
use Rattle.stream.specs.Rule.{Settled, first_readings, readings}
use Rattle.stream.specs.Written.{written, ended, Each}
use Rattle.stream.specs.Family.{Family, Call, Allowed, used, told_from}
use Rattle.stream.specs.Demands.{as_told}
use Rattle.stream.specs.Storm.{AtMostOne, no_more, one_more, ItselfOrDamage, not_yet, Heard, told_at, ToldAfter, handed_over, ToldAll, AfterStorm, HandedAfterStorm, AllButFirst, Damages, Swallowed, NeverRead}
use Rattle.stream.proofs.BytesOfParts.{bytes_append}
use Rattle.stream.proofs.CallsComeTo.{settled_before, after, settled_in, settled_in_append}
use Rattle.stream.proofs.WrittenIsGiven.{Reads, got_at, read_whole, read_cut}
use Rattle.stream.proofs.FamilyFacts.{Facts}
use Rattle.stream.proofs.Demands.{in_pieces, told_is, accepts, Rest, settled_written, written_bytes, calls_exist}

module _ (F : Family) (facts : Facts F) where
  -- ---- what is told of a storm is told within its bytes

  abbrev Within : ℕ → Heard F → Type 0
  Within n = Each (λ p. p.used ≤ n)

  within_before : (o : Option (Event F.Message)) (at n : ℕ) (ps : List (Settled (Event F.Message))) → at ≤ n
      → Within n (map as_told ps) → Within n (map as_told (settled_before o at ps))
  within_before none at n ps h w = w
  within_before (some e) at n ps h w = (h, w)

  within_bytes : (bs : List ℕ) (s : F.State) (at n : ℕ) → at + length bs ≤ n → Within n (map as_told (settled_in facts.next at s bs))
  within_bytes [] s at n h = tt
  within_bytes (b ∷ bs) s at n h =
      let m = facts.next s b in
      within_before m.event (suc at) n (settled_in facts.next (suc at) m.state bs) (omega arith) (within_bytes bs m.state (suc at) n (omega arith))

  -- ---- a family that opens at the first byte behind a storm

  -- from state t these bytes come to what they come to from a state in which an event may begin to be read, and to at most one event before, at the first byte
  pub record Opens (t : F.State) (bs : List ℕ) : Type 0 where
    pub known : F.Known
    pub state : F.State
    pub rests : facts.At known state
    pub first : Option (Event F.Message)
    pub comes : (at : ℕ) → settled_in facts.next at t bs ≡ settled_before first (suc at) (settled_in facts.next at state bs)

  record Split (at : ℕ) (ps qs : Heard F) : Type 0 where
    between : Heard F
    all : qs ≡ between ++ ps
    meets : AtMostOne at between

  split : (o : Option (Event F.Message)) (at : ℕ) (ps : List (Settled (Event F.Message))) → Split at (map as_told ps) (map as_told (settled_before o at ps))
  split none at ps = record { between = []; all = refl; meets = no_more }
  split (some e) at ps = record { between = record { event = gives e; used = at } ∷ []; all = refl; meets = one_more e }

  told_got : (at : ℕ) (ms : List F.Message) → map as_told (got_at F.wire message at ms) ≡ told_at F at ms
  told_got at [] = refl
  told_got at (m ∷ ms) = let last = at + length (F.wire m) in ap {B = Heard F} (λ ps. record { event = gives (message m); used = last } ∷ ps) (told_got last ms)

  -- what is told of a storm and of bytes behind it: of the storm within its bytes, then what the bytes come to from the state that it left
  told_parts : (s : F.State) → facts.in_range s ≡ true → (storm bs : List ℕ) (cs : List (Call F.Result)) → Allowed F s cs → used F cs ≡ storm ++ bs
      → told_from F 0 cs ≡ map as_told (settled_in facts.next 0 s storm) ++ map as_told (settled_in facts.next (length storm) (after facts.next s storm) bs)
  told_parts s r storm bs cs al u =
      let next = facts.next in
      let earlier = settled_in next 0 s storm in
      told_is F facts cs s r al 0
      ∙ ap (λ (l : List ℕ). map as_told (settled_in next 0 s l)) u
      ∙ ap (map as_told) (settled_in_append next 0 s storm bs)
      ∙ map-append as_told earlier _
      ∙ ap (λ (k : ℕ). map as_told earlier ++ map as_told (settled_in next k (after next s storm) bs)) (zero-add (length storm))

  pub handed_after_storm : (s : F.State) → facts.in_range s ≡ true
      → ((storm : List ℕ) (ms : List F.Message) (n : ℕ) → Opens (after facts.next s storm) (take n (written F.wire ms)))
      → HandedAfterStorm F s
  handed_after_storm s r opens storm ms g n cs al u =
      let next = facts.next in
      let at = length storm in
      let bs = take n (written F.wire ms) in
      let o = opens storm ms n in
      let x = split o.first (suc at) (got_at F.wire message at (handed_over F n ms)) in
      let place : suc at ≡ at + 1 = omega arith in
      record {
        earlier = map as_told (settled_in next 0 s storm);
        between = x.between;
        all =
            told_parts s r storm bs cs al u
            ∙ ap (λ (l : Heard F). map as_told (settled_in next 0 s storm) ++ l)
            (ap (map as_told) (o.comes at ∙ ap (settled_before o.first (suc at)) (settled_written F facts o.known o.state o.rests ms g n at))
            ∙ x.all ∙ ap (λ (l : Heard F). x.between ++ l) (told_got at (handed_over F n ms)));
        within = within_bytes storm s 0 at (omega arith);
        meets = subst (λ (k : ℕ). AtMostOne k x.between) place x.meets;
      }

  pub after_storm : (s : F.State) → HandedAfterStorm F s → AfterStorm F s
  after_storm s h storm ms g n ps cut cs v =
      let all = in_pieces F s ps cs v in
      h storm ms g n cs all.0 (all.1 ∙ cut)

  -- ---- a family that ends what is open at the last byte of the first message

  -- from state t the bytes of m come to one event, at the last of them, m itself or a damage, and leave a state in which an event may begin to be read
  pub record Closes (t : F.State) (m : F.Message) : Type 0 where
    pub event : Event F.Message
    pub is : (at : ℕ) → ItselfOrDamage m at (record { event = gives event; used = at } ∷ [])
    pub reads : Reads facts.next (Rest F facts) t (F.wire m) event

  record SplitFirst (m : F.Message) (at : ℕ) (ms : List F.Message) (told : Heard F) : Type 0 where
    between : Heard F
    all : told ≡ between ++ told_at F at ms
    meets : ItselfOrDamage m at between

  split_first : (t : F.State) (m : F.Message) → Closes t m → (ms : List F.Message) → Each F.Takes ms → (n at : ℕ) (test : Bool) → leb (length (F.wire m)) n ≡ test
      → SplitFirst m (at + length (F.wire m)) (drop 1 (take (cond test (suc (ended F.wire (n - length (F.wire m)) ms)) 0) (m ∷ ms)))
      (map as_told (settled_in facts.next at t (take n (F.wire m ++ written F.wire ms))))
  split_first t m c ms g n at true h =
      let last = at + length (F.wire m) in
      let k = c.reads in
      let j = n - length (F.wire m) in
      record {
        between = record { event = gives c.event; used = last } ∷ [];
        all =
            ap (map as_told) (read_whole k at (written F.wire ms) n (leb-true (length (F.wire m)) n h))
            ∙ ap {B = Heard F} (λ ps. record { event = gives c.event; used = last } ∷ ps)
            (ap (map as_told) (settled_written F facts k.rests.0 k.state k.rests.1 ms g j last) ∙ told_got last (handed_over F j ms));
        meets = c.is last;
      }
  split_first t m c ms g n at false h = record {
    between = [];
    all = ap (map as_told) (read_cut c.reads at (written F.wire ms) n (leb-false (length (F.wire m)) n h));
    meets = not_yet;
  }

  pub all_but_first : (s : F.State) → facts.in_range s ≡ true
      → ((storm : List ℕ) (m : F.Message) → F.Takes m → Closes (after facts.next s storm) m)
      → AllButFirst F s
  all_but_first s r closes storm m ms g n cs al u =
      let next = facts.next in
      let at = length storm in
      let x = split_first (after next s storm) m (closes storm m g.0) ms g.1 n at (leb (length (F.wire m)) n) refl in
      record {
        earlier = map as_told (settled_in next 0 s storm);
        between = x.between;
        all =
            told_parts s r storm (take n (written F.wire (m ∷ ms))) cs al u
            ∙ ap (λ (l : Heard F). map as_told (settled_in next 0 s storm) ++ l) x.all;
        within = within_bytes storm s 0 at (omega arith);
        meets = x.meets;
      }

  -- ---- a message that is swallowed each time, and leaves what swallows it again

  each_alike : (n : ℕ) (m : F.Message) → F.Takes m → Each F.Takes (replicate n m)
  each_alike zero m t = tt
  each_alike (suc n) m t = (t, each_alike n m t)

  -- what the rule finds is what is told
  pub swallowed : (storm : List ℕ) (m : F.Message) (n : ℕ) → T (are_bytes storm) → F.Takes m
      → Damages F n (map as_told (readings F.rule F.after_event F.at_start (storm ++ written F.wire (replicate n m)))) → Swallowed F storm m n
  swallowed storm m n g t found cs al u =
      let ms = replicate n m in
      let bytes : T (are_bytes (storm ++ written F.wire ms)) = bytes_append storm (written F.wire ms) g (written_bytes F facts ms (each_alike n m t)) in
      let told = accepts F facts cs al (subst (λ (l : List ℕ). T (are_bytes l)) (sym u) bytes) in
      subst (Damages F n) (sym (told ∙ ap (λ (l : List ℕ). map as_told (readings F.rule F.after_event F.at_start l)) u)) found

  -- these bytes alone come to nothing. With m behind them, and anything behind m, they come to a damage, which leaves these others in front of the rest
  pub record Swallows (known : F.Known) (front : List ℕ) (m : F.Message) (left : List ℕ) : Type 0 where
    pub number : ℕ
    pub lost : ℕ
    pub used : ℕ
    pub ends : F.rule known front ≡ none
    pub finds : (rest : List ℕ) → F.rule known (front ++ (F.wire m ++ rest)) ≡ some (record { event = damage number lost; used = used })
    pub leaves : (rest : List ℕ) → drop used (front ++ (F.wire m ++ rest)) ≡ left ++ rest

  module _ (m : F.Message) (some_bytes : 0 < length (F.wire m)) (left : List ℕ) (again : Swallows F.after_event left m left) where
    found_damages : (fuel n at : ℕ) → n ≤ fuel → (known : F.Known) (front : List ℕ) → Swallows known front m left
        → Damages F n (map as_told (first_readings F.rule F.after_event fuel known at (front ++ written F.wire (replicate n m))))
    found_damages zero zero at h known front w = (refl, tt)
    found_damages zero (suc n) at h known front w = absurd (omega arith)
    found_damages (suc fuel) zero at h known front w = rw (append-nil, w.ends) (refl, tt)
    found_damages (suc fuel) (suc n) at h known front w =
        let rest = written F.wire (replicate n m) in
        let later = found_damages fuel n (at + w.used) (omega arith) F.after_event left again in
        rw (w.finds rest, w.leaves rest) (ap suc later.0, ((w.number, w.lost, refl), later.1))

    as_many : (n : ℕ) → n ≤ length (written F.wire (replicate n m))
    as_many zero = omega arith
    as_many (suc n) = simp length-append (omega (arith, as_many n, some_bytes))

    pub never_read : (storm : List ℕ) → F.Takes m → T (are_bytes storm) → Swallows F.at_start storm m left → NeverRead F storm m
    never_read storm t g w = (
      t,
      λ n.
          let ws = written F.wire (replicate n m) in
          swallowed storm m n g t (found_damages (length (storm ++ ws)) n 0 (omega (arith, length-append storm ws, as_many n)) F.at_start storm w),
    )

  -- ---- so what is told after a storm is not told here

  each_right : {A : Type 0} (P : A → Type 0) (xs ys : List A) → Each P (xs ++ ys) → Each P ys
  each_right P [] ys e = e
  each_right P (x ∷ xs) ys e = each_right P xs ys e.1

  abbrev IsDamage : Settled (Told F.Message) → Type 0
  IsDamage p = (what : ℕ) × (lost : ℕ) × (p.event ≡ gives (damage what lost))

  no_message : (m : F.Message) (at : ℕ) → IsDamage (record { event = gives (message m); used = at }) → ⊥
  no_message m at e = let is = e.2 in zero_is_one cc

  -- damages alone, and yet the message, told as after a storm
  one_told : (m : F.Message) (at n : ℕ) → length (F.wire m) ≤ n → (told : Heard F) → ToldAll F at n (m ∷ []) told → Each IsDamage told → ⊥
  one_told m at n h told =
      rw (le-leb (length (F.wire m)) n h)
      (λ (a : ToldAfter F at (AtMostOne (at + 1)) at (m ∷ []) told) (e : Each IsDamage told).
      no_message m (at + length (F.wire m)) (each_right IsDamage a.between _ (each_right IsDamage a.earlier _ (subst (Each IsDamage) a.all e))).0)

  pub not_after_storm : (storm : List ℕ) (m : F.Message) → T (are_bytes storm) → F.Takes m → Swallowed F storm m 1 → AfterStorm F F.fresh → ⊥
  unfolding flatten
  not_after_storm storm m g taken swallowed claim =
      let w = written F.wire (m ∷ []) in
      let ps = (storm ++ w) ∷ [] in
      let takes : Each F.Takes (m ∷ []) = (taken, tt) in
      let bytes : T (are_bytes (storm ++ w)) = bytes_append storm w g (written_bytes F facts (m ∷ []) takes) in
      let whole : flatten ps ≡ storm ++ w = append-nil (storm ++ w) in
      let room : lent_least ≤ length {A = ℕ} (replicate lent_least 0) = le_of_eq (sym (length-replicate {A = ℕ} lent_least 0)) in
      let made = calls_exist F facts ps (subst (λ (l : List ℕ). T (are_bytes l)) (sym whole) bytes) (λ k. replicate lent_least 0) (λ k. room) in
      let handed = in_pieces F F.fresh ps made.made made.serves in
      let told = claim storm (m ∷ []) takes (length w) ps (whole ∙ ap (λ (l : List ℕ). storm ++ l) (sym (take-length w))) made.made made.serves in
      let damages = swallowed made.made handed.0 (handed.1 ∙ whole) in
      one_told m (length storm) (length w) (omega (arith, length-append (F.wire m) [])) (told_from F 0 made.made) told damages.1
