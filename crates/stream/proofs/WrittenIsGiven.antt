-- Messages written one after another, and what a machine gives of them: over any message M that `wire` writes and any machine `next`
-- that reads each message from a state of rest to a state of rest.
-- Assumes nothing.
use Prim.Native.Nat.{ℕ, zero, suc, ◌+◌, ◌-◌, ◌≤◌, ◌<◌}
use mathlib.Core.Path.{◌≡◌, refl, sym, ap, ◌∙◌}
use mathlib.Core.Logic.{◌↔◌}
use mathlib.Core.Bool.{Bool, true, false, cond}
use mathlib.Core.Option.{Option, none, some}
use mathlib.Core.List.{List, [], ◌∷◌, ◌++◌, map, nil≢cons, cons≢nil, head-eq_of_cons-eq, tail-eq_of_cons-eq}
use lib.ListN.{length, take, length-append}
use lib.Seq.{take-nil, take-length, drop-length, take-append-le, take-append-add}
use lib.Dec.{leb}
use borrow.Author.Tests.{leb-true, leb-false}
use native.Mathlib.Omega.{arith}
use Rattle.stream.specs.Pieces.{Moved, Called, before, settle, scan}
use Rattle.stream.specs.Rule.{Settled}
use Rattle.stream.specs.Written.{written, ended, Each}
use Rattle.stream.proofs.CallsComeTo.{settled_before, after, events, settled_in, events_append, settled_in_events, settled_in_none, scan_after, scan_events, scan_settled_in, Quiet}

-- ---- what `ended` counts: message i is counted exactly if the bytes up to and with its last are at most n

module _ {M : Type 0} (wire : M → List ℕ) where
  counted_step : (m : M) (ms : List M) (n i : ℕ) (t : Bool) → leb (length (wire m)) n ≡ t
      → ((j : ℕ) → suc j ≡ i → (j < ended wire (n - length (wire m)) ms) ↔ (length (written wire (take (suc j) ms)) ≤ n - length (wire m)))
      → (i < cond t (suc (ended wire (n - length (wire m)) ms)) 0) ↔ (length (wire m ++ written wire (take i ms)) ≤ n)
  counted_step m ms n zero true h ih = simp length-append (omega (arith, leb-true (length (wire m)) n h))
  counted_step m ms n (suc j) true h ih =
      let k = ih j refl in
      simp length-append (λ (a : suc j < suc (ended wire (n - length (wire m)) ms)). omega (arith, leb-true (length (wire m)) n h, k.0 (omega arith)), λ (b : length (wire m) + length (written wire (take (suc j) ms)) ≤ n). omega (arith, k.1 (omega arith)))
  counted_step m ms n i false h ih = simp length-append (omega (arith, leb-false (length (wire m)) n h))

  pub ended_counts : (ms : List M) (n i : ℕ) → i < length ms → (i < ended wire n ms) ↔ (length (written wire (take (suc i) ms)) ≤ n)
  ended_counts [] n i h = absurd (omega arith)
  ended_counts (m ∷ ms) n i h = counted_step m ms n i (leb (length (wire m)) n) refl (λ j e. ended_counts ms (n - length (wire m)) j (omega arith))

-- ---- one call on the bytes of one message

module _ {S E : Type 0} (next : S → ℕ → Moved S E) where
  -- a call that uses all of w has had no event before the last byte of w
  quiet_step : (o : Option E) (t : S) (bs : List ℕ) (n : ℕ) → (settle o t (scan next t bs)).used ≡ suc (length bs) → suc n < suc (length bs)
      → ((scan next t bs).used ≡ length bs → n < length bs → events next t (take n bs) ≡ []) → before o (events next t (take n bs)) ≡ []
  quiet_step none t bs n e h ih = ih (omega arith) (omega arith)
  quiet_step (some x) t bs n e h ih = absurd (omega arith)

  scan_quiet : (s : S) (w : List ℕ) (n : ℕ) → (scan next s w).used ≡ length w → n < length w → events next s (take n w) ≡ []
  scan_quiet s [] n e h = rw take-nil
  scan_quiet s (b ∷ bs) zero e h = refl
  scan_quiet s (b ∷ bs) (suc n) e h = quiet_step (next s b).event (next s b).state bs n e h (scan_quiet (next s b).state bs n)

  -- a call that uses all of w and gives e: all of w comes to e alone
  scan_whole : (s t : S) (w : List ℕ) (e : E) → scan next s w ≡ record { state = t; event = some e; used = length w } → events next s w ≡ e ∷ []
  scan_whole s t w e c = cc (scan_events next s w, drop-length w)

  scan_lands : (s t : S) (w : List ℕ) (e : E) → scan next s w ≡ record { state = t; event = some e; used = length w } → after next s w ≡ t
  scan_lands s t w e c = cc (scan_after next s w, drop-length w)

  last_step : (o : Option E) (s t : S) (v : List ℕ) (es : List E) (e : E) → before o es ≡ [] → (es ≡ [] → scan next s v ≡ record { state = t; event = some e; used = length v })
      → settle o s (scan next s v) ≡ record { state = t; event = some e; used = suc (length v) }
  last_step none s t v es e q ih = cc (ih q)
  last_step (some x) s t v es e q ih = absurd (cons≢nil q)

  -- the same call, put together from quiet bytes and a last byte that settles e
  pub scan_last : (s : S) (w : List ℕ) (b : ℕ) (t : S) (e : E) → events next s w ≡ [] → next (after next s w) b ≡ record { state = t; event = some e }
      → scan next s (w ++ (b ∷ [])) ≡ record { state = t; event = some e; used = length (w ++ (b ∷ [])) }
  scan_last s [] b t e q c = rw c
  scan_last s (x ∷ w) b t e q c = last_step (next s x).event (next s x).state t (w ++ (b ∷ [])) (events next (next s x).state w) e q (λ q'. scan_last (next s x).state w b t e q' c)

  pub scan_by : {s t u : S} {w : List ℕ} {b : ℕ} {e : E} → Quiet next s w t → next t b ≡ record { state = u; event = some e }
      → scan next s (w ++ (b ∷ [])) ≡ record { state = u; event = some e; used = length (w ++ (b ∷ [])) }
  scan_by {s} {t} {u} {w} {b} {e} q c = scan_last s w b u e q.silent (rw q.lands c)

-- a call on the bytes w in state s gives e at the last of them, and leaves a state of rest
pub record Reads {S E : Type 0} (next : S → ℕ → Moved S E) (Rest : S → Type 0) (s : S) (w : List ℕ) (e : E) : Type 0 where
  pub state : S
  pub rests : Rest state
  pub call : scan next s w ≡ record { state = state; event = some e; used = length w }

-- ---- the bytes of one message, and any bytes after them

module _ {S E : Type 0} {next : S → ℕ → Moved S E} {Rest : S → Type 0} {s : S} {w : List ℕ} {e : E} (k : Reads next Rest s w e) (at : ℕ) where
  read_then : (rest : List ℕ) → settled_in next at s (w ++ rest) ≡ record { event = e; used = at + length w } ∷ settled_in next (at + length w) k.state rest
  read_then rest =
      let all : take (scan next s w).used w ≡ w = ap (λ (c : Called S E). take c.used w) k.call ∙ take-length w in
      ap (λ (l : List ℕ). settled_in next at s (l ++ rest)) (sym all)
      ∙ scan_settled_in next s w rest at
      ∙ ap (λ (c : Called S E). settled_before c.event (at + c.used) (settled_in next (at + c.used) c.state rest)) k.call

  -- the first n of them: at least all of the message's,
  pub read_whole : (rest : List ℕ) (n : ℕ) → length w ≤ n
      → settled_in next at s (take n (w ++ rest)) ≡ record { event = e; used = at + length w } ∷ settled_in next (at + length w) k.state (take (n - length w) rest)
  read_whole rest n h =
      let split : n ≡ length w + (n - length w) = omega arith in
      ap (settled_in next at s) (ap (λ (i : ℕ). take i (w ++ rest)) split ∙ take-append-add w rest (n - length w)) ∙ read_then (take (n - length w) rest)

  -- or fewer
  pub read_cut : (rest : List ℕ) (n : ℕ) → n < length w → settled_in next at s (take n (w ++ rest)) ≡ []
  read_cut rest n h =
      let h' : n ≤ length w = omega arith in
      rw take-append-le (settled_in_none next at s (take n w) (scan_quiet next s w n (ap (λ (c : Called S E). c.used) k.call) h))

-- ---- many messages

module _ {E M : Type 0} (wire : M → List ℕ) (got : M → E) where
  -- messages one after another, each got at its last byte, where `at` bytes came before
  abbrev pub got_at : ℕ → List M → List (Settled E)
  got_at at [] = []
  got_at at (m ∷ ms) = let last = at + length (wire m) in record { event = got m; used = last } ∷ got_at last ms

  got_events : (at : ℕ) (ms : List M) → map (λ p. p.event) (got_at at ms) ≡ map got ms
  got_events at [] = refl
  got_events at (m ∷ ms) = ap (λ (es : List E). got m ∷ es) (got_events (at + length (wire m)) ms)

module _ {S E M : Type 0} (next : S → ℕ → Moved S E) (wire : M → List ℕ) (got : M → E) (Takes : M → Type 0) (Rest : S → Type 0)
    (reads : (s : S) → Rest s → (m : M) → Takes m → Reads next Rest s (wire m) (got m)) where
  -- all the bytes: all the messages, in order, once each, and nothing else
  pub all_given : (s : S) → Rest s → (ms : List M) → Each Takes ms → events next s (written wire ms) ≡ map got ms
  all_given s r [] g = refl
  all_given s r (m ∷ ms) g =
      let k : Reads next Rest s (wire m) (got m) = reads s r m g.0 in
      cc (events_append next s (wire m) (written wire ms), scan_whole next s k.state (wire m) (got m) k.call, scan_lands next s k.state (wire m) (got m) k.call, all_given k.state k.rests ms g.1)

  given_step : (s : S) (m : M) (ms : List M) (k : Reads next Rest s (wire m) (got m)) (n at : ℕ)
      → ((j : ℕ) → settled_in next (at + length (wire m)) k.state (take j (written wire ms)) ≡ got_at wire got (at + length (wire m)) (take (ended wire j ms) ms))
      → (t : Bool) → leb (length (wire m)) n ≡ t
      → settled_in next at s (take n (wire m ++ written wire ms)) ≡ got_at wire got at (take (cond t (suc (ended wire (n - length (wire m)) ms)) 0) (m ∷ ms))
  given_step s m ms k n at ih true h =
      read_whole k at (written wire ms) n (leb-true (length (wire m)) n h)
      ∙ ap {B = List (Settled E)} (λ ps. record { event = got m; used = at + length (wire m) } ∷ ps) (ih (n - length (wire m)))
  given_step s m ms k n at ih false h = read_cut k at (written wire ms) n (leb-false (length (wire m)) n h)

  -- the first n bytes: the messages whose last byte is among them, each at that byte, in order, once each, and nothing else
  pub given_at : (s : S) → Rest s → (ms : List M) → Each Takes ms → (n at : ℕ) → settled_in next at s (take n (written wire ms)) ≡ got_at wire got at (take (ended wire n ms) ms)
  given_at s r [] g n at = rw take-nil
  given_at s r (m ∷ ms) g n at =
      let k : Reads next Rest s (wire m) (got m) = reads s r m g.0 in
      given_step s m ms k n at (λ j. given_at k.state k.rests ms g.1 j (at + length (wire m))) (leb (length (wire m)) n) refl

  -- and so without the places
  pub given : (s : S) → Rest s → (ms : List M) → Each Takes ms → (n : ℕ) → events next s (take n (written wire ms)) ≡ map got (take (ended wire n ms) ms)
  given s r ms g n =
      sym (settled_in_events next 0 s (take n (written wire ms))) ∙ ap (map (λ p. p.event)) (given_at s r ms g n 0) ∙ got_events wire got 0 (take (ended wire n ms) ms)

  map_inj : ((a b : M) → got a ≡ got b → a ≡ b) → (xs ys : List M) → map got xs ≡ map got ys → xs ≡ ys
  map_inj inj [] [] e = refl
  map_inj inj [] (b ∷ ys) e = absurd (nil≢cons e)
  map_inj inj (a ∷ xs) [] e = absurd (cons≢nil e)
  map_inj inj (a ∷ xs) (b ∷ ys) e = cc (inj a b (head-eq_of_cons-eq e), map_inj inj xs ys (tail-eq_of_cons-eq e))

  -- two different lists never have the same bytes
  pub told_apart : ((a b : M) → got a ≡ got b → a ≡ b) → (s : S) → Rest s → (xs ys : List M) → Each Takes xs → Each Takes ys
      → written wire xs ≡ written wire ys → xs ≡ ys
  told_apart inj s r xs ys ga gb e = map_inj inj xs ys (cc (all_given s r xs ga, all_given s r ys gb))
