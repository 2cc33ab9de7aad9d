-- What bytes come to in a machine, whatever the calls: the last state and every event. One call, and calls until a piece is used up, come to that.
-- Assumes nothing.
use Prim.Native.Nat.{ℕ, zero, suc, ◌+◌, ◌≤◌}
use mathlib.Core.Path.{◌≡◌, refl, sym, ap, ◌∙◌}
use mathlib.Core.Option.{Option, none, some}
use mathlib.Core.List.{List, [], ◌∷◌, ◌++◌, map, flatten, append-nil, cons≢nil}
use lib.ListN.{length, take, drop, length-drop}
use native.Mathlib.Nat.{add-suc, suc-add, add-zero}
use native.Mathlib.Numerals.{add-one}
use native.Mathlib.Omega.{arith}
use Rattle.stream.specs.Pieces.{Moved, Ran, before, settle, scan, calls, feed}
use Rattle.stream.specs.Rule.{Settled}
use Rattle.stream.specs.Demands.{PiecesDoNotMatter, UsedUpInTime}

-- an event, if any, at its place, before later ones
abbrev pub settled_before : {E : Type 0} → Option E → ℕ → List (Settled E) → List (Settled E)
settled_before none used later = later
settled_before (some e) used later = record { event = e; used = used } ∷ later

module _ {S E : Type 0} (next : S → ℕ → Moved S E) where
  -- all bytes in turn: the last state, every event, and every event at its place where `at` bytes came before
  abbrev pub after : S → List ℕ → S
  after s [] = s
  after s (b ∷ bs) = after (next s b).state bs

  abbrev pub events : S → List ℕ → List E
  events s [] = []
  events s (b ∷ bs) = before (next s b).event (events (next s b).state bs)

  abbrev pub settled_in : ℕ → S → List ℕ → List (Settled E)
  settled_in at s [] = []
  settled_in at s (b ∷ bs) = settled_before (next s b).event (suc at) (settled_in (suc at) (next s b).state bs)

  -- ---- bytes after bytes

  pub after_append : (s : S) (a b : List ℕ) → after s (a ++ b) ≡ after (after s a) b
  after_append s [] b = refl
  after_append s (x ∷ a) b = after_append (next s x).state a b

  before_append : (o : Option E) (a b : List E) → before o (a ++ b) ≡ before o a ++ b
  before_append none a b = refl
  before_append (some e) a b = refl

  pub events_append : (s : S) (a b : List ℕ) → events s (a ++ b) ≡ events s a ++ events (after s a) b
  events_append s [] b = refl
  events_append s (x ∷ a) b =
      ap (before (next s x).event) (events_append (next s x).state a b)
      ∙ before_append (next s x).event (events (next s x).state a) (events (after (next s x).state a) b)

  settled_before_append : (o : Option E) (at : ℕ) (ps qs : List (Settled E)) → settled_before o at (ps ++ qs) ≡ settled_before o at ps ++ qs
  settled_before_append none at ps qs = refl
  settled_before_append (some e) at ps qs = refl

  pub settled_in_append : (at : ℕ) (s : S) (a b : List ℕ) → settled_in at s (a ++ b) ≡ settled_in at s a ++ settled_in (at + length a) (after s a) b
  settled_in_append at s [] b = rw add-zero
  settled_in_append at s (x ∷ a) b =
      let e : suc at + length a ≡ at + suc (length a) = omega arith in
      ap (settled_before (next s x).event (suc at))
      (settled_in_append (suc at) (next s x).state a b ∙ ap (λ (n : ℕ). settled_in (suc at) (next s x).state a ++ settled_in n (after (next s x).state a) b) e)
      ∙ settled_before_append (next s x).event (suc at) (settled_in (suc at) (next s x).state a) (settled_in (at + suc (length a)) (after (next s x).state a) b)

  -- without the places
  unplaced : (o : Option E) (at : ℕ) (ps : List (Settled E)) (es : List E) → map (λ p. p.event) ps ≡ es → map (λ p. p.event) (settled_before o at ps) ≡ before o es
  unplaced none at ps es h = h
  unplaced (some e) at ps es h = ap (λ (r : List E). e ∷ r) h

  pub settled_in_events : (at : ℕ) (s : S) (bs : List ℕ) → map (λ p. p.event) (settled_in at s bs) ≡ events s bs
  settled_in_events at s [] = refl
  settled_in_events at s (b ∷ bs) = unplaced (next s b).event (suc at) _ _ (settled_in_events (suc at) (next s b).state bs)

  -- where there is no event, there is none at any place
  no_places : (ps : List (Settled E)) → map (λ p. p.event) ps ≡ [] → ps ≡ []
  no_places [] e = refl
  no_places (p ∷ ps) e = absurd (cons≢nil e)

  pub settled_in_none : (at : ℕ) (s : S) (bs : List ℕ) → events s bs ≡ [] → settled_in at s bs ≡ []
  settled_in_none at s bs e = no_places (settled_in at s bs) (settled_in_events at s bs ∙ e)

  -- ---- one call, and what is left of its piece, come to what the piece comes to

  settled_after : (o : Option E) (s : S) (b : ℕ) (bs : List ℕ) → after s bs ≡ after (scan next s bs).state (drop (scan next s bs).used bs)
      → after s bs ≡ after (settle o s (scan next s bs)).state (drop (settle o s (scan next s bs)).used (b ∷ bs))
  settled_after none s b bs ih = ih
  settled_after (some e) s b bs ih = refl

  pub scan_after : (s : S) (bs : List ℕ) → after s bs ≡ after (scan next s bs).state (drop (scan next s bs).used bs)
  scan_after s [] = refl
  scan_after s (b ∷ bs) = settled_after (next s b).event (next s b).state b bs (scan_after (next s b).state bs)

  settled_events : (o : Option E) (s : S) (b : ℕ) (bs : List ℕ) → events s bs ≡ before (scan next s bs).event (events (scan next s bs).state (drop (scan next s bs).used bs))
      → before o (events s bs) ≡ before (settle o s (scan next s bs)).event (events (settle o s (scan next s bs)).state (drop (settle o s (scan next s bs)).used (b ∷ bs)))
  settled_events none s b bs ih = ih
  settled_events (some e) s b bs ih = refl

  pub scan_events : (s : S) (bs : List ℕ) → events s bs ≡ before (scan next s bs).event (events (scan next s bs).state (drop (scan next s bs).used bs))
  scan_events s [] = refl
  scan_events s (b ∷ bs) = settled_events (next s b).event (next s b).state b bs (scan_events (next s b).state bs)

  -- the same with places, whatever comes after the bytes that the call used
  settled_settled_in : (o : Option E) (s : S) (b : ℕ) (bs rest : List ℕ) (at : ℕ)
      → settled_in (suc at) s (take (scan next s bs).used bs ++ rest) ≡ settled_before (scan next s bs).event (suc at + (scan next s bs).used) (settled_in (suc at + (scan next s bs).used) (scan next s bs).state rest)
      → settled_before o (suc at) (settled_in (suc at) s (drop 1 (take (settle o s (scan next s bs)).used (b ∷ bs)) ++ rest))
      ≡ settled_before (settle o s (scan next s bs)).event (at + (settle o s (scan next s bs)).used) (settled_in (at + (settle o s (scan next s bs)).used) (settle o s (scan next s bs)).state rest)
  settled_settled_in none s b bs rest at ih = rw (add-suc, ← suc-add) ih
  settled_settled_in (some e) s b bs rest at ih = rw add-one

  -- a call on a byte uses at least that byte
  settled_uses : (o : Option E) (s : S) (b : ℕ) (bs rest : List ℕ) → take (settle o s (scan next s bs)).used (b ∷ bs) ++ rest ≡ b ∷ (drop 1 (take (settle o s (scan next s bs)).used (b ∷ bs)) ++ rest)
  settled_uses none s b bs rest = refl
  settled_uses (some e) s b bs rest = refl

  pub scan_settled_in : (s : S) (bs rest : List ℕ) (at : ℕ)
      → settled_in at s (take (scan next s bs).used bs ++ rest) ≡ settled_before (scan next s bs).event (at + (scan next s bs).used) (settled_in (at + (scan next s bs).used) (scan next s bs).state rest)
  scan_settled_in s [] rest at = rw add-zero
  scan_settled_in s (b ∷ bs) rest at =
      ap (settled_in at s) (settled_uses (next s b).event (next s b).state b bs rest)
      ∙ settled_settled_in (next s b).event (next s b).state b bs rest at (scan_settled_in (next s b).state bs rest (suc at))

  -- ---- a piece called on until it is used up

  settled_left : (o : Option E) (s : S) (b : ℕ) (bs : List ℕ) → length (drop (settle o s (scan next s bs)).used (b ∷ bs)) ≤ length bs
  settled_left none s b bs = simp length-drop (omega arith)
  settled_left (some e) s b bs = omega arith

  pub calls_is : (n : ℕ) (s : S) (bs : List ℕ) → length bs ≤ n → calls next n s bs ≡ record { state = after s bs; events = events s bs; left = [] }
  calls_is zero s [] h = refl
  calls_is zero s (b ∷ bs) h = absurd (omega arith)
  calls_is (suc n) s [] h = refl
  calls_is (suc n) s (b ∷ bs) h =
      let left : length (drop (scan next s (b ∷ bs)).used (b ∷ bs)) ≤ n = omega (arith, settled_left (next s b).event (next s b).state b bs) in
      cc (calls_is n (scan next s (b ∷ bs)).state (drop (scan next s (b ∷ bs)).used (b ∷ bs)) left, scan_after s (b ∷ bs), scan_events s (b ∷ bs))

  pub feed_is : (s : S) (ps : List (List ℕ)) → feed next s ps ≡ record { state = after s (flatten ps); events = events s (flatten ps); left = [] }
  unfolding flatten
  feed_is s [] = refl
  feed_is s (p ∷ ps) = rw (calls_is (length p) s p (omega arith), feed_is (after s p) ps, after_append, events_append)

  pub pieces_do_not_matter : PiecesDoNotMatter next
  unfolding flatten
  pieces_do_not_matter s ps = feed_is s ps ∙ sym (feed_is s (flatten ps ∷ []) ∙ rw append-nil)

  pub used_up_in_time : UsedUpInTime next
  used_up_in_time s p n h = (ap (λ (r : Ran S E). r.left) (calls_is n s p h), calls_is n s p h ∙ sym (calls_is (length p) s p (omega arith)))

-- QUIET BYTES: w leads from state s to state t with no event. A family's proof is put together from these
pub record Quiet {S E : Type 0} (next : S → ℕ → Moved S E) (s : S) (w : List ℕ) (t : S) : Type 0 where
  pub silent : events next s w ≡ []
  pub lands : after next s w ≡ t

module _ {S E : Type 0} {next : S → ℕ → Moved S E} where
  pub quiet_nil : (s : S) → Quiet next s [] s
  quiet_nil s = record { silent = refl; lands = refl }

  pub quiet_cons : {s t u : S} {b : ℕ} {w : List ℕ} → next s b ≡ record { state = t; event = none } → Quiet next t w u → Quiet next s (b ∷ w) u
  quiet_cons {w} e q = record {
    silent = ap (λ (v : Moved S E). before v.event (events next v.state w)) e ∙ q.silent;
    lands = ap (λ (v : Moved S E). after next v.state w) e ∙ q.lands;
  }

  pub quiet_append : {s t u : S} {v w : List ℕ} → Quiet next s v t → Quiet next t w u → Quiet next s (v ++ w) u
  quiet_append {s} {t} {u} {v} {w} p q = record {
    silent = cc (events_append next s v w, p.silent, p.lands, q.silent);
    lands = cc (after_append next s v w, p.lands, q.lands);
  }
