-- What the promise of `step` gives a family, whatever its messages: it fixes the result and the buffer, and a host sees the call.
-- Assumes nothing.
use Prim.Native.Nat.{ℕ, ◌≤◌, ◌<◌}
use mathlib.Core.Path.{◌≡◌, refl, sym, ap, ◌∙◌, subst}
use mathlib.Core.Bool.{Bool, true, false}
use mathlib.Core.List.{List, ◌++◌}
use lib.ListN.{length, drop}
use borrow.Author.Tests.{lt-ltb, le-ltb}
use Rattle.stream.specs.Event.{Event, message, damage, Told, done, gives, refuses, number, outcome}
use Rattle.stream.specs.Pieces.{Moved, Called, scan}
use Rattle.stream.specs.Call.{Seen, lent_least, numbered, unmoved, answered, called, delivered, retold, retells, Steps, seen_by}

-- a state in range, and room: the scan of the piece
pub in_room : {S M : Type 0} (next : S → ℕ → Moved S (Event M)) (in_range : S → Bool) (s : S) (piece lent : List ℕ) → in_range s ≡ true → lent_least ≤ length lent
    → called next in_range s piece lent ≡ answered (scan next s piece)
in_room next in_range s piece lent r h = rw (r, le-ltb (length lent) lent_least h)

-- a header for a message leaves the number as it is
pub number_retold : {M H : Type 0} (f : M → H) (t : Told M) → number (retold f t) ≡ number t
number_retold f done = refl
number_retold f (gives (message m)) = refl
number_retold f (gives (damage n lost)) = refl
number_retold f (refuses n) = refl

-- an answer whose number is that of what it tells, and which tells t, shows t under its number
pub shows : {S M H : Type 0} (header : M → H) (s : S) (n : ℕ) (said : Told H) (t : Told M) (used : ℕ) → n ≡ number said → said ≡ retold header t
    → ◌≡◌ {A = Seen S H} (record { state = s; number = n; told = said; used = used }) (retells header (numbered s t used))
shows {S} {M} {H} header s n said t used own is =
    ap {B = Seen S H} (λ (k : ℕ). record { state = s; number = k; told = said; used = used }) (own ∙ ap number is ∙ number_retold header t)
    ∙ ap {B = Seen S H} (λ (x : Told H). record { state = s; number = number t; told = x; used = used }) is

-- where a header and the data that stand in the buffer make up the message, what is told of the header is told of the message again
pub rejoined : {M H : Type 0} (header : M → H) (payload : M → List ℕ) (join : H → List ℕ → M) → ((m : M) (rest : List ℕ) → join (header m) (payload m ++ rest) ≡ m)
    → (t : Told M) (lent : List ℕ) → retold (λ h. join h (delivered payload t lent)) (retold header t) ≡ t
rejoined header payload join joins done lent = refl
rejoined {M} header payload join joins (gives (message m)) lent = ap (λ (n : M). gives (message n)) (joins m (drop (length (payload m)) lent))
rejoined header payload join joins (gives (damage n lost)) lent = refl
rejoined header payload join joins (refuses n) lent = refl

-- the lent buffer is as it was where no message is told
pub untouched : {M : Type 0} (payload : M → List ℕ) (t : Told M) (lent : List ℕ) → ((m : M) → t ≡ gives (message m) → ⊥) → delivered payload t lent ≡ lent
untouched payload done lent n = refl
untouched payload (gives (message m)) lent n = absurd (n m refl)
untouched payload (gives (damage k lost)) lent n = refl
untouched payload (refuses k) lent n = refl

module _ {S M H R : Type 0} (next : S → ℕ → Moved S (Event M)) (in_range : S → Bool) (header : M → H) (payload : M → List ℕ) (shown : R → Seen S H) where
  -- two results that the promise allows are shown alike, and the buffer holds the same
  pub steps_one : (s : S) (piece lent a b : List ℕ) (q r : R) → Steps next in_range header payload shown s piece lent q a → Steps next in_range header payload shown s piece lent r b
      → (shown q ≡ shown r) × (a ≡ b)
  steps_one s piece lent a b q r x y = (x.0 ∙ sym y.0, x.1 ∙ sym y.1)

  -- ---- how a `step` shows its promise, at each of its three ends

  by_call : (s : S) (piece lent later : List ℕ) (r : R) (c : Seen S M) → called next in_range s piece lent ≡ c → shown r ≡ retells header c → later ≡ delivered payload c.told lent
      → (in_range s ≡ true → in_range c.state ≡ true) → Steps next in_range header payload shown s piece lent r later
  by_call s piece lent later r c e x y k =
      subst (λ (v : Seen S M). (shown r ≡ retells header v) × (later ≡ delivered payload v.told lent) × (in_range s ≡ true → in_range (shown r).state ≡ true)) (sym e)
      (x, y, λ i. ap (λ (v : Seen S H). in_range v.state) x ∙ k i)

  pub steps_spoilt : (s : S) (piece lent : List ℕ) (r : R) → in_range s ≡ false → shown r ≡ unmoved 18 s → Steps next in_range header payload shown s piece lent r lent
  steps_spoilt s piece lent r o x = by_call s piece lent lent r (unmoved 18 s) (rw o) x refl (λ i. i)

  pub steps_no_room : (s : S) (piece lent : List ℕ) (r : R) → in_range s ≡ true → length lent < lent_least → shown r ≡ unmoved 9 s → Steps next in_range header payload shown s piece lent r lent
  steps_no_room s piece lent r i h x = by_call s piece lent lent r (unmoved 9 s) (rw (i, lt-ltb (length lent) lent_least h)) x refl (λ k. k)

  pub steps_scan : (s : S) (piece lent later : List ℕ) (r : R) (c : Called S (Event M)) → in_range s ≡ true → lent_least ≤ length lent → scan next s piece ≡ c
      → shown r ≡ retells header (answered c) → later ≡ delivered payload (outcome c.event) lent → in_range c.state ≡ true
      → Steps next in_range header payload shown s piece lent r later
  steps_scan s piece lent later r c i h e x y k = by_call s piece lent later r (answered c) (in_room next in_range s piece lent i h ∙ ap answered e) x y (λ o. k)

  -- where a header and the data that stand in the buffer make up the message
  module _ (join : H → List ℕ → M) (joins : (m : M) (rest : List ℕ) → join (header m) (payload m ++ rest) ≡ m) where
    pub steps_seen : (s : S) (piece lent later : List ℕ) (r : R) → Steps next in_range header payload shown s piece lent r later
        → seen_by join shown r later ≡ called next in_range s piece lent
    steps_seen s piece lent later r st =
        let c = called next in_range s piece lent in
        ap (retells (λ h. join h later)) st.0
        ∙ ap {B = Seen S M} (λ (l : List ℕ). record { state = c.state; number = c.number; told = retold (λ h. join h l) (retold header c.told); used = c.used }) st.1
        ∙ ap {B = Seen S M} (λ (t : Told M). record { state = c.state; number = c.number; told = t; used = c.used }) (rejoined header payload join joins c.told lent)

    pub steps_keeps : (s : S) (piece lent later : List ℕ) (r : R) → Steps next in_range header payload shown s piece lent r later
        → ((m : M) → (seen_by join shown r later).told ≡ gives (message m) → ⊥) → later ≡ lent
    steps_keeps s piece lent later r st n =
        st.1 ∙ untouched payload (called next in_range s piece lent).told lent (λ m e. n m (ap (λ (v : Seen S M). v.told) (steps_seen s piece lent later r st) ∙ e))
