-- One call of a family's `step`, for every state, piece and lent buffer: what document 01's table of answers says of a reader.
use Rattle.std.specs.Prelude.{ℕ, ◌≡◌, Bool, true, cond, ◌&&◌, List, ◌++◌, length, drop, eqb, ltb}
use Rattle.stream.specs.Event.{Event, message, damage, Told, done, gives, refuses, number, outcome}
use Rattle.stream.specs.Pieces.{Moved, Called, scan}

-- what a call hands back: the next state, document 01's number of its answer, what it tells, and the number of bytes used
pub record Seen (S M : Type 0) : Type 0 where
  pub state : S
  pub number : ℕ
  pub told : Told M
  pub used : ℕ

-- what is told, under its number
abbrev pub numbered : {S M : Type 0} → S → Told M → ℕ → Seen S M
numbered s t used = record { state = s; number = number t; told = t; used = used }

-- a refusal leaves the reader unmoved: nothing used, state unchanged
abbrev pub unmoved : {S M : Type 0} → ℕ → S → Seen S M
unmoved n s = numbered s (refuses n) 0

-- the piece, scanned
abbrev pub answered : {S M : Type 0} → Called S (Event M) → Seen S M
answered c = numbered c.state (outcome c.event) c.used

-- what a reader is to be lent at least
abbrev pub lent_least : ℕ
lent_least = 255

-- A reader tests 18, then 9 (under 255 bytes lent), then the piece
abbrev pub called : {S M : Type 0} → (S → ℕ → Moved S (Event M)) → (S → Bool) → S → List ℕ → List ℕ → Seen S M
called next in_range s piece lent =
    cond (in_range s) (cond (ltb (length lent) lent_least) (unmoved 9 s) (answered (scan next s piece))) (unmoved 18 s)

-- the lent buffer afterwards: with a message its data at the front, the rest unchanged; with anything else as it was
abbrev pub delivered : {M : Type 0} → (M → List ℕ) → Told M → List ℕ → List ℕ
delivered payload done lent = lent
delivered payload (gives (message m)) lent = payload m ++ drop (length (payload m)) lent
delivered payload (gives (damage n lost)) lent = lent
delivered payload (refuses n) lent = lent

-- the same answer, told of a message by another name for it
abbrev pub retold : {M N : Type 0} → (M → N) → Told M → Told N
retold f done = done
retold f (gives (message m)) = gives (message (f m))
retold f (gives (damage n lost)) = gives (damage n lost)
retold f (refuses n) = refuses n

abbrev pub retells : {S M N : Type 0} → (M → N) → Seen S M → Seen S N
retells f c = record { state = c.state; number = c.number; told = retold f c.told; used = c.used }

-- THE PROMISE OF `step`: its result, as `shown` reads off its number and values, is the call's, with a message's header for the message,
-- since the data are in the lent buffer; the lent buffer afterwards is as above; and, whatever the piece, a state in range leads to
-- a state in range: "18 is never given for a fresh state or one that a reader handed back with another answer"
abbrev pub Steps : {S M H R : Type 0} → (S → ℕ → Moved S (Event M)) → (S → Bool) → (M → H) → (M → List ℕ) → (R → Seen S H)
    → S → List ℕ → List ℕ → R → List ℕ → Type 0
Steps next in_range header payload shown s piece lent r later =
    let c = called next in_range s piece lent in
    (shown r ≡ retells header c) × (later ≡ delivered payload c.told lent) × (in_range s ≡ true → in_range (shown r).state ≡ true)

-- where a host lends the held bytes of a state, in range means also that all of them are there
abbrev pub whole : {S : Type 0} → (S → List ℕ) → ℕ → (S → Bool) → S → Bool
whole held full in_range s = eqb (length (held s)) full && in_range s

-- what a host sees of a result: a message is its header joined with the data at the front of the lent buffer
abbrev pub seen_by : {S M H R : Type 0} → (H → List ℕ → M) → (R → Seen S H) → R → List ℕ → Seen S M
seen_by join shown r later = retells (λ h. join h later) (shown r)
