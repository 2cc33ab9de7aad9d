-- What a family is to its host, and the calls that a host makes.
use Rattle.std.specs.Prelude.{ℕ, ◌+◌, ◌≤◌, List, [], ◌∷◌, ◌++◌, length, take, drop}
use Rattle.std.proofs.Math.Option.{Option}
use Rattle.stream.specs.Event.{Event, Told, done, gives, refuses}
use Rattle.stream.specs.Call.{Seen, lent_least}
use Rattle.stream.specs.Rule.{Settled}

pub record Family : Type 1 where
  -- its messages, those that its writer takes, and the bytes of each on the wire
  pub Message : Type 0
  pub Takes : Message → Type 0
  pub wire : Message → List ℕ
  -- its rule: the first event in the bytes that remain, by what is known of those before: at the start, and after an event
  pub Known : Type 0
  pub at_start : Known
  pub after_event : Known
  pub rule : Known → List ℕ → Option (Settled (Event Message))
  -- its writer: the predicate that the promise of `write` names (message, lent buffer, result, buffer afterwards),
  -- and the length in a result that is no refusal
  pub Written : Type 0
  pub Writes : Message → List ℕ → Written → List ℕ → Type 0
  pub wrote : Written → Option ℕ
  -- its reader: the fresh state, the predicate that the promise of `step` names (state, piece, lent buffer, result, buffer afterwards),
  -- and what a host sees: next state, answer number, bytes used, and what it is told, a message's data being read off the front of the buffer
  pub State : Type 0
  pub fresh : State
  pub Result : Type 0
  pub Steps : State → List ℕ → List ℕ → Result → List ℕ → Type 0
  pub seen : Result → List ℕ → Seen State Message

-- one call that was made: the piece handed over, the buffer lent, the result, the buffer afterwards
pub record Call (R : Type 0) : Type 0 where
  pub piece : List ℕ
  pub lent : List ℕ
  pub result : R
  pub later : List ℕ

-- what is told, with the bytes used up to then, before what is told later; 0 is no news
abbrev pub told_before : {M : Type 0} → Told M → ℕ → List (Settled (Told M)) → List (Settled (Told M))
told_before done used later = later
told_before (gives e) used later = record { event = gives e; used = used } ∷ later
told_before (refuses n) used later = record { event = refuses n; used = used } ∷ later

module _ (F : Family) where
  -- what the host sees of a call
  abbrev pub sees : Call F.Result → Seen F.State F.Message
  sees c = F.seen c.result c.later

  -- CALLS ONE AFTER ANOTHER, each in the state that the one before it handed back, each with any piece, empty ones too, and
  -- any buffer of at least 255 bytes: every sequence of them that the promise of `step` allows
  abbrev pub Allowed : F.State → List (Call F.Result) → Type 0
  Allowed s [] = Unit {0}
  Allowed s (c ∷ cs) = (lent_least ≤ length c.lent) × F.Steps s c.piece c.lent c.result c.later × Allowed (sees c).state cs

  -- the bytes that they used, which are handed over for good: of each piece the first ones
  abbrev pub used : List (Call F.Result) → List ℕ
  used [] = []
  used (c ∷ cs) = take (sees c).used c.piece ++ used cs

  -- what they told, each with the number of bytes used up to then, where `at` were used before
  abbrev pub told_from : ℕ → List (Call F.Result) → List (Settled (Told F.Message))
  told_from at [] = []
  told_from at (c ∷ cs) = told_before (sees c).told (at + (sees c).used) (told_from (at + (sees c).used) cs)

-- EACH PIECE CALLED ON UNTIL IT IS USED UP: the calls cs that a host makes with the pieces ps to hand over, from state s
pub data Serves (F : Family) : F.State → List (List ℕ) → List (Call F.Result) → Type 0 where
  -- no piece is left
  ends : {s : F.State} → Serves F s [] []
  -- a piece is used up: on to the next
  turns : {s : F.State} {ps : List (List ℕ)} {cs : List (Call F.Result)} → Serves F s ps cs → Serves F s ([] ∷ ps) cs
  -- a call on what is left of a piece, which may be nothing
  calls : {s : F.State} {ps : List (List ℕ)} {cs : List (Call F.Result)} (p lent later : List ℕ) (r : F.Result)
      → lent_least ≤ length lent → F.Steps s p lent r later → Serves F (F.seen r later).state (drop (F.seen r later).used p ∷ ps) cs
      → Serves F s (p ∷ ps) (record { piece = p; lent = lent; result = r; later = later } ∷ cs)
