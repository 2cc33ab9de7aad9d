-- Reading one whole slice (document 02, Req 10): the next answer from a place in it, and the place after it. No state is kept from call to call.
use Rattle.std.specs.Prelude.{ℕ, ◌+◌, ◌≤◌, ◌<◌, ◌≡◌, cond, List, [], ◌∷◌, length, drop, T, ltb}
use Rattle.std.proofs.Math.Option.{Option, none, some}
use Rattle.std.proofs.Math.Pow.{are_bytes}
use Rattle.stream.specs.Event.{Event, message, Told, done, gives, refuses, number}
use Rattle.stream.specs.Call.{lent_least, delivered, retold}
use Rattle.stream.specs.Rule.{Settled}
use Rattle.stream.specs.Family.{Family, Call, Allowed, used, told_from}

-- what a call hands back: document 01's number of its answer, what it tells, and the place after it
pub record Asked (M : Type 0) : Type 0 where
  pub number : ℕ
  pub told : Told M
  pub place : ℕ

-- what is told, under its number
abbrev pub asked_of : {M : Type 0} → Told M → ℕ → Asked M
asked_of t place = record { number = number t; told = t; place = place }

-- the most bytes that a slice may have
abbrev pub slice_most : ℕ
slice_most = 65536

-- with a refusal the place is 0
abbrev pub refused : {M : Type 0} → ℕ → Asked M
refused n = asked_of (refuses n) 0

-- what the rule found in the bytes from a place, and the place after the byte that settles it; where it found nothing, the end of the slice
abbrev pub answered : {M : Type 0} → (place end : ℕ) → Option (Settled (Event M)) → Asked M
answered place end none = asked_of done end
answered place end (some found) = asked_of (gives found.event) (place + found.used)

-- 23 for a slice above 65,536 bytes, then 24 for a place past the end, then 9 (under 255 bytes lent), then the bytes from the place.
-- `known_at slice place` is what is known there of the bytes before
abbrev pub asked : {K M : Type 0} → (K → List ℕ → Option (Settled (Event M))) → (List ℕ → ℕ → K) → List ℕ → ℕ → List ℕ → Asked M
asked rule known_at slice place lent =
    cond (ltb slice_most (length slice)) (refused 23)
    (cond (ltb (length slice) place) (refused 24)
    (cond (ltb (length lent) lent_least) (refused 9)
    (answered place (length slice) (rule (known_at slice place) (drop place slice)))))

-- the same answer, told of a message by another name for it
abbrev pub retells : {M N : Type 0} → (M → N) → Asked M → Asked N
retells f a = record { number = a.number; told = retold f a.told; place = a.place }

-- THE PROMISE OF `answer_at`: its result, as `shown` reads off its number and values, is what was asked for, with a message's header for the
-- message, since the data are in the lent buffer; and the lent buffer afterwards
abbrev pub Answers : {K M H R : Type 0} → (K → List ℕ → Option (Settled (Event M))) → (List ℕ → ℕ → K) → (M → H) → (M → List ℕ) → (R → Asked H)
    → List ℕ → ℕ → List ℕ → R → List ℕ → Type 0
Answers rule known_at header payload shown slice place lent r later =
    let a = asked rule known_at slice place lent in
    (shown r ≡ retells header a) × (later ≡ delivered payload a.told lent)

-- what a host sees of a result: a message is its header joined with the data at the front of the lent buffer
abbrev pub seen_by : {M H R : Type 0} → (H → List ℕ → M) → (R → Asked H) → R → List ℕ → Asked M
seen_by join shown r later = retells (λ h. join h later) (shown r)

-- A FAMILY'S READER OF SLICES, to its host
pub record SliceReader (F : Family) : Type 1 where
  -- what is known at a place of a slice of the bytes before it, and what a fresh streaming reader is handed first where that is known: in ComLynx
  -- the flag, where it counts as just seen
  pub known_at : List ℕ → ℕ → F.Known
  pub handed_first : F.Known → List ℕ
  -- the predicate that the promise of `answer_at` names (slice, place, lent buffer, result, buffer afterwards), and what a host sees of a result
  pub Found : Type 0
  pub Answers : List ℕ → ℕ → List ℕ → Found → List ℕ → Type 0
  pub seen : Found → List ℕ → Asked F.Message

module _ (F : Family) (G : SliceReader F) where
  -- ASKED FROM A PLACE, AND THEN FROM EACH PLACE GIVEN, with any buffers of at least 255 bytes, until the answer is 0: what was told, each with the
  -- place that was given
  pub data AskedFrom (slice : List ℕ) : ℕ → List (Settled (Told F.Message)) → Type 0 where
    ends : {place : ℕ} (lent later : List ℕ) (r : G.Found)
        → lent_least ≤ length lent → G.Answers slice place lent r later → (G.seen r later).told ≡ done
        → AskedFrom slice place []
    tells : {place : ℕ} {told : List (Settled (Told F.Message))} (lent later : List ℕ) (r : G.Found) (e : Event F.Message)
        → lent_least ≤ length lent → G.Answers slice place lent r later → (G.seen r later).told ≡ gives e
        → AskedFrom slice (G.seen r later).place told
        → AskedFrom slice place (record { event = gives e; used = (G.seen r later).place } ∷ told)

  -- A PLACE ANSWERS AS A FRESH STREAMING READER ON THE BYTES FROM THERE, which was handed first what counts as just seen, in one call, with the
  -- same buffer lent
  abbrev pub AtPlace : Type 0
  AtPlace =
      (slice : List ℕ) (place : ℕ) → length slice ≤ slice_most → place ≤ length slice → T (are_bytes slice)
      → (lent later : List ℕ) (r : G.Found) → lent_least ≤ length lent → G.Answers slice place lent r later
      → (lentFirst laterFirst : List ℕ) (first : F.Result) → lent_least ≤ length lentFirst
      → F.Steps F.fresh (G.handed_first (G.known_at slice place)) lentFirst first laterFirst
      → (laterStep : List ℕ) (step : F.Result) → F.Steps (F.seen first laterFirst).state (drop place slice) lent step laterStep
      → ((G.seen r later).told ≡ (F.seen step laterStep).told)
      × ((G.seen r later).place ≡ place + (F.seen step laterStep).used)
      × (later ≡ laterStep)

  -- THE WHOLE SLICE: asked from 0 and then from each place given, what is told, and at which places, is what any calls of a fresh streaming reader
  -- tell that use up the slice
  abbrev pub SameAsStreaming : Type 0
  SameAsStreaming =
      (slice : List ℕ) → length slice ≤ slice_most → T (are_bytes slice)
      → (told : List (Settled (Told F.Message))) → AskedFrom slice 0 told
      → (cs : List (Call F.Result)) → Allowed F F.fresh cs → used F cs ≡ slice
      → told ≡ told_from F 0 cs

  -- AND THE ASKING ENDS: each place that is given with a message or a damage is past the place asked and within the slice; with 0 it is the end
  abbrev pub GetsOn : Type 0
  GetsOn =
      (slice : List ℕ) (place : ℕ) → length slice ≤ slice_most → place ≤ length slice → T (are_bytes slice)
      → (lent later : List ℕ) (r : G.Found) → lent_least ≤ length lent → G.Answers slice place lent r later
      → ((e : Event F.Message) → (G.seen r later).told ≡ gives e → (place < (G.seen r later).place) × ((G.seen r later).place ≤ length slice))
      × ((G.seen r later).told ≡ done → (G.seen r later).place ≡ length slice)

  -- and there are such asks for every slice of bytes, whatever buffers of at least 255 bytes are lent, each by the place that is asked from
  pub record AskedToTheEnd (slice : List ℕ) (place : ℕ) : Type 0 where
    pub told : List (Settled (Told F.Message))
    pub asks : AskedFrom slice place told

  abbrev pub AsksExist : Type 0
  AsksExist =
      (slice : List ℕ) → length slice ≤ slice_most → T (are_bytes slice) → (lent : ℕ → List ℕ) → ((place : ℕ) → lent_least ≤ length (lent place))
      → AskedToTheEnd slice 0

  -- DEMAND 1 of it, whatever is handed in: the lent buffer is as it was after any call that gives no message; with a refusal the place is 0
  abbrev pub Kept : Type 0
  Kept =
      (slice : List ℕ) (place : ℕ) (lent later : List ℕ) (r : G.Found) → G.Answers slice place lent r later
      → (((m : F.Message) → (G.seen r later).told ≡ gives (message m) → ⊥) → later ≡ lent)
      × ((n : ℕ) → (G.seen r later).told ≡ refuses n → (G.seen r later).place ≡ 0)

  -- ALL THAT IS DEMANDED of it, in one statement
  pub record SlicesAsStreams : Type 0 where
    pub at_place : AtPlace
    pub same_as_streaming : SameAsStreaming
    pub gets_on : GetsOn
    pub asks_exist : AsksExist
    pub kept : Kept
