-- What is demanded of every family, as one record: a family's own demands are that record at that family. Before them four laws that need none.
use Rattle.std.specs.Prelude.{ℕ, suc, ◌≤◌, ◌<◌, ◌≡◌, Bool, length, take, T}
use Rattle.std.proofs.Math.Option.{none, some}
use mathlib.Core.List.{List, [], ◌∷◌, ◌++◌, map, flatten}
use Rattle.std.proofs.Math.Pow.{are_bytes}
use Rattle.stream.specs.Event.{Event, message, damage, Told, done, gives, refuses}
use Rattle.stream.specs.Pieces.{Moved, calls, feed}
use Rattle.stream.specs.Call.{Seen, lent_least, Steps, whole}
use Rattle.stream.specs.Written.{written, ended, Each}
use Rattle.stream.specs.Rule.{Settled, readings}
use Rattle.stream.specs.Family.{Family, Call, sees, Allowed, used, told_from, Serves}

-- ---- laws: they are no demands, since every machine and every family meets them

module _ {S E : Type 0} (next : S → ℕ → Moved S E) where
  -- pieces do not matter: the same bytes in one piece come to the same
  abbrev pub PiecesDoNotMatter : Type 0
  PiecesDoNotMatter = (s : S) (ps : List (List ℕ)) → feed next s ps ≡ feed next s (flatten ps ∷ [])

  -- a piece is used up in at most as many calls as it has bytes, and further calls change nothing
  abbrev pub UsedUpInTime : Type 0
  UsedUpInTime = (s : S) (p : List ℕ) (n : ℕ) → length p ≤ n → ((calls next n s p).left ≡ []) × (calls next n s p ≡ calls next (length p) s p)

module _ (F : Family) where
  -- each piece called on until it is used up: such calls are among those that are allowed, and the bytes that they use are the pieces joined
  abbrev pub InPieces : Type 0
  InPieces =
      (s : F.State) (ps : List (List ℕ)) (cs : List (Call F.Result)) → Serves F s ps cs → Allowed F s cs × (used F cs ≡ flatten ps)

module _ {S M : Type 0} (next : S → ℕ → Moved S (Event M)) where
  -- of a state that holds bytes, `full` of them, and a call to which a host lends these bytes. Where all of them are there, the promise of `step` allows
  -- the call too, and all of them are there afterwards: so all that is demanded of `step` holds of a host that lends the held bytes.
  -- More of them, or fewer, are refused with 18, and everything is as it was
  abbrev pub InPlace : Type 1
  InPlace =
      (H R : Type 0) (in_range : S → Bool) (held : S → List ℕ) (full : ℕ) (header : M → H) (payload : M → List ℕ) (shown : R → Seen S H)
      → (s : S) (piece lent later : List ℕ) (r : R) → Steps next (whole held full in_range) header payload shown s piece lent r later
      → (length (held s) ≡ full → Steps next in_range header payload shown s piece lent r later × (length (held (shown r).state) ≡ full))
      × ((length (held s) ≡ full → ⊥) → ((shown r).told ≡ refuses 18) × ((shown r).state ≡ s) × ((shown r).used ≡ 0) × (later ≡ lent))

-- ---- the demands, of any family

-- an event as a host is told it
abbrev pub as_told : {M : Type 0} → Settled (Event M) → Settled (Told M)
as_told p = record { event = gives p.event; used = p.used }

-- bytes that end with these
pub record EndsWith (end bs : List ℕ) : Type 0 where
  pub front : List ℕ
  pub joins : bs ≡ front ++ end

module _ (F : Family) where
  -- DEMAND 2. From fresh, whatever is handed over in whatever calls with at least 255 bytes lent: what is told, and at which byte, is exactly
  -- what the rule finds in the bytes used. So a frame is accepted exactly when every rule of its family holds, and reading goes on as the rule does
  abbrev pub Accepts : Type 0
  Accepts =
      (cs : List (Call F.Result)) → Allowed F F.fresh cs → T (are_bytes (used F cs))
      → told_from F 0 cs ≡ map as_told (readings F.rule F.after_event F.at_start (used F cs))

  -- what is told where these bytes were used: a message is one that the writer takes, and the bytes end with its bytes on the wire
  abbrev pub BorneOut : List ℕ → Told F.Message → Type 0
  BorneOut bs done = Unit {0}
  BorneOut bs (gives (message m)) = F.Takes m × EndsWith (F.wire m) bs
  BorneOut bs (gives (damage n lost)) = Unit {0}
  BorneOut bs (refuses n) = Unit {0}

  -- DEMAND 2. And a rule that accepts anything else is shut out: from fresh, in such calls, each message that is told is one that the writer
  -- takes, and the bytes used up to then end with its frame. So its length is never above what a message of the family has
  abbrev pub Sound : Type 0
  Sound =
      (cs : List (Call F.Result)) → Allowed F F.fresh cs → T (are_bytes (used F cs))
      → Each (λ p. BorneOut (take p.used (used F cs)) p.event) (told_from F 0 cs)

  -- DEMAND 2. Each message written reads back as itself, whatever follows it, with any buffer of at least 255 bytes
  abbrev pub ReadsBack : Type 0
  ReadsBack =
      (m : F.Message) → F.Takes m
      → (room frame : List ℕ) (w : F.Written) (n : ℕ) → F.Writes m room w frame → F.wrote w ≡ some n
      → (rest lent later : List ℕ) (r : F.Result) → lent_least ≤ length lent → F.Steps F.fresh (take n frame ++ rest) lent r later
      → ((F.seen r later).told ≡ gives (message m)) × ((F.seen r later).used ≡ n)

  -- what calls told are exactly the messages among ms whose last byte is one of the first n, in order, once, and no damage
  abbrev pub TellEnded : List F.Message → ℕ → List (Call F.Result) → Type 0
  TellEnded ms n cs = map (λ p. p.event) (told_from F 0 cs) ≡ map (λ m. gives (message m)) (take (ended F.wire n ms) ms)

  -- DEMAND 3. Any list of messages, written one after another, cut anywhere into pieces, each piece called on until it is used up, stopped after
  -- any byte, the nth: what was told are exactly the messages whose last byte was handed over, in order, once, and no damage
  abbrev pub CutAnywhere : Type 0
  CutAnywhere =
      (ms : List F.Message) → Each F.Takes ms
      → (n : ℕ) (ps : List (List ℕ)) → flatten ps ≡ take n (written F.wire ms)
      → (cs : List (Call F.Result)) → Serves F F.fresh ps cs → TellEnded ms n cs

  -- calls are lent these buffers in turn, from the nth on
  abbrev pub LentBy : (ℕ → List ℕ) → ℕ → List (Call F.Result) → Type 0
  LentBy lent n [] = Unit {0}
  LentBy lent n (c ∷ cs) = (c.lent ≡ lent n) × LentBy lent (suc n) cs

  -- calls from state s on that use up the pieces: at most as many as the pieces have bytes, and none is refused
  pub record Served (s : F.State) (ps : List (List ℕ)) (lent : ℕ → List ℕ) (n : ℕ) : Type 0 where
    pub made : List (Call F.Result)
    pub serves : Serves F s ps made
    pub lends : LentBy lent n made
    pub ends : length made ≤ length (flatten ps)
    pub unrefused : Each (λ c. (why : ℕ) → (sees F c).told ≡ refuses why → ⊥) made

  -- DEMAND 3. There are such calls for every cut, and they end: whatever pieces of bytes there are, and whatever buffers of at least 255 bytes
  -- are lent in turn
  abbrev pub CallsExist : Type 0
  CallsExist =
      (ps : List (List ℕ)) → T (are_bytes (flatten ps)) → (lent : ℕ → List ℕ) → ((n : ℕ) → lent_least ≤ length (lent n))
      → Served F.fresh ps lent 0

  -- DEMAND 3. The same messages from a host that calls otherwise, with any pieces, used up or not: what counts is the bytes used
  abbrev pub Handed : Type 0
  Handed =
      (ms : List F.Message) → Each F.Takes ms
      → (n : ℕ) (cs : List (Call F.Result)) → Allowed F F.fresh cs → used F cs ≡ take n (written F.wire ms) → TellEnded ms n cs

  -- DEMAND 3. Every call gets on: one that is not refused uses no more than its piece, at least a byte of it if there is one,
  -- and all of it if it tells nothing
  abbrev pub UsedUp : Type 0
  UsedUp =
      (s : F.State) (piece lent later : List ℕ) (r : F.Result) → F.Steps s piece lent r later
      → ((n : ℕ) → (F.seen r later).told ≡ refuses n → ⊥)
      → ((F.seen r later).used ≤ length piece)
      × (0 < length piece → 0 < (F.seen r later).used)
      × ((F.seen r later).told ≡ done → (F.seen r later).used ≡ length piece)

  -- DEMAND 3. Two different lists never have the same bytes
  abbrev pub Different : Type 0
  Different =
      (ms ns : List F.Message) → Each F.Takes ms → Each F.Takes ns → written F.wire ms ≡ written F.wire ns → ms ≡ ns

  -- DEMAND 1. After a refusal each lent buffer holds what it held, and so it does after any call of a reader that gives no message;
  -- with a refusal the state is unchanged and nothing is used
  abbrev pub Kept : Type 0
  Kept =
      ((m : F.Message) (lent later : List ℕ) (w : F.Written) → F.Writes m lent w later → F.wrote w ≡ none → later ≡ lent)
      × ((s : F.State) (piece lent later : List ℕ) (r : F.Result) → F.Steps s piece lent r later
      → ((m : F.Message) → (F.seen r later).told ≡ gives (message m) → ⊥) → later ≡ lent)
      × ((s : F.State) (piece lent later : List ℕ) (r : F.Result) (n : ℕ) → F.Steps s piece lent r later
      → (F.seen r later).told ≡ refuses n → ((F.seen r later).state ≡ s) × ((F.seen r later).used ≡ 0))

  -- DEMAND 1. 18 is never given for a fresh state, nor for one handed back from any state, forged ones too, that was not itself refused with 18
  abbrev pub NeverSpoilt : Type 0
  NeverSpoilt =
      ((piece lent later : List ℕ) (r : F.Result) → F.Steps F.fresh piece lent r later → (F.seen r later).told ≡ refuses 18 → ⊥)
      × ((s : F.State) (piece lent later : List ℕ) (r : F.Result) → F.Steps s piece lent r later
      → ((F.seen r later).told ≡ refuses 18 → ⊥)
      → (piece' lent' later' : List ℕ) (r' : F.Result) → F.Steps (F.seen r later).state piece' lent' r' later'
      → (F.seen r' later').told ≡ refuses 18 → ⊥)

-- ALL THAT IS DEMANDED of a family, in one statement
pub record Demands (F : Family) : Type 0 where
  pub accepts : Accepts F
  pub sound : Sound F
  pub reads_back : ReadsBack F
  pub cut_anywhere : CutAnywhere F
  pub calls_exist : CallsExist F
  pub handed : Handed F
  pub used_up : UsedUp F
  pub different : Different F
  pub kept : Kept F
  pub never_spoilt : NeverSpoilt F
