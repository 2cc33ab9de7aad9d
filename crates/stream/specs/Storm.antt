-- Messages written behind a storm, which is any bytes at all (document 02, Req 13): what it means that a family tells all of them, that it tells all
-- but the first, and that it never reads one.
use Rattle.std.specs.Prelude.{ℕ, ◌+◌, ◌≤◌, ◌≡◌, length, take, drop, replicate}
use mathlib.Core.List.{List, [], ◌∷◌, ◌++◌, flatten}
use Rattle.stream.specs.Event.{Event, message, damage, Told, gives}
use Rattle.stream.specs.Rule.{Settled}
use Rattle.stream.specs.Written.{written, ended, Each}
use Rattle.stream.specs.Family.{Family, Call, Allowed, used, told_from, Serves}

-- at most one answer, a message or a damage, given at this byte
pub data AtMostOne {M : Type 0} (at : ℕ) : List (Settled (Told M)) → Type 0 where
  no_more : AtMostOne at []
  one_more : (e : Event M) → AtMostOne at (record { event = gives e; used = at } ∷ [])

-- at most one answer, this message or a damage, given at this byte
pub data ItselfOrDamage {M : Type 0} (m : M) (at : ℕ) : List (Settled (Told M)) → Type 0 where
  not_yet : ItselfOrDamage m at []
  itself : ItselfOrDamage m at (record { event = gives (message m); used = at } ∷ [])
  damaged : (n lost : ℕ) → ItselfOrDamage m at (record { event = gives (damage n lost); used = at } ∷ [])

module _ (F : Family) where
  -- what calls told, each answer with the bytes used up to then
  abbrev pub Heard : Type 0
  Heard = List (Settled (Told F.Message))

  -- exactly these messages, each told at the last byte of its frame, where `at` bytes came before
  abbrev pub told_at : ℕ → List F.Message → Heard
  told_at at [] = []
  told_at at (m ∷ ms) = let last = at + length (F.wire m) in record { event = gives (message m); used = last } ∷ told_at last ms

  -- what is told of a storm of n bytes is told within its bytes; then comes what may come between; then exactly the messages ms, which begin behind
  -- byte `at`
  pub record ToldAfter (n : ℕ) (Between : Heard → Type 0) (at : ℕ) (ms : List F.Message) (told : Heard) : Type 0 where
    pub earlier : Heard
    pub between : Heard
    pub all : told ≡ earlier ++ (between ++ told_at at ms)
    pub within : Each (λ p. p.used ≤ n) earlier
    pub meets : Between between

  -- the messages among ms whose last byte is one of the first n
  abbrev pub handed_over : ℕ → List F.Message → List F.Message
  handed_over n ms = take (ended F.wire n ms) ms

  -- of a storm of so many bytes, and of the first n bytes of the messages ms behind it: exactly the messages whose last byte was handed over,
  -- following at most one more answer, given at the first byte of the first of them, which in ComLynx is its opening flag
  abbrev pub ToldAll : (storm n : ℕ) → List F.Message → Heard → Type 0
  ToldAll storm n ms = ToldAfter storm (AtMostOne (storm + 1)) storm (handed_over n ms)

  -- AFTER A STORM, from state s. Any bytes at all, then any list of messages written one after another, cut anywhere into pieces, each piece called
  -- on until it is used up, stopped after any byte, the nth behind the storm: all that was handed over is told so
  abbrev pub AfterStorm : F.State → Type 0
  AfterStorm s =
      (storm : List ℕ) (ms : List F.Message) → Each F.Takes ms
      → (n : ℕ) (ps : List (List ℕ)) → flatten ps ≡ storm ++ take n (written F.wire ms)
      → (cs : List (Call F.Result)) → Serves F s ps cs → ToldAll (length storm) n ms (told_from F 0 cs)

  -- the same from a host that calls otherwise, with any pieces, used up or not: what counts is the bytes used
  abbrev pub HandedAfterStorm : F.State → Type 0
  HandedAfterStorm s =
      (storm : List ℕ) (ms : List F.Message) → Each F.Takes ms
      → (n : ℕ) (cs : List (Call F.Result)) → Allowed F s cs → used F cs ≡ storm ++ take n (written F.wire ms)
      → ToldAll (length storm) n ms (told_from F 0 cs)

  -- ALL BUT THE FIRST, from state s, of a host that calls as it likes: what is told of the first message is itself or a damage, at its last byte; the
  -- messages behind it are told exactly
  abbrev pub AllButFirst : F.State → Type 0
  AllButFirst s =
      (storm : List ℕ) (m : F.Message) (ms : List F.Message) → Each F.Takes (m ∷ ms)
      → (n : ℕ) (cs : List (Call F.Result)) → Allowed F s cs → used F cs ≡ storm ++ take n (written F.wire (m ∷ ms))
      → let last = length storm + length (F.wire m) in ToldAfter (length storm) (ItselfOrDamage m last) last (drop 1 (handed_over n (m ∷ ms))) (told_from F 0 cs)

  -- exactly n answers, each of them a damage
  abbrev pub Damages : ℕ → Heard → Type 0
  Damages n told = (length told ≡ n) × Each (λ p. (what : ℕ) × (lost : ℕ) × (p.event ≡ gives (damage what lost))) told

  -- from fresh, behind this storm, m is written n times: each time a damage is told, and nothing else, whatever the calls
  abbrev pub Swallowed : (storm : List ℕ) (m : F.Message) (n : ℕ) → Type 0
  Swallowed storm m n =
      (cs : List (Call F.Result)) → Allowed F F.fresh cs → used F cs ≡ storm ++ written F.wire (replicate n m) → Damages n (told_from F 0 cs)

  -- NEVER READ: a message that the writer takes, however often it is written behind this storm
  abbrev pub NeverRead : (storm : List ℕ) (m : F.Message) → Type 0
  NeverRead storm m = F.Takes m × ((n : ℕ) → Swallowed storm m n)
