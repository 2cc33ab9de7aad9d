-- THE FACTS THAT A FAMILY HAS TO SHOW. The demands follow from them, for every family alike: `proofs/Demands.antt`.
-- Assumes nothing.
use Prim.Native.Nat.{ℕ, ◌≤◌}
use mathlib.Core.Path.{◌≡◌}
use mathlib.Core.Bool.{Bool, true}
use mathlib.Core.Option.{Option, none, some}
use mathlib.Core.List.{List, [], ◌++◌}
use lib.ListN.{length, take}
use lib.Dec.{T}
use lib.Pow.{are_bytes}
use Rattle.stream.specs.Event.{Event, message, gives}
use Rattle.stream.specs.Pieces.{Moved, scan}
use Rattle.stream.specs.Call.{lent_least, called}
use Rattle.stream.specs.Rule.{Settled}
use Rattle.stream.specs.Family.{Family}
use Rattle.stream.specs.Demands.{EndsWith, BorneOut}

-- what a call found, as a rule tells it
abbrev pub found : {E : Type 0} → Option E → ℕ → Option (Settled E)
found none used = none
found (some e) used = some (record { event = e; used = used })

-- a machine in state s finds in bs what the rule finds there, and after an event is where the rule goes on
pub record Follows {K S E : Type 0} (rule : K → List ℕ → Option (Settled E)) (next : S → ℕ → Moved S E) (At : K → S → Type 0) (known after : K) (s : S) (bs : List ℕ) : Type 0 where
  pub finds : rule known bs ≡ found (scan next s bs).event (scan next s bs).used
  pub goes_on : (e : E) → (scan next s bs).event ≡ some e → At after (scan next s bs).state

-- a call on this piece with this buffer lent has a result
pub record HasResult (F : Family) (s : F.State) (piece lent : List ℕ) : Type 0 where
  pub result : F.Result
  pub later : List ℕ
  pub steps : F.Steps s piece lent result later

pub record Facts (F : Family) : Type 1 where
  -- THE ONE FACT OF READING: a machine that follows the rule from every state in which an event may begin to be read
  pub next : F.State → ℕ → Moved F.State (Event F.Message)
  pub At : F.Known → F.State → Type 0
  pub at_start_lem : At F.at_start F.fresh
  pub follows : (known : F.Known) (s : F.State) → At known s → (bs : List ℕ) → T (are_bytes bs) → Follows F.rule next At known F.after_event s bs
  -- what the rule finds is borne out by the bytes. `last_known` are those that are known to have come last: a frame may begin with them
  pub last_known : F.Known → List ℕ
  pub none_at_start : last_known F.at_start ≡ []
  pub borne_out : (known : F.Known) (bs : List ℕ) → T (are_bytes bs) → (p : Settled (Event F.Message)) → F.rule known bs ≡ some p
      → BorneOut F (last_known known ++ take p.used bs) (gives p.event) × EndsWith (last_known F.after_event) (last_known known ++ take p.used bs)
  -- and of writing: the rule reads what is written, all of it bytes
  pub reads : (known : F.Known) (m : F.Message) → F.Takes m → F.rule known (F.wire m) ≡ some (record { event = message m; used = length (F.wire m) })
  pub wire_bytes : (m : F.Message) → F.Takes m → T (are_bytes (F.wire m))
  -- the calls do as the machine, have a result from the states in range, and lead to such states; and the writer writes the wire's bytes, or nothing
  pub in_range : F.State → Bool
  pub fresh_in_range : in_range F.fresh ≡ true
  pub steps : (s : F.State) (piece lent later : List ℕ) (r : F.Result) → F.Steps s piece lent r later → F.seen r later ≡ called next in_range s piece lent
  pub results : (s : F.State) (piece lent : List ℕ) → in_range s ≡ true → T (are_bytes piece) → lent_least ≤ length lent → HasResult F s piece lent
  pub stays_in_range : (s : F.State) (piece lent later : List ℕ) (r : F.Result) → F.Steps s piece lent r later → in_range s ≡ true → in_range (F.seen r later).state ≡ true
  pub keeps : (s : F.State) (piece lent later : List ℕ) (r : F.Result) → F.Steps s piece lent r later
      → ((m : F.Message) → (F.seen r later).told ≡ gives (message m) → ⊥) → later ≡ lent
  pub writes : (m : F.Message) (lent later : List ℕ) (w : F.Written) (n : ℕ) → F.Writes m lent w later → F.wrote w ≡ some n
      → (take n later ≡ F.wire m) × (n ≡ length (F.wire m))
  pub writes_nothing : (m : F.Message) (lent later : List ℕ) (w : F.Written) → F.Writes m lent w later → F.wrote w ≡ none → later ≡ lent
