-- What the builders owe the inverters and their callers, over their own promises and that of the Eversolar reader.
use Rattle.std.specs.Prelude.{ℕ, ◌≤◌, ◌≡◌, List, ◌++◌, length, take, T, Ok, Err}
use Rattle.std.proofs.Math.Pow.{are_bytes}
use Rattle.answers.specs.declared.Refusal.{Refusal}
use Rattle.stream.specs.Event.{message, gives}
use Rattle.stream.specs.Call.{lent_least}
use Rattle.eversolar.specs.Wire.{Message}
use Rattle.eversolar.specs.Machine.{fresh}
use Rattle.eversolar.specs.Reader.{IsStep}
use Rattle.eversolar.specs.Demands.{eversolar}
use Rattle.eversolar.specs.declared.reader.Step.{Step}
use Rattle.eversolar_requests.specs.Requests.{ask_all, ask_one, give_address, IsAskAll, IsAskOne, IsGiveAddress}
use Rattle.eversolar_requests.specs.declared.ToAll.{ToAll}
use Rattle.eversolar_requests.specs.declared.ToOne.{ToOne}

-- of the first n bytes of a buffer, whatever follows them, a fresh reader tells this message, and uses them all
abbrev pub ReadsAs : Message → List ℕ → ℕ → Type 0
ReadsAs m frame n =
    (rest lent later : List ℕ) (r : Step) → lent_least ≤ length lent → IsStep fresh (take n frame ++ rest) lent r later
    → ((eversolar.seen r later).told ≡ gives (message m)) × ((eversolar.seen r later).used ≡ n)

-- Each request that was built reads back as the message that document 01 names: from the master, with its destination, control, function and data.
pub record ReadsBack : Type 0 where
  pub all : (what : ToAll) (lent later : List ℕ) (n : ℕ) → IsAskAll what lent (Ok n) later → ReadsAs (ask_all what) later n
  pub one : (what : ToOne) (address : ℕ) (lent later : List ℕ) (n : ℕ) → IsAskOne what address lent (Ok n) later → ReadsAs (ask_one what address) later n
  pub given : (serial : List ℕ) (address : ℕ) (lent later : List ℕ) (n : ℕ) → T (are_bytes serial)
      → IsGiveAddress serial address lent (Ok n) later → ReadsAs (give_address serial address) later n

-- After a refusal the lent buffer holds what it held.
pub record Kept : Type 0 where
  pub all : (what : ToAll) (lent later : List ℕ) (why : Refusal) → IsAskAll what lent (Err why) later → later ≡ lent
  pub one : (what : ToOne) (address : ℕ) (lent later : List ℕ) (why : Refusal) → IsAskOne what address lent (Err why) later → later ≡ lent
  pub given : (serial : List ℕ) (address : ℕ) (lent later : List ℕ) (why : Refusal) → IsGiveAddress serial address lent (Err why) later → later ≡ lent
