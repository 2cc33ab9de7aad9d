-- A family's reading with no machine in it: one event at a time, from the bytes that remain.
use Rattle.std.specs.Prelude.{ℕ, zero, suc, ◌+◌, List, [], ◌∷◌, length, drop}
use Rattle.std.proofs.Math.Option.{Option, none, some}

-- an event, and the number of bytes up to and with the one that settles it
pub record Settled (E : Type 0) : Type 0 where
  pub event : E
  pub used : ℕ

-- what was found after `at` other bytes, and what is found after that; nothing more where nothing was
abbrev pub and_on : {E : Type 0} → ℕ → Option (Settled E) → (ℕ → List (Settled E)) → List (Settled E)
and_on at none later = []
and_on at (some found) later = record { event = found.event; used = at + found.used } ∷ later found.used

-- `rule known bs` is the first event in the bytes bs, if any, where `known` is what is known of the bytes before them;
-- `after` is what is known after an event
module _ {K E : Type 0} (rule : K → List ℕ → Option (Settled E)) (after : K) where
  -- the first n events in bs, where `at` bytes came before
  abbrev pub first_readings : ℕ → K → ℕ → List ℕ → List (Settled E)
  first_readings zero known at bs = []
  first_readings (suc n) known at bs = and_on at (rule known bs) (λ used. first_readings n after (at + used) (drop used bs))

  -- ALL EVENTS in bs: each has a byte of its own that settles it, so there are at most as many as bytes
  abbrev pub readings : K → List ℕ → List (Settled E)
  readings known bs = first_readings (length bs) known 0 bs
