-- Reading in pieces, over any state S, anything E to give and any machine `next`.
use Rattle.std.specs.Prelude.{ℕ, zero, suc, ◌+◌, List, [], ◌∷◌, ◌++◌, length, drop}
use Rattle.std.proofs.Math.Option.{Option, none, some}

-- what one byte does: the next state, and the event that this byte settles, if any
pub record Moved (S E : Type 0) : Type 0 where
  pub state : S
  pub event : Option E

-- what one call does: the next state, the event, and the number of bytes used
pub record Called (S E : Type 0) : Type 0 where
  pub state : S
  pub event : Option E
  pub used : ℕ

-- what many calls come to: the last state, the events in order, and the bytes that are left
pub record Ran (S E : Type 0) : Type 0 where
  pub state : S
  pub events : List E
  pub left : List ℕ

-- an event, if any, before later ones
abbrev pub before : {E : Type 0} → Option E → List E → List E
before none es = es
before (some e) es = e ∷ es

-- a byte has led to state s with event o, and r is the call on the bytes after it: an event ends the call at this byte
abbrev pub settle : {S E : Type 0} → Option E → S → Called S E → Called S E
settle (some e) s r = record { state = s; event = some e; used = 1 }
settle none s r = record { state = r.state; event = r.event; used = suc r.used }

module _ {S E : Type 0} (next : S → ℕ → Moved S E) where
  -- ONE CALL on a piece: up to the first event, or to the end of the piece
  abbrev pub scan : S → List ℕ → Called S E
  scan s [] = record { state = s; event = none; used = 0 }
  scan s (b ∷ bs) = settle (next s b).event (next s b).state (scan (next s b).state bs)

  -- the same call going on in state s where i bytes of the piece are used: what a loop over the piece keeps
  abbrev pub scan_from : S → List ℕ → ℕ → Called S E
  scan_from s piece i =
      let c = scan s (drop i piece) in
      record { state = c.state; event = c.event; used = i + c.used }

  -- A PIECE CALLED ON UNTIL IT IS USED UP, in at most n calls: each is handed what the calls before it left
  abbrev pub calls : ℕ → S → List ℕ → Ran S E
  calls zero s bs = record { state = s; events = []; left = bs }
  calls (suc n) s [] = record { state = s; events = []; left = [] }
  calls (suc n) s (b ∷ bs) =
      let r = scan s (b ∷ bs) in
      let rest = calls n r.state (drop r.used (b ∷ bs)) in
      record { state = rest.state; events = before r.event rest.events; left = rest.left }

  -- PIECES ONE AFTER ANOTHER, each called on until it is used up: in as many calls as it has bytes, at most
  abbrev pub feed : S → List (List ℕ) → Ran S E
  feed s [] = record { state = s; events = []; left = [] }
  feed s (p ∷ ps) =
      let r = calls (length p) s p in
      let rest = feed r.state ps in
      record { state = rest.state; events = r.events ++ rest.events; left = r.left ++ rest.left }
