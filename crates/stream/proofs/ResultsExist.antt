-- How a family shows that its calls have results: what one byte does, said of all bytes of a piece.
-- Assumes nothing.
use Prim.Native.Nat.{ℕ, ◌<◌}
use mathlib.Core.Path.{◌≡◌}
use mathlib.Core.Bool.{Bool, true}
use mathlib.Core.Option.{Option, none, some}
use mathlib.Core.List.{List, [], ◌∷◌}
use lib.Dec.{T}
use lib.Pow.{are_bytes}
use Rattle.stream.specs.Event.{Event, message, damage}
use Rattle.stream.specs.Pieces.{Moved, Called, settle, scan}
use Rattle.stream.proofs.BytesOfParts.{bytes_head, bytes_tail}

-- a damage has a number for which there is a case: `Named` says so
abbrev pub Cased : {M : Type 0} → (ℕ → Type 0) → Option (Event M) → Type 0
Cased Named none = Unit {0}
Cased Named (some (message m)) = Unit {0}
Cased Named (some (damage n lost)) = Named n

module _ {S M : Type 0} (next : S → ℕ → Moved S (Event M)) (in_range : S → Bool) (Named : ℕ → Type 0) where
  -- a byte leads from a state in range to one, and a damage that it settles has a case
  abbrev pub Steady : Moved S (Event M) → Type 0
  Steady m = (in_range m.state ≡ true) × Cased Named m.event

  -- and so does a call
  pub record Answerable (c : Called S (Event M)) : Type 0 where
    pub ranged : in_range c.state ≡ true
    pub cased : Cased Named c.event

  settled : (o : Option (Event M)) (t : S) (c : Called S (Event M)) → in_range t ≡ true → Cased Named o → Answerable c → Answerable (settle o t c)
  settled none t c i k a = record { ranged = a.ranged; cased = a.cased }
  settled (some e) t c i k a = record { ranged = i; cased = k }

  module _ (steady : (s : S) (b : ℕ) → in_range s ≡ true → b < 256 → Steady (next s b)) where
    pub answerable : (s : S) (bs : List ℕ) → in_range s ≡ true → T (are_bytes bs) → Answerable (scan next s bs)
    answerable s [] i g = record { ranged = i; cased = tt }
    answerable s (b ∷ bs) i g =
        let m = steady s b i (bytes_head b bs g) in
        settled (next s b).event (next s b).state (scan next (next s b).state bs) m.0 m.1 (answerable (next s b).state bs m.0 (bytes_tail b bs g))
