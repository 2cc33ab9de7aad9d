-- What a loop over a piece has to keep so that it computes `scan`, and facts of every call.
-- Assumes nothing.
use Prim.Native.Nat.{ℕ, suc, ◌+◌, ◌≤◌, ◌<◌}
use mathlib.Core.Path.{◌≡◌, refl, ap}
use mathlib.Core.Option.{Option, none, some}
use mathlib.Core.List.{List, [], ◌∷◌, ◌++◌}
use lib.ListN.{length, get_or, drop_of_length-le}
use lib.Seq.{drop-cons}
use native.Mathlib.Numerals.{add-one}
use native.Mathlib.Nat.{zero-add, suc-add, add-suc, add-zero}
use native.Mathlib.Omega.{arith}
use Rattle.numbers.proofs.Alike.{zero_is_one}
use Rattle.stream.specs.Pieces.{Moved, settle, scan, scan_from}

module _ {S E : Type 0} (next : S → ℕ → Moved S E) where
  -- A LOOP'S INVARIANT is that `scan_from`, at its state and its place, is the whole call. It holds at the start
  pub from_start : (s : S) (piece : List ℕ) → scan_from next s piece 0 ≡ scan next s piece
  from_start s piece = rw zero-add

  -- a byte that settles nothing keeps it
  pub from_goes : (s t : S) (piece : List ℕ) (i : ℕ) → i < length piece → next s (get_or piece i 0) ≡ record { state = t; event = none }
      → scan_from next s piece i ≡ scan_from next t piece (i + 1)
  from_goes s t piece i lt c = rw (drop-cons piece i 0 lt, c, add-one, add-suc, suc-add)

  -- a byte that settles an event ends the call
  pub from_tells : (s t : S) (e : E) (piece : List ℕ) (i : ℕ) → i < length piece → next s (get_or piece i 0) ≡ record { state = t; event = some e }
      → scan_from next s piece i ≡ record { state = t; event = some e; used = i + 1 }
  from_tells s t e piece i lt c = rw (drop-cons piece i 0 lt, c)

  -- and so does the end of the piece
  pub from_end : (s : S) (piece : List ℕ) (i : ℕ) → length piece ≤ i → scan_from next s piece i ≡ record { state = s; event = none; used = i }
  from_end s piece i le = rw (drop_of_length-le piece le, add-zero)

  -- no call uses more than its piece, one on a byte uses at least that byte, and one that gives nothing uses all of it
  settled_used : (o : Option E) (t : S) (bs : List ℕ) → (scan next t bs).used ≤ length bs → (settle o t (scan next t bs)).used ≤ suc (length bs)
  settled_used none t bs h = omega arith
  settled_used (some e) t bs h = omega arith

  pub scan_used : (s : S) (bs : List ℕ) → (scan next s bs).used ≤ length bs
  scan_used s [] = omega arith
  scan_used s (b ∷ bs) = settled_used (next s b).event (next s b).state bs (scan_used (next s b).state bs)

  settled_some : (o : Option E) (t : S) (bs : List ℕ) → 0 < (settle o t (scan next t bs)).used
  settled_some none t bs = omega arith
  settled_some (some e) t bs = omega arith

  pub scan_uses : (s : S) (bs : List ℕ) → 0 < length bs → 0 < (scan next s bs).used
  scan_uses s [] h = absurd (omega arith)
  scan_uses s (b ∷ bs) h = settled_some (next s b).event (next s b).state bs

  settled_none : (o : Option E) (t : S) (bs : List ℕ) → ((scan next t bs).event ≡ none → (scan next t bs).used ≡ length bs) → (settle o t (scan next t bs)).event ≡ none → (settle o t (scan next t bs)).used ≡ suc (length bs)
  settled_none none t bs ih h = ap suc (ih h)
  settled_none (some e) t bs ih h = zero_is_one cc

  pub scan_none : (s : S) (bs : List ℕ) → (scan next s bs).event ≡ none → (scan next s bs).used ≡ length bs
  scan_none s [] h = refl
  scan_none s (b ∷ bs) h = settled_none (next s b).event (next s b).state bs (scan_none (next s b).state bs) h

  -- a call that gives an event has looked at no byte after it
  settled_front : (o : Option E) (t : S) (w rest : List ℕ) (e : E) → ((scan next t w).event ≡ some e → scan next t (w ++ rest) ≡ scan next t w)
      → (settle o t (scan next t w)).event ≡ some e → settle o t (scan next t (w ++ rest)) ≡ settle o t (scan next t w)
  settled_front none t w rest e ih h = ap (settle none t) (ih h)
  settled_front (some x) t w rest e ih h = refl

  pub scan_front : (s : S) (w rest : List ℕ) (e : E) → (scan next s w).event ≡ some e → scan next s (w ++ rest) ≡ scan next s w
  scan_front s [] rest e h = zero_is_one cc
  scan_front s (b ∷ w) rest e h = settled_front (next s b).event (next s b).state w rest e (scan_front (next s b).state w rest e) h
