-- What is held of a message is what is delivered of it: over any messages M, their headers H and any answer that tells what came.
-- Assumes nothing.
use Prim.Native.Nat.{ℕ, ◌≤◌}
use mathlib.Core.Path.{◌≡◌, sym, ap, subst}
use mathlib.Core.List.{List, ◌++◌}
use lib.ListN.{length, take, drop}
use Rattle.stream.specs.Event.{message, Told, gives}
use Rattle.stream.specs.Call.{delivered, retold}
use Rattle.stream.specs.Delivery.{Small, given}

module _ {M H : Type 0} (header : M → H) (payload : M → List ℕ) (len : H → ℕ) (most at : ℕ) (held lent : List ℕ) where
  -- what is told by `told` is small, and what is delivered by it is what t delivers
  abbrev pub Delivers : Told H → Told M → Type 0
  Delivers told t = Small len most told × (given len at told held lent ≡ delivered payload t lent)

  -- a message whose payload is held there
  pub delivers_held : (m : M) → len (header m) ≤ most → take (len (header m)) (drop at held) ≡ payload m → Delivers (gives (message (header m))) (gives (message m))
  delivers_held m small stands = (small, ap (λ (l : List ℕ). l ++ drop (length l) lent) stands)

  -- an answer delivers what it tells
  pub delivers_told : (told : Told H) (t : Told M) → told ≡ retold header t → Delivers (retold header t) t → Delivers told t
  delivers_told told t e d = subst (λ (s : Told H). Delivers s t) (sym e) d
