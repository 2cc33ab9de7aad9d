-- `put_none` meets its promise: `-`, and a byte behind it.
use native.Mathlib.Omega.{arith}
use Prim.Native.Nat.{◌+◌}
use mathlib.Core.Path.{refl}
use mathlib.Core.List.{[], ◌∷◌}
use lib.ListN.{set}
use Rattle.listing_text.proofs.PutsJoin.{and}
use Rattle.listing_text.proofs.hex.put_none.Goals as goal

pub returns : goal.returns
returns c =
    let a = c.args in
    let put = and a.lent.now (set a.lent.now a.at 45) (45 ∷ []) a.at (a.at + 1) a.after (refl, refl) in
    record { put = (omega arith, put.1); value = omega arith }
