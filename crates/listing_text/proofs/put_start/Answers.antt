-- `put_start` meets its promise: the port, and two bytes more.
use native.Mathlib.Omega.{arith}
use Prim.Native.Nat.{◌+◌}
use mathlib.Core.List.{[], ◌∷◌, ◌++◌, append_assoc}
use lib.ListN.{length-set, set, length-append}
use Rattle.listing_text.specs.Lines.{decimal}
use Rattle.listing_text.proofs.PutsJoin.{and}
use Rattle.listing_text.proofs.put_start.Goals as goal

pub bounds-lent-p-2 : goal.bounds-lent-p-2
bounds-lent-p-2 c = simp length-set (omega arith)

pub returns : goal.returns
returns c =
    let a = c.args in
    let r = c.put_number-p in
    let l = a.lent.now in
    let m = r.new.lent in
    let port = decimal a.port ++ (32 ∷ []) in
    let one = and l m port 0 r.result 49 r.ensures.put in
    let two = and l (set m r.result 49) (port ++ (49 ∷ [])) 0 (r.result + 1) 32 one in
    record { put = (omega (arith, r.ensures.value, length-append (decimal a.port) (32 ∷ 49 ∷ 32 ∷ [])), simp append_assoc at two.1); value = omega (arith, r.ensures.value) }
