use Prim.Native.Nat.{ℕ, ◌+◌, ◌≤◌}
use lib.ListN.{take, length-take}
use Rattle.comlynx.specs.Inside.{Passed}
use Rattle.comlynx.specs.Wire.{flag, escape}
use Rattle.comlynx.proofs.SearchedParts.{clear_front, passed_on}
use Rattle.comlynx.proofs.FillScans.{filled_copy}
use borrow.Author.Rules.{rules}
use native.Mathlib.Omega.{arith}
use Rattle.comlynx.proofs.reader.fill.Goals as goal

-- what was searched up to, and how far that is
pub returns : goal.returns
returns c =
    let a = c.args in
    let p = a.piece.now in
    let stop : ℕ = a.from + c.min.result in
    let e : Passed flag escape (take stop p) a.from c.either_from-end.result =
    passed_on flag escape (take stop p) a.from c.past_runs-runs.result c.either_from-end.result c.past_runs-runs.ensures c.either_from-end.ensures.0 in
    let near : c.either_from-end.result ≤ stop = omega (arith, e.1, length-take stop p) in
    filled_copy a.count a.held.now p a.from c.either_from-end.result _ c.copy_from_slice.new.self e.0 (omega arith) (omega arith) (search rules)
    (clear_front flag escape p stop a.from c.either_from-end.result near e.2) (omega arith) c.copy_from_slice.ensures.after
