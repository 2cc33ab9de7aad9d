-- `none_at` meets its promise: by its three tests.
use Prim.Native.Nat.{◌-◌}
use mathlib.Core.Path.{sym, ap}
use native.Mathlib.Omega.{arith}
use lib.Dec.{eqb}
use borrow.Author.Tests.{lt-leb, le-leb}
use Rattle.roster.specs.declared.Place.{Place}
use Rattle.roster.specs.Roster.{free_place, none_at, free}
use Rattle.roster.proofs.PlacesInBytes.{place_at}
use Rattle.roster.proofs.none_at.Goals as goal

pub returns-then-a-eq0 : goal.returns-then-a-eq0
unfolding none_at
returns-then-a-eq0 c = simp (lt-leb 1 c.args.address (omega arith))

pub returns-then-a-gt-PLACES : goal.returns-then-a-gt-PLACES
unfolding none_at
returns-then-a-gt-PLACES c = simp (le-leb 1 c.args.address (omega arith), lt-leb _ _ c.if-a-gt-PLACES.true)

pub returns : goal.returns
unfolding none_at free
returns c =
    let s = c in
    let here = place_at s.args.roster.now (s.args.address - 1) free_place (omega arith) in
    simp (le-leb 1 s.args.address (omega arith), le-leb _ _ c.if-a-gt-PLACES.false) (ap (λ (p : Place). eqb p.mark 0) (sym here))
