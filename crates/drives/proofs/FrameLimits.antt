-- A frame of a right length has station, letter and sum, and all its characters are held.
-- Assumes nothing.
use Prim.Native.Nat.{ℕ, ◌+◌, ◌≤◌}
use mathlib.Core.Path.{◌≡◌}
use mathlib.Core.Bool.{true}
use lib.Dec.{eqb, leb}
use borrow.Author.Tests.{leb-true}
use native.Mathlib.Omega.{arith}
use Rattle.numbers.proofs.TestLaws.{both, by_test}
use Rattle.drives.specs.Wire.{enq, frame_least, frame_most}
use Rattle.drives.specs.Rules.{sized}
use Rattle.drives.specs.Machine.{held_max}

-- whatever opens it, a frame has at most what a reader holds, and its two ends
pub longest : (opening : ℕ) → frame_most opening ≤ held_max + 2
unfolding frame_most
longest opening = by_test (λ n. n ≤ held_max + 2) (eqb opening enq) (λ e. omega arith) (λ e. omega arith)

pub sized_bounds : (opening count : ℕ) → sized opening (count + 2) ≡ true → (5 ≤ count) × (count ≤ held_max)
unfolding sized
sized_bounds opening count e =
    let t = both (leb frame_least (count + 2)) (leb (count + 2) (frame_most opening)) e in
    let least = leb-true frame_least (count + 2) t.0 in
    let most = leb-true (count + 2) (frame_most opening) t.1 in
    (omega arith, omega (arith, longest opening))
