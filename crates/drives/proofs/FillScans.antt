-- Characters taken into a frame.
-- Assumes nothing.
use Prim.Native.Nat.{ℕ, ◌+◌, ◌-◌, ◌≤◌, ◌<◌}
use mathlib.Core.Path.{◌≡◌, sym, ap, ◌∙◌}
use mathlib.Core.List.{List}
use lib.ListN.{length, get_or, set}
use native.Mathlib.Omega.{arith}
use Rattle.stream.specs.Pieces.{scan_from}
use Rattle.stream.proofs.LoopScans.{from_goes}
use Rattle.drives.specs.Wire.{eot}
use Rattle.drives.specs.Machine.{held_max, inside, next}
use Rattle.drives.specs.Inside.{Filled}
use Rattle.drives.proofs.MachineMoves.{keeps}

-- none,
pub filled_none : (c : ℕ) (h p : List ℕ) (i : ℕ) → i ≤ length p → c ≤ held_max → Filled c h p i i h
filled_none c h p i hi hc =
    let e : c ≡ c + (i - i) = omega arith in
    record {
      forward = omega arith;
      within = hi;
      room = omega arith;
      goes = λ o n. ap (λ (x : ℕ). scan_from next (inside o x h) p i) e;
    }

-- and one more
pub filled_more : (c : ℕ) (h p : List ℕ) (i at j : ℕ) (k : List ℕ) → at ≡ c + (j - i) → Filled c h p i j k
    → j < length p → at < held_max → (get_or p j 0 ≡ eot → ⊥) → Filled c h p i (j + 1) (set k at (get_or p j 0))
filled_more c h p i at j k e f hj hc q =
    let d : at + 1 ≡ c + (j + 1 - i) = omega (arith, f.forward) in
    record {
      forward = omega (arith, f.forward);
      within = omega arith;
      room = omega (arith, f.forward);
      goes = λ o n.
          f.goes o n
          ∙ ap (λ (x : ℕ). scan_from next (inside o x k) p j) (sym e)
          ∙ from_goes next (inside o at k) (inside o (at + 1) (set k at (get_or p j 0))) p j hj (keeps o n at k (get_or p j 0) q hc)
          ∙ ap (λ (x : ℕ). scan_from next (inside o x (set k at (get_or p j 0))) p (j + 1)) d;
    }
