-- Parts of a buffer that is moved, read into and written.
-- Assumes nothing.
use Prim.Native.Nat.{ℕ, ◌-◌, ◌≤◌}
use mathlib.Core.Path.{◌≡◌}
use mathlib.Core.List.{List}
use lib.ListN.{length, take, drop, length-take, length-drop}
use lib.Seq.{take_at}
use Rattle.sbrlist.specs.Run.{part, moved_front}
use native.Mathlib.Omega.{arith}

-- ---- what is at hand

pub length_part : (l : List ℕ) (from to : ℕ) → from ≤ to → to ≤ length l → length (part from to l) ≡ to - from
length_part l from to h k = simp (length-take, length-drop) (omega arith)

pub front_moved : (l : List ℕ) (from to : ℕ) → from ≤ to → to ≤ length l → take (to - from) (moved_front from to l) ≡ part from to l
front_moved l from to h k = take_at (part from to l) (drop (to - from) l) (to - from) (length_part l from to h k)
