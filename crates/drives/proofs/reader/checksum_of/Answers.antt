use Rattle.numbers.specs.Lists.{total}
use Rattle.drives.specs.Wire.{checksum}
use native.Mathlib.Omega.{arith}
use Prim.Native.Nat.{ℕ}
use mathlib.Core.Path.{◌≡◌}
use mathlib.Core.List.{List}
use lib.ListN.{length, drop}
use lib.Seq.{drop-length}
use Rattle.drives.proofs.reader.checksum_of.Goals as goal

-- none left
all_added : (s : List ℕ) (i : ℕ) → i ≡ length s → total (drop i s) ≡ 0
all_added s i e = rw (e, drop-length s)

pub returns : goal.returns
unfolding checksum
returns c =
    let none = all_added c.args.s.now c.loop-c.c-index (omega arith) in
    omega (arith, none)
