use borrow.Author.Tests.{lt-leb}
use native.Mathlib.Omega.{arith}
use Prim.Native.Nat.{◌+◌, ◌-◌}
use mathlib.Core.Path.{sym}
use lib.ListN.{length, get_or}
use Rattle.eversolar.proofs.slice.is_whole.Goals as goal

pub returns-then-left-lt-LEAST : goal.returns-then-left-lt-LEAST
returns-then-left-lt-LEAST c =
    let a = c.args in
    sym (lt-leb (11 + get_or a.slice.now (a.mark + 2 + 6) 0) (length a.slice.now - a.mark) (omega arith))

pub returns : goal.returns
returns c = rw c.from-len.ensures
