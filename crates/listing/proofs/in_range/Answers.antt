-- `in_range` meets its promise: by its one test, after which the code is the definition.
use native.Mathlib.Omega.{arith}
use borrow.Author.Tests.{le-leb, lt-leb}
use Rattle.listing.specs.Steps.{packets_max, in_range}
use Rattle.listing.proofs.in_range.Goals as goal

pub returns-then-packets-gt-PACKETS_MAX : goal.returns-then-packets-gt-PACKETS_MAX
unfolding in_range
returns-then-packets-gt-PACKETS_MAX c = λ ports. rw (lt-leb c.args.packets packets_max (omega arith))

pub returns : goal.returns
unfolding in_range
returns c = λ ports. rw (le-leb c.args.packets packets_max (omega arith))
