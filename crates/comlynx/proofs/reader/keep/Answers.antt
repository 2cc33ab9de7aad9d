use borrow.Author.Tests.{lt-ltb, le-ltb}
use Rattle.comlynx.specs.Machine.{keep_of}
use Rattle.comlynx.proofs.reader.keep.Goals as goal

pub returns-then-count-lt-BODY : goal.returns-then-count-lt-BODY
unfolding keep_of
returns-then-count-lt-BODY c = simp (lt-ltb _ _ c.if-count-lt-BODY.true)

pub returns-else-count-lt-BODY : goal.returns-else-count-lt-BODY
unfolding keep_of
returns-else-count-lt-BODY c = simp (le-ltb _ _ c.if-count-lt-BODY.false)
