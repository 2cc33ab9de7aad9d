-- `refusal` meets its promise: by its one test.
use borrow.Author.Tests.{lt-ltb, le-ltb}
use Rattle.listing_text.specs.Lines.{field_max}
use Rattle.listing_text.proofs.refusal.Goals as goal

pub returns-then-n-gt-FIELD_MAX : goal.returns-then-n-gt-FIELD_MAX
returns-then-n-gt-FIELD_MAX c = rw (lt-ltb field_max c.args.n c.if-n-gt-FIELD_MAX.true)

pub returns : goal.returns
returns c = rw (le-ltb field_max c.args.n c.if-n-gt-FIELD_MAX.false)
