-- `is_refused` meets its promise: by its tests, and since no line is longer than the bound.
use native.Mathlib.Omega.{arith}
use borrow.Author.Tests.{lt-ltb, le-ltb}
use Rattle.listing_text.specs.Lines.{field_max}
use Rattle.listing_text.specs.Inside.{line_length}
use Rattle.listing_text.proofs.FieldLengths.{width_most, decimal_8}
use Rattle.listing_text.proofs.is_refused.Goals as goal

pub returns-then-n-gt-FIELD_MAX : goal.returns-then-n-gt-FIELD_MAX
returns-then-n-gt-FIELD_MAX c = rw (lt-ltb field_max c.args.n c.if-n-gt-FIELD_MAX.true)

pub returns-then-room-ge-LINE_MAX : goal.returns-then-room-ge-LINE_MAX
returns-then-room-ge-LINE_MAX c =
    let a = c.args in
    rw (le-ltb field_max a.n c.if-n-gt-FIELD_MAX.false, le-ltb a.room (line_length a.port a.three a.n) (omega (arith, decimal_8 a.port (omega arith), width_most a.n)))

pub returns : goal.returns
returns c =
    rw (c.places.ensures.value, c.width.ensures.value, le-ltb field_max c.args.n c.if-n-gt-FIELD_MAX.false)
