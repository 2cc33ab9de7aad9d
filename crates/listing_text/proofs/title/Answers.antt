-- `title` meets its promise: by its one test.
use native.Mathlib.Omega.{arith}
use mathlib.Core.Path.{refl}
use Rattle.answers.proofs.WriterPromise.{writes_no_room}
use Rattle.listing_text.specs.Lines.{title_line}
use Rattle.listing_text.proofs.PutsJoin.{copied, written}
use Rattle.listing_text.proofs.title.Goals as goal

pub returns-then-lent-lt30 : goal.returns-then-lent-lt30
returns-then-lent-lt30 c = writes_no_room title_line c.args.lent.now (omega arith)

pub returns : goal.returns
returns c =
    let l = c.args.lent.now in
    let w = c.copy_from_slice in
    written l _ title_line title_line 30 refl (omega arith) (refl, copied l w.new.self title_line (omega arith) w.ensures.after)
