-- `put_last` meets its promise: text after text.
use Rattle.listing_text.specs.Lines.{end_line}
use Rattle.listing.specs.Inside.{stop_text}
use Rattle.listing.proofs.StepMakes.{put_after, last_lines_lem}
use Rattle.listing.proofs.put_last.Goals as goal

pub returns : goal.returns
returns c =
    let a = c.args in
    let s = c.put_stop-p in
    let e = c.put_end-q in
    let seats = last_lines_lem a.stop a.messages a.damages in
    let put =
    put_after (stop_text a.stop) (end_line a.messages a.damages) a.out.now s.new.out e.new.out s.result e.result s.ensures.put e.ensures.put in
    rw seats put
