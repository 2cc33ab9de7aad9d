use Rattle.eversolar.proofs.SearchFindsFrame.{frame_there}
use Rattle.eversolar.proofs.slice.frame_from.Goals as goal

pub returns : goal.returns
returns c =
    frame_there c.args.slice.now c.args.from c.in_ok-mark.mark c.is_whole.result c.then_some.result c.in_ok-mark.ensures c.is_whole.ensures c.then_some.ensures
