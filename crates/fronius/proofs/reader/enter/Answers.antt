-- `reader::enter`: the state as it is; or the start and the length that were found, and the body that `take_body` took in.
use Rattle.fronius.specs.Inside.{Opens}
use Rattle.fronius.proofs.EnteredIsScanned.{enters}
use Rattle.fronius.proofs.reader.enter.Goals.{Else-not-opens}
use Rattle.fronius.proofs.reader.enter.Goals as goal

opened : (c : Else-not-opens) → Opens c.args.state.stage c.args.piece.now
opened c = c.opens.ensures c.if-not-opens.false

pub returns : goal.returns
returns c =
    let a = c.args in
    rw c.from-len.ensures
    (enters a.state.stage a.state.count a.state.len a.held.now a.piece.now _ c.take_body-at.result c.requires (opened (goal.at.returns c).Else-not-opens)
    (rw c.from-len.ensures at c.take_body-at.ensures))
