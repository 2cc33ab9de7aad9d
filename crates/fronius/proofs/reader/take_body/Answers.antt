-- `reader::take_body`: each byte stored is one that the machine keeps; or what `fill` takes in.
use Rattle.fronius.proofs.EnteredIsScanned.{header_filled}
use Rattle.fronius.proofs.reader.take_body.Goals as goal

pub returns-then-len-eq0 : goal.returns-then-len-eq0
returns-then-len-eq0 c = header_filled c.args.len c.args.held.now c.args.piece.now c.if-piece-ge-HEADER.true
