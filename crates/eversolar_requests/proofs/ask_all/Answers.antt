use Rattle.eversolar_requests.proofs.BuilderEnds.{asks_all}
use Rattle.eversolar_requests.proofs.ask_all.Goals as goal

pub returns : goal.returns
returns c = asks_all c.args.what c.code.result c.args.lent.now c.from_master.new.lent c.from_master.result c.code.ensures c.from_master.ensures
