-- What is demanded of Fronius, from its facts.
-- Assumes nothing.
use Rattle.stream.proofs.Demands.{demands}
use Rattle.fronius.specs.Demands.{fronius, Demanded}
use Rattle.fronius.proofs.FamilyFacts.{facts}

pub demanded : Demanded
demanded = demands fronius facts
