-- What is demanded of Eversolar, from its facts.
-- Assumes nothing.
use Rattle.stream.proofs.Demands.{demands}
use Rattle.eversolar.specs.Demands.{eversolar, Demanded}
use Rattle.eversolar.proofs.FamilyFacts.{facts}

pub demanded : Demanded
demanded = demands eversolar facts
