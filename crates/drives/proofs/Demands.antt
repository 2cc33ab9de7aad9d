-- What is demanded of drives, from its facts.
-- Assumes nothing.
use Rattle.stream.proofs.Demands.{demands}
use Rattle.drives.specs.Demands.{drives, Demanded}
use Rattle.drives.proofs.FamilyFacts.{facts}

pub demanded : Demanded
demanded = demands drives facts
