-- `known` meets its promise: by what the two calls told. Assumes nothing.
use Rattle.uplink.specs.Packet.{version_of, known}
use Rattle.uplink.proofs.known.Goals as goal

pub returns : goal.returns
unfolding version_of known
returns c = simp (c.eq.ensures, c.eq-2.ensures, c.version_of.ensures, c.version_of-2.ensures)
