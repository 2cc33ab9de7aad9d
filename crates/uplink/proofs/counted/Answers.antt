-- `counted` meets its promise: the code is the definition. Assumes nothing.
use mathlib.Core.Path.{refl}
use Rattle.uplink.specs.Packet.{counted}
use Rattle.uplink.proofs.counted.Goals as goal

pub returns : goal.returns
unfolding counted
returns c = refl
