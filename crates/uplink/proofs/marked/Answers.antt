-- `marked` meets its promise: what `starts_with` told. Assumes nothing.
use mathlib.Core.Path.{◌∙◌}
use Rattle.uplink.proofs.PacketTests.{marked_front}
use Rattle.uplink.proofs.marked.Goals as goal

pub returns : goal.returns
returns c = c.starts_with.ensures.value ∙ marked_front c.args.s.now c.requires
