-- `usable` meets its promise: 18, then 17.
use mathlib.Core.Path.{sym, ◌∙◌}
use Rattle.roster.proofs.CallEnds.{usable_spoilt, usable_unfit}
use Rattle.roster.proofs.usable.Goals as goal

pub returns-then-is_spoilt : goal.returns-then-is_spoilt
returns-then-is_spoilt c = usable_spoilt c.args.roster.now c.args.serial.now (sym c.is_spoilt.ensures ∙ c.if-is_spoilt.true)

pub returns-then-serial-ne-SERIAL_SIZE : goal.returns-then-serial-ne-SERIAL_SIZE
returns-then-serial-ne-SERIAL_SIZE c =
    usable_unfit c.args.roster.now c.args.serial.now (sym c.is_spoilt.ensures ∙ c.if-is_spoilt.false) c.if-serial-ne-SERIAL_SIZE.true
