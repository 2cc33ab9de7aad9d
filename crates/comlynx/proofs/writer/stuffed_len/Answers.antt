use Rattle.comlynx.specs.Wire.{stuffed}
use Rattle.comlynx.proofs.StoresMakeFrame.{stuffed_most, left_length, left_none}
use native.Mathlib.Omega.{arith}
use mathlib.Core.Path.{◌≡◌, ap}
use lib.ListN.{length}
use Rattle.comlynx.proofs.writer.stuffed_len.Goals as goal

pub overflow_add-n : goal.overflow_add-n
overflow_add-n c =
    let s = c.args.s.now in
    omega (arith, left_length s c.loop-b.b-index (omega arith), stuffed_most s, c.width-n.ensures)

pub loop-b-preserved : goal.loop-b-preserved
loop-b-preserved c =
    let s = c.args.s.now in
    omega (arith, left_length s c.loop-b.b-index (omega arith), c.width-n.ensures)

pub returns : goal.returns
returns c =
    let s = c.args.s.now in
    let whole : c.from.result ≡ length (stuffed s) = omega (arith, ap length (left_none s c.loop-b.b-index (omega arith))) in
    (whole, omega (arith, stuffed_most s))
