-- `fronius_meaning::reading::whole` meets its contract.
use Rattle.fronius_meaning.proofs.ValueBounds.{exact, in_double}
use Rattle.fronius_meaning.proofs.reading.whole.Goals as goal

pub int_to_float-result : goal.int_to_float-result
int_to_float-result c =
    in_double _ (exact c.args.w c.args.k c.ten_to.result c.ranges.w.fits c.requires c.ten_to.ensures)
