-- `find` meets its promise: miscounted, or as the bytes tell.
use Rattle.std.proofs.Common.{rules, ◌≡◌, Err}
use Rattle.roster_places.proofs.BytesDecide.{find_ungathered}
use Rattle.roster_places.proofs.find.Goals as goal

pub returns-in_err-all : goal.returns-in_err-all
returns-in_err-all c =
    let e : c.from_residual.result ≡ Err c.in_err-all.field-0.0 = search rules in
    rw e (find_ungathered c.args.ps.now c.in_err-all.field-0.0 c.args.serial.now c.in_err-all.ensures)
