-- `remove` meets its promise: miscounted, refused, or one place is set.
use Rattle.std.proofs.Common.{rules, ◌≡◌, Err}
use Rattle.roster_places.proofs.BytesDecide.{inside, remove_ungathered, remove_refused, remove_within, remove_done}
use Rattle.roster_places.proofs.remove.Goals as goal

pub returns-in_err-left : goal.returns-in_err-left
returns-in_err-left c =
    let e : c.from_residual.result ≡ Err c.in_err-left.field-0.0 = search rules in
    rw e (remove_ungathered c.args.ps.now c.in_err-left.field-0.0 c.args.address c.in_err-left.ensures)

pub returns-in_err-remove : goal.returns-in_err-remove
returns-in_err-remove c =
    let e : c.from_residual-in_err-remove.result ≡ Err c.in_err-remove.field-0.0 = search rules in
    rw e (remove_refused c.args.ps.now c.in_err-remove.field-0.0 c.in_ok-left.left c.args.address c.remove.new.roster c.in_ok-left.ensures.1 c.in_err-remove.ensures)

pub overflow_sub-address : goal.overflow_sub-address
overflow_sub-address c = (remove_within _ _ _ c.in_ok-remove.ensures).first

pub bounds-ps-address : goal.bounds-ps-address
bounds-ps-address c = inside c.args.ps.now c.in_ok-left.left c.args.address c.in_ok-left.ensures (remove_within _ _ _ c.in_ok-remove.ensures)

pub returns : goal.returns
returns c =
    rw c.free.ensures (remove_done c.args.ps.now c.in_ok-left.left c.args.address c.remove.new.roster c.in_ok-left.ensures.1 c.in_ok-remove.ensures)
