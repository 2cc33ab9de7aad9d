-- `give` meets its promise: miscounted, refused, or one place is set.
use Rattle.std.proofs.Common.{rules, ◌≡◌, Err, arith}
use Rattle.roster_places.proofs.BytesDecide.{inside, give_ungathered, give_refused, give_within, give_sized, give_done}
use Rattle.roster_places.proofs.give.Goals as goal

pub returns-in_err-later : goal.returns-in_err-later
returns-in_err-later c =
    let e : c.from_residual.result ≡ Err c.in_err-later.field-0.0 = search rules in
    rw e (give_ungathered c.args.ps.now c.in_err-later.field-0.0 c.args.serial.now c.in_err-later.ensures)

pub returns-in_err-address : goal.returns-in_err-address
returns-in_err-address c =
    let e : c.from_residual-in_err-address.result ≡ Err c.in_err-address.field-0.0 = search rules in
    rw e (give_refused c.args.ps.now c.in_err-address.field-0.0 c.in_ok-later.later c.args.serial.now c.give.new.roster c.in_ok-later.ensures.1 c.in_err-address.ensures)

pub overflow_sub-k : goal.overflow_sub-k
overflow_sub-k c = (give_within _ _ _ _ c.in_ok-address.ensures).first

pub place_in-requires : goal.place_in-requires
place_in-requires c =
    let w = give_within _ _ _ _ c.in_ok-address.ensures in
    (give_sized _ _ _ _ c.in_ok-address.ensures, omega (arith, w.first, w.last))

pub bounds-ps-k : goal.bounds-ps-k
bounds-ps-k c = inside c.args.ps.now c.in_ok-later.later c.in_ok-address.address c.in_ok-later.ensures (give_within _ _ _ _ c.in_ok-address.ensures)

pub returns : goal.returns
returns c =
    rw c.place_in.ensures (give_done c.args.ps.now c.in_ok-later.later c.args.serial.now c.give.new.roster c.in_ok-address.address c.in_ok-later.ensures.1 c.in_ok-address.ensures)
