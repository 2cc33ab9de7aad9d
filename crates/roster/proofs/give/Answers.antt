-- `give` meets its promise: 18, then 17, then as on a sound roster.
use Rattle.std.specs.Prelude.{Err, ◌≡◌}
use Rattle.std.proofs.Common.{rules}
use Rattle.roster.proofs.SoundTest.{fine_size}
use Rattle.roster.proofs.CallEnds.{give_unusable, give_usable}
use Rattle.roster.proofs.give.Goals as goal

pub returns-in_err-usable : goal.returns-in_err-usable
returns-in_err-usable c =
    let e : c.from_residual.result ≡ Err c.in_err-usable.field-0.0 = search rules in
    rw e (give_unusable c.args.roster.now c.args.serial.now c.in_err-usable.field-0.0 c.in_err-usable.ensures)

pub give_sound-requires : goal.give_sound-requires
give_sound-requires c = (fine_size _ c.in_ok-usable.ensures.0, c.in_ok-usable.ensures.1)

pub returns : goal.returns
returns c =
    give_usable c.args.roster.now c.args.serial.now c.give_sound.result _ c.in_ok-usable.ensures.0 c.in_ok-usable.ensures.1 c.give_sound.ensures
