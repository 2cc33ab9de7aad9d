use Rattle.std.specs.Prelude.{Err}
use Rattle.std.proofs.Common.{rules}
use Prim.Native.Nat.{ℕ}
use mathlib.Core.Path.{◌≡◌, sym, ap, ◌∙◌, subst}
use mathlib.Core.List.{List, [], ◌∷◌, ◌++◌}
use lib.ListN.{length, take, drop, replicate}
use lib.Seq.{take-length}
use borrow.Author.Tests.{eqb-true}
use Rattle.answers.specs.Written.{Written}
use Rattle.eversolar_requests.specs.Requests.{IsGiveAddress}
use Rattle.eversolar_requests.proofs.BuilderEnds.{gives_16, gives_17, gives}
use Rattle.eversolar_requests.proofs.give_address.Goals as goal

-- the serial copied to the front of 17 zeros
copied : (d serial : List ℕ) → length serial ≡ 16 → d ≡ serial → d ++ (0 ∷ []) ≡ take (length serial) serial ++ drop (length serial) (replicate 17 0)
copied d serial e is = rw (is, take-length serial, e)

pub returns-in_err-check_address : goal.returns-in_err-check_address
returns-in_err-check_address c =
    let a = c.args in
    let bad = c.in_err-check_address.ensures in
    let e : c.from_residual.result ≡ Err c.in_err-check_address.field-0.0 = search rules in
    subst (λ (w : Written). IsGiveAddress a.serial.now a.address a.lent.now w a.lent.now) (sym (e ∙ ap Err bad.1)) (gives_16 a.serial.now a.address a.lent.now bad.0)

pub returns-in_err-check_serial : goal.returns-in_err-check_serial
returns-in_err-check_serial c =
    let a = c.args in
    let bad = c.in_err-check_serial.ensures in
    let e : c.from_residual-in_err-check_serial.result ≡ Err c.in_err-check_serial.field-0.0 = search rules in
    subst (λ (w : Written). IsGiveAddress a.serial.now a.address a.lent.now w a.lent.now) (sym (e ∙ ap Err bad.1))
    (gives_17 a.serial.now a.address a.lent.now c.in_ok-check_address.ensures bad.0)

pub returns : goal.returns
returns c =
    let a = c.args in
    let sixteen = eqb-true (length a.serial.now) 16 c.in_ok-check_serial.ensures in
    gives a.serial.now a.address a.lent.now _ c.from_master.new.lent c.from_master.result c.in_ok-check_address.ensures sixteen (copied _ a.serial.now sixteen c.copy_from_slice.ensures.after) c.from_master.ensures
