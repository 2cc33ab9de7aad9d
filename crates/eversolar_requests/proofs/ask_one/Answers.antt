use Rattle.std.specs.Prelude.{Err}
use Rattle.std.proofs.Common.{rules}
use mathlib.Core.Path.{◌≡◌, sym, ap, ◌∙◌, subst}
use Rattle.answers.specs.Written.{Written}
use Rattle.eversolar_requests.specs.Requests.{IsAskOne}
use Rattle.eversolar_requests.proofs.BuilderEnds.{asks_one_16, asks_one}
use Rattle.eversolar_requests.proofs.ask_one.Goals as goal

pub returns-in_err-check_address : goal.returns-in_err-check_address
returns-in_err-check_address c =
    let a = c.args in
    let bad = c.in_err-check_address.ensures in
    let e : c.from_residual.result ≡ Err c.in_err-check_address.field-0.0 = search rules in
    subst (λ (w : Written). IsAskOne a.what a.address a.lent.now w a.lent.now) (sym (e ∙ ap Err bad.1)) (asks_one_16 a.what a.address a.lent.now bad.0)

pub returns : goal.returns
returns c =
    let a = c.args in
    asks_one a.what a.address c.code.result a.lent.now c.from_master.new.lent c.from_master.result c.in_ok-check_address.ensures c.code.ensures c.from_master.ensures
