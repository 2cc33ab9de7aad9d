-- `slice::frame_from`: what the two searches come to is what the rule finds.
use mathlib.Core.Path.{sym, ◌∙◌, subst}
use Rattle.drives.specs.Inside.{FrameFrom}
use Rattle.drives.proofs.RuleInSlice.{none_there, unfinished_there, found_there}
use Rattle.drives.proofs.slice.frame_from.Goals as goal

pub returns-in_err-opening : goal.returns-in_err-opening
returns-in_err-opening c = subst (FrameFrom c.args.slice.now c.args.place) (sym c.from_residual.ensures) (none_there c.args.slice.now c.args.place (sym c.opening_in.ensures ∙ c.in_err-opening.was))

pub returns-in_err-eot : goal.returns-in_err-eot
returns-in_err-eot c =
    subst (FrameFrom c.args.slice.now c.args.place) (sym c.from_residual-in_err-eot.ensures)
    (unfinished_there c.args.slice.now c.args.place c.in_ok-opening.field-0 (sym c.opening_in.ensures ∙ c.in_ok-opening.was) (sym c.eot_in.ensures ∙ c.in_err-eot.was))

pub returns : goal.returns
returns c =
    found_there c.args.slice.now c.args.place c.in_ok-opening.field-0 (sym c.opening_in.ensures ∙ c.in_ok-opening.was) c.in_ok-eot.field-0 (sym c.eot_in.ensures ∙ c.in_ok-eot.was)
