use Rattle.std.proofs.Common.{◌≡◌, ◌-◌, length, length-drop, drop, ◌∙◌, arith}
use lib.Seq.{take_all}
use Rattle.fronius.proofs.FoundFromPlace.{marks_passed}
use Rattle.fronius.proofs.slice.past_marks.Goals as goal

pub returns : goal.returns
returns c =
    let s = c.args.slice.now in
    let from = c.args.from in
    let cut = c.in-Some.ensures.lookup.0 in
    let rest : c.in-Some.rest.now ≡ drop from s = cut.2 ∙ take_all (length s - from) (drop from s) (simp length-drop (omega arith)) in
    rw (c.unwrap_or.ensures, c.first_other.ensures, rest) (marks_passed s from cut.0)
