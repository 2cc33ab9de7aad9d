-- `of_fronius`: no call uses more than its piece.
use Rattle.std.proofs.Common.{◌≡◌, ℕ, ◌+◌, ◌-◌, ◌≤◌, ◌∙◌, List, length, take, drop, arith, length-drop, length-take, rules}
use Rattle.fronius.specs.Machine.{next}
use Rattle.fronius.specs.Reader.{header, shown, whole, together}
use Rattle.stream.proofs.HostRelies.{step_used}
use Rattle.pace_in_place.proofs.of_fronius.Goals as goal
use Rattle.pace_in_place.proofs.of_fronius.Goals.{After-step_in_place-s}

within : (c : After-step_in_place-s) → c.loop-at.at + c.step_in_place-s.result.used ≤ c.piece_end-end.result
within c =
    let piece : List ℕ = take (c.piece_end-end.result - c.loop-at.at) (drop c.loop-at.at c.args.input.now) in
    let long : length piece ≡ c.piece_end-end.result - c.loop-at.at = simp (length-take, length-drop) (omega arith) in
    let used = step_used next whole header (λ m. m.payload) shown (together c.loop-at.held c.loop-at.s).reader piece c.loop-at.lent _ (together c.step_in_place-s.new.held c.step_in_place-s.result) c.step_in_place-s.ensures in
    omega arith

pub overflow_add-at : goal.overflow_add-at
overflow_add-at c = omega (arith, within (goal.at.overflow_add-at c).After-step_in_place-s)

pub loop-at-preserved : goal.loop-at-preserved
loop-at-preserved c =
    let w = within (goal.at.loop-at-preserved c).After-step_in_place-s in
    (w, c.piece_end-end.ensures.1, search rules, c.step_in_place-s.auto.held ∙ c.loop-at.invariant.3)
