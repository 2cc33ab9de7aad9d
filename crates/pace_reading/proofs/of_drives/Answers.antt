-- `of_drives`: no call uses more than its piece.
use Rattle.std.proofs.Common.{◌≡◌, ℕ, ◌+◌, ◌-◌, ◌≤◌, List, length, take, drop, arith, length-drop, length-take, rules}
use Rattle.drives.specs.Machine.{next}
use Rattle.drives.specs.Reader.{in_range, header, shown}
use Rattle.stream.proofs.HostRelies.{step_used}
use Rattle.pace_reading.proofs.of_drives.Goals as goal
use Rattle.pace_reading.proofs.of_drives.Goals.{After-step-s}

within : (c : After-step-s) → c.loop-at.at + c.step-s.result.used ≤ c.piece_end-end.result
within c =
    let piece : List ℕ = take (c.piece_end-end.result - c.loop-at.at) (drop c.loop-at.at c.args.input.now) in
    let long : length piece ≡ c.piece_end-end.result - c.loop-at.at = simp (length-take, length-drop) (omega arith) in
    let used = step_used next in_range header (λ m. m.payload) shown c.loop-at.s.reader piece c.loop-at.lent _ c.step-s.result c.step-s.ensures in
    omega arith

pub overflow_add-at : goal.overflow_add-at
overflow_add-at c = omega (arith, within (goal.at.overflow_add-at c).After-step-s)

pub loop-at-preserved : goal.loop-at-preserved
loop-at-preserved c = let w = within (goal.at.loop-at-preserved c).After-step-s in (w, c.piece_end-end.ensures.1, search rules)
