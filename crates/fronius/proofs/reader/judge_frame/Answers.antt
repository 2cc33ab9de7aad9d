-- `reader::judge_frame`: the checksum that came is compared with the one over what is held.
use Rattle.fronius.proofs.JudgedIsDelivered.{judged_right, judged_wrong}
use native.Mathlib.Omega.{arith}
use mathlib.Core.Path.{sym, ◌∙◌}
use Rattle.fronius.proofs.reader.judge_frame.Goals as goal

pub returns-then-sum-checksum_of : goal.returns-then-sum-checksum_of
returns-then-sum-checksum_of c =
    judged_wrong c.args.len c.args.held.now (omega arith) c.args.sum (λ e. c.if-sum-checksum_of.true (e ∙ sym c.checksum_of.ensures))

pub returns : goal.returns
returns c =
    judged_right c.args.len c.args.held.now (omega arith) c.args.sum (c.if-sum-checksum_of.false ∙ c.checksum_of.ensures)
