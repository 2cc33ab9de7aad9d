-- the two sums that are compared
use mathlib.Core.Path.{sym, ◌∙◌}
use native.Mathlib.Omega.{arith}
use Rattle.eversolar.proofs.JudgedIsDelivered.{judged_right, judged_wrong}
use Rattle.eversolar.proofs.reader.judge_frame.Goals as goal

pub returns-then-came-checksum_of : goal.returns-then-came-checksum_of
returns-then-came-checksum_of c =
    judged_wrong c.args.len c.args.held.now (omega arith) c.args.last (λ e. c.if-came-checksum_of.true (c.word-came.ensures ∙ e ∙ sym c.checksum_of.ensures))

pub returns : goal.returns
returns c =
    judged_right c.args.len c.args.held.now (omega arith) c.args.last (sym c.word-came.ensures ∙ c.if-came-checksum_of.false ∙ c.checksum_of.ensures)
