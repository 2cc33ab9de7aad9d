use Prim.Native.Nat.{◌+◌}
use mathlib.Core.Path.{◌∙◌}
use lib.ListN.{get_or}
use native.Mathlib.Omega.{arith}
use Rattle.eversolar.proofs.JudgedIsDelivered.{frame_delivers}
use Rattle.eversolar.proofs.slice.judge_at.Goals as goal

pub deliver-requires : goal.deliver-requires
deliver-requires c =
    let a = c.args in
    let b = a.body.now in
    let handed = frame_delivers a.len (get_or b (8 + a.len) 0) b a.lent.now c.judge_frame-answer.result c.requires.0 (omega arith) c.judge_frame-answer.ensures in
    (handed.0, handed.1, c.requires.2)

pub returns : goal.returns
returns c =
    let a = c.args in
    let b = a.body.now in
    let handed = frame_delivers a.len (get_or b (8 + a.len) 0) b a.lent.now c.judge_frame-answer.result c.requires.0 (omega arith) c.judge_frame-answer.ensures in
    record { tells = c.judge_frame-answer.ensures; leaves = c.deliver.ensures ∙ handed.2 }
