use Rattle.comlynx.proofs.FlagsSearched.{flags_more}
use native.Mathlib.Omega.{arith}
use Rattle.comlynx.proofs.slice.past_flags.Goals as goal

pub loop-i-preserved : goal.loop-i-preserved
loop-i-preserved c at =
    let l = c.loop-i in
    flags_more c.args.slice.now c.args.from l.i at (omega arith) (omega arith) c.if-slice-i-ne-FLAG.false (l.invariant at)
