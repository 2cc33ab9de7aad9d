use Prim.Native.Nat.{ℕ, ◌+◌, ◌-◌}
use mathlib.Core.Path.{◌≡◌, sym, ap, ◌∙◌}
use mathlib.Core.List.{List}
use lib.ListN.{length, take, drop, length-drop}
use lib.Seq.{sets, length-take-le}
use borrow.Rule.Slice.PartMut.{put_mid}
use native.Mathlib.Omega.{arith}
use Rattle.stream.specs.Pieces.{scan_from}
use Rattle.eversolar.specs.Machine.{holding, next}
use Rattle.eversolar.proofs.CopiedIn.{put, keeps_all}
use Rattle.eversolar.proofs.reader.fill.Goals as goal

pub returns : goal.returns
returns c =
    let a = c.args in
    let n = c.min-n.result in
    let held = a.held.now in
    let src : List ℕ = take n (drop a.from a.piece.now) in
    let long : length src ≡ n = length-take-le n (drop a.from a.piece.now) (simp length-drop (omega arith)) in
    let cut : a.from + n - a.from ≡ n = omega arith in
    let m : c.copy_from_slice.new.self ≡ src = rw cut at c.copy_from_slice.ensures.after in
    let stored : put_mid a.count (a.count + n - a.count) held c.copy_from_slice.new.self ≡ sets held a.count src = put held _ src a.count n long (omega arith) m in
    rw stored (record {
      forward = omega arith;
      within = omega arith;
      room = omega arith;
      goes = keeps_all a.stage a.len n a.count held a.piece.now a.from (omega arith) (omega arith) (omega arith)
          ∙ ap (λ (k : ℕ). scan_from next (holding a.stage (a.count + k) a.len (sets held a.count src)) a.piece.now (a.from + n)) (sym cut);
    })
