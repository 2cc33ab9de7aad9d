-- `reader::fill`: each byte copied is one that the machine keeps, so the call goes on from there.
use Rattle.std.proofs.Common.{◌≡◌, ℕ, ◌+◌, ◌-◌, List, length, take, drop, length-drop, sym, ap, ◌∙◌, arith}
use Rattle.std.proofs.lemmas.List.{take-append-drop}
use lib.Seq.{length-take-le}
use borrow.Rule.Slice.PartMut.{put_mid}
use Rattle.stream.specs.Pieces.{scan_from}
use Rattle.fronius.specs.Machine.{filling, next}
use Rattle.fronius.proofs.EnteredIsScanned.{stored}
use Rattle.fronius.proofs.WriterWritesFrame.{put_copied}
use Rattle.fronius.proofs.reader.fill.Goals as goal

pub returns : goal.returns
returns c =
    let a = c.args in
    let n = c.min-n.result in
    let k = a.from + n - a.from in
    let all_n : k ≡ n = omega arith in
    let behind = drop a.from a.piece.now in
    let src = take k behind in
    let size : length src ≡ n = length-take-le k behind (simp length-drop (omega arith)) ∙ all_n in
    let later = put_mid a.count (a.count + n - a.count) a.held.now c.copy_from_slice.new.self in
    let put = put_copied a.held.now c.copy_from_slice.new.self src a.count (a.count + n - a.count) (omega (arith, size)) (omega (arith, size)) c.copy_from_slice.ensures.after in
    record {
      forward = omega arith;
      within = omega arith;
      room = omega arith;
      goes =
          stored src (drop k behind) a.count a.len a.held.now a.piece.now a.from (omega (arith, size)) (sym (take-append-drop k behind))
          ∙ ap (λ (l : List ℕ). scan_from next (filling (a.count + length src) a.len l) a.piece.now (a.from + length src)) (sym put)
          ∙ ap (λ (x : ℕ). scan_from next (filling (a.count + x) a.len later) a.piece.now (a.from + x)) size
          ∙ ap (λ (x : ℕ). scan_from next (filling (a.count + x) a.len later) a.piece.now (a.from + n)) (sym all_n);
    }
