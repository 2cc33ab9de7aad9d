-- `reader::Reader::step`: `step_in_place` over the reader's own held bytes, which are all there.
use Rattle.std.proofs.Common.{◌≡◌, length, arith}
use Rattle.stream.proofs.InPlaceIsStep.{in_place_is_step}
use Rattle.drives.specs.Machine.{held_max, next}
use Rattle.drives.specs.Reader.{in_range, header, shown, together}
use Rattle.drives.proofs.reader.Reader.step.Goals as goal

pub returns : goal.returns
returns c =
    let a = c.args in
    let full : length a.self.held ≡ held_max = omega arith in
    in_place_is_step (λ r. r.held) held_max in_range next header (λ m. m.payload) shown a.self a.piece.now a.lent.now _ (together _ c.step_in_place-s.result) full c.step_in_place-s.ensures
