-- `reader::Reader::step`: `step_in_place` over the reader's own held bytes, which are all there.
use Rattle.std.proofs.Common.{◌≡◌, length, arith}
use Rattle.stream.proofs.InPlaceIsStep.{in_place_is_step}
use Rattle.fronius.specs.Machine.{held_max, next}
use Rattle.fronius.specs.Reader.{in_range, header, shown, together}
use Rattle.fronius.proofs.reader.Reader.step.Goals as goal

pub returns : goal.returns
returns c =
    let full : length c.args.self.held ≡ held_max = omega arith in
    let a = c.args in
    in_place_is_step (λ r. r.held) held_max in_range next header (λ m. m.payload) shown a.self a.piece.now a.lent.now _ (together _ c.step_in_place-s.result) full c.step_in_place-s.ensures
