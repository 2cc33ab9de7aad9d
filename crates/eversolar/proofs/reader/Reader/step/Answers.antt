-- the reader's own held bytes are all there
use mathlib.Core.Path.{◌≡◌}
use lib.ListN.{length}
use native.Mathlib.Omega.{arith}
use Rattle.stream.proofs.InPlaceIsStep.{in_place_is_step}
use Rattle.eversolar.specs.Machine.{held_max, next}
use Rattle.eversolar.specs.Reader.{in_range, header, shown, together}
use Rattle.eversolar.specs.declared.reader.Reader.{Reader}
use Rattle.eversolar.proofs.reader.Reader.step.Goals as goal

pub returns : goal.returns
returns c =
    let a = c.args in
    let full : length a.self.held ≡ held_max = omega arith in
    in_place_is_step (λ (s : Reader). s.held) held_max in_range next header (λ m. m.payload) shown a.self a.piece.now a.lent.now _ (together c.step_in_place-s.new.held c.step_in_place-s.result) full c.step_in_place-s.ensures
