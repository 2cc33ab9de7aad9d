use mathlib.Core.Path.{◌≡◌}
use lib.ListN.{length}
use borrow.Author.Rules.{rules}
use Rattle.stream.proofs.InPlaceIsStep.{in_place_is_step}
use Rattle.comlynx.specs.Wire.{body_max}
use Rattle.comlynx.specs.Machine.{next}
use Rattle.comlynx.specs.Reader.{in_range, header, shown, together}
use Rattle.comlynx.proofs.reader.Reader.step.Goals as goal

-- the reader's own held bytes are all there
pub returns : goal.returns
returns c =
    let a = c.args in
    let full : length a.self.held ≡ body_max = search rules in
    in_place_is_step (λ r. r.held) body_max in_range next header (λ m. m.payload) shown a.self a.piece.now a.lent.now _ (together _ c.step_in_place-s.result) full c.step_in_place-s.ensures
