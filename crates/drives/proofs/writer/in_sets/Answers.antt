-- `writer::in_sets`: each character asked of its own set.
use mathlib.Core.Path.{◌≡◌, refl}
use mathlib.Core.Bool.{Bool, true, false, ◌&&◌}
use Rattle.drives.specs.Wire.{opens, is_hex, all_hex, is_letter, proper}
use Rattle.drives.proofs.writer.in_sets.Goals as goal

-- the code asks from the left, the definition from the right
from_left : (a b c d e : Bool) → (((a && b) && c) && d) && e ≡ a && (b && (c && (d && e)))
from_left true true true d e = refl
from_left true true false d e = refl
from_left true false c d e = refl
from_left false b c d e = refl

pub returns : goal.returns
unfolding proper
returns c =
    let a = c.args in
    rw (c.opens.ensures, c.is_hex.ensures, c.is_hex-2.ensures, c.is_letter.ensures, c.all_hex-rest.ensures)
    (from_left (opens a.opening) (is_hex a.first) (is_hex a.second) (is_letter a.letter) (all_hex a.payload.now))
