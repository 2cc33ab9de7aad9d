-- Bytes before an opening byte are ignored, and a frame ends with the first EOT behind it.
-- Assumes nothing.
use Prim.Native.Nat.{ℕ, suc, ◌+◌}
use mathlib.Core.Path.{◌≡◌, refl, sym, ap, ap₂, ◌∙◌}
use mathlib.Core.Bool.{true}
use mathlib.Core.Option.{Option, none, some}
use mathlib.Core.List.{List, [], ◌∷◌, ◌++◌, append-nil, append_assoc}
use lib.ListN.{length}
use borrow.Author.Tests.{ne_eqb}
use native.Mathlib.Nat.{zero-add}
use native.Mathlib.Omega.{arith}
use Rattle.stream.specs.Event.{Event}
use Rattle.stream.specs.Rule.{Settled}
use Rattle.drives.specs.Wire.{Message, eot, opens}
use Rattle.drives.specs.Rules.{judge, within, sought}
use Rattle.drives.specs.Demands.{NoOpening, NoEot, FoundAtEot}

abbrev pub found : Event Message → ℕ → Option (Settled (Event Message))
found e n = some (record { event = e; used = n })

-- ---- in a frame

pub within_characters : (w : List ℕ) → NoEot w → (at o : ℕ) (came rest : List ℕ) → within at o came (w ++ (eot ∷ rest)) ≡ found (judge o (came ++ w)) (at + length w + 1)
unfolding within
within_characters [] k at o came rest =
    let e : at + 1 ≡ at + 0 + 1 = omega arith in
    ap₂ (λ (l : List ℕ) (n : ℕ). found (judge o l) n) (sym (append-nil came)) e
within_characters (b ∷ w) k at o came rest =
    let e : at + 1 + length w + 1 ≡ at + suc (length w) + 1 = omega arith in
    rw (ne_eqb b eot k.0)
    (within_characters w k.1 (at + 1) o (came ++ (b ∷ [])) rest
    ∙ ap₂ (λ (l : List ℕ) (n : ℕ). found (judge o l) n) (append_assoc came (b ∷ []) w) e)

within_none : (w : List ℕ) → NoEot w → (at o : ℕ) (came : List ℕ) → within at o came w ≡ none
unfolding within
within_none [] k at o came = refl
within_none (b ∷ w) k at o came = rw (ne_eqb b eot k.0) (within_none w k.1 (at + 1) o (came ++ (b ∷ [])))

-- ---- before one

sought_on : (noise : List ℕ) → NoOpening noise → (at : ℕ) (rest : List ℕ) → sought at (noise ++ rest) ≡ sought (at + length noise) rest
unfolding sought
sought_on [] k at rest =
    let e : at ≡ at + 0 = omega arith in
    ap (λ (n : ℕ). sought n rest) e
sought_on (b ∷ noise) k at rest =
    let e : at + 1 + length noise ≡ at + suc (length noise) = omega arith in
    rw k.0 (sought_on noise k.1 (at + 1) rest ∙ ap (λ (n : ℕ). sought n rest) e)

from_first : (noise : List ℕ) → NoOpening noise → (rest : List ℕ) → sought 0 (noise ++ rest) ≡ sought (length noise) rest
from_first noise k rest = sought_on noise k 0 rest ∙ ap (λ (n : ℕ). sought n rest) (zero-add (length noise))

opened : (at o : ℕ) (bs : List ℕ) → opens o ≡ true → sought at (o ∷ bs) ≡ within (at + 1) o [] bs
unfolding sought
opened at o bs e = rw e

ends : (at : ℕ) → sought at [] ≡ none
unfolding sought
ends at = refl

pub found_at_eot : FoundAtEot
found_at_eot = record {
  frame = λ noise came rest o k e c.
      let n : length noise + 1 + length came + 1 ≡ length noise + (length came + 2) = omega arith in
      from_first noise k (o ∷ (came ++ (eot ∷ rest)))
      ∙ opened (length noise) o (came ++ (eot ∷ rest)) e
      ∙ within_characters came c (length noise + 1) o [] rest
      ∙ ap (found (judge o came)) n;
  unfinished = λ noise came o k e c. from_first noise k (o ∷ came) ∙ opened (length noise) o came e ∙ within_none came c (length noise + 1) o [];
  nothing = λ noise k. ap (sought 0) (sym (append-nil noise)) ∙ from_first noise k [] ∙ ends (length noise);
}
