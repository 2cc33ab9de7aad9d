-- Laws of tests, whatever is tested.
-- Assumes nothing.
use mathlib.Core.Path.{◌≡◌, refl}
use mathlib.Core.Bool.{Bool, true, false, cond, ◌&&◌, ◌||◌}
use Rattle.numbers.proofs.Alike.{zero_is_one}

-- where both hold, each does
pub both : (a b : Bool) → (a && b) ≡ true → (a ≡ true) × (b ≡ true)
both true b e = (refl, e)
both false b e = zero_is_one cc

-- where one of two holds, whatever follows from each follows
pub either : {A : Type 0} (a b : Bool) → (a || b) ≡ true → (a ≡ true → A) → (b ≡ true → A) → A
either true b e f g = f refl
either false b e f g = g e

-- what holds of each way holds of the one that a test takes
pub by_test {ℓ} : {X : Type ℓ} (P : X → Type 0) (t : Bool) {x y : X} → (t ≡ true → P x) → (t ≡ false → P y) → P (cond t x y)
by_test P true f g = f refl
by_test P false f g = g refl
