-- The range of each stage, and what is known where a state in range is asked something.
-- Assumes nothing.
use Prim.Native.Nat.{ℕ, ◌≤◌, ◌<◌}
use mathlib.Core.Path.{◌≡◌, refl}
use mathlib.Core.Bool.{Bool, true, false, cond}
use lib.Dec.{eqb, ltb, leb}
use borrow.Author.Tests.{eq-eqb, ne_eqb, le-leb, ltb-true, ltb-false, leb-true, eqb-true, eqb-false}
use native.Mathlib.Omega.{arith}
use Rattle.numbers.proofs.Alike.{zero_is_one}
use Rattle.drives.specs.Wire.{eot, opens}
use Rattle.drives.specs.Machine as Machine
use Rattle.drives.specs.Machine.{held_max, count_max, advance_of}
use Rattle.drives.specs.declared.reader.Move.{Move}
use Rattle.drives.specs.declared.reader.Move.TheVariants.{Skip, Open, Keep, Over, Close}
use Rattle.drives.proofs.CharacterSets.{opens_range}

pub data Range (stage count : ℕ) : Type 0 where
  looks : stage ≡ 0 → count ≡ 0 → Range stage count
  reads : opens stage ≡ true → count ≤ count_max → Range stage count

pub range_of : (stage count : ℕ) → Machine.in_range stage count ≡ true → Range stage count
unfolding Machine.in_range
range_of stage count e = go (eqb stage 0) (opens stage) refl refl e
  where
    go : (a b : Bool) → eqb stage 0 ≡ a → opens stage ≡ b → cond a (eqb count 0) (cond b (leb count count_max) false) ≡ true → Range stage count
    go true b p q h = looks (eqb-true stage 0 p) (eqb-true count 0 h)
    go false true p q h = reads q (leb-true count count_max h)
    go false false p q h = zero_is_one cc

-- an opening byte is not the stage in which one is looked for
pub not_looking : (stage : ℕ) → opens stage ≡ true → stage ≡ 0 → ⊥
not_looking stage e z = omega (arith, opens_range stage e)

pub in_range_lem : (stage count : ℕ) → Range stage count → Machine.in_range stage count ≡ true
unfolding Machine.in_range
in_range_lem stage count (looks p q) = rw (eq-eqb stage 0 p, eq-eqb count 0 q)
in_range_lem stage count (reads p q) = rw (ne_eqb stage 0 (not_looking stage p), p, le-leb count count_max q)

-- what is known where a state in range is asked this by a byte b
abbrev pub Asked : (stage count b : ℕ) → Move → Type 0
Asked stage count b Skip = (stage ≡ 0) × (count ≡ 0) × (opens b ≡ false)
Asked stage count b Open = (stage ≡ 0) × (count ≡ 0) × (opens b ≡ true)
Asked stage count b Keep = (opens stage ≡ true) × (b ≡ eot → ⊥) × (count < held_max)
Asked stage count b Over = (opens stage ≡ true) × (b ≡ eot → ⊥) × (held_max ≤ count) × (count ≤ count_max)
Asked stage count b Close = (opens stage ≡ true) × (b ≡ eot) × (count ≤ count_max)

pub asked : (stage count b : ℕ) → Range stage count → Asked stage count b (advance_of stage count b)
unfolding advance_of
asked stage count b (looks p q) = rw (eq-eqb stage 0 p) (go (opens b) refl)
  where
    go : (t : Bool) → opens b ≡ t → Asked stage count b (cond t Open Skip)
    go true e = (p, q, e)
    go false e = (p, q, e)
asked stage count b (reads p q) = rw (ne_eqb stage 0 (not_looking stage p)) (go (eqb b eot) (ltb count held_max) refl refl)
  where
    go : (t u : Bool) → eqb b eot ≡ t → ltb count held_max ≡ u → Asked stage count b (cond t Close (cond u Keep Over))
    go true u e f = (p, eqb-true b eot e, q)
    go false true e f = (p, eqb-false b eot e, ltb-true count held_max f)
    go false false e f = (p, eqb-false b eot e, ltb-false count held_max f, q)
