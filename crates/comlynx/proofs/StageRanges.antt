-- The range of each stage, and what is known where a state is asked something.
-- Assumes nothing.
use Prim.Native.Nat.{ℕ, ◌+◌, ◌≤◌, ◌<◌}
use mathlib.Core.Path.{◌≡◌, refl}
use mathlib.Core.Bool.{Bool, true, false, cond, ◌&&◌}
use lib.Dec.{eqb, ltb, leb}
use borrow.Author.Tests.{le-leb, eq-eqb, ne_eqb, ltb-true, leb-true, eqb-true, eqb-false}
use native.Mathlib.Omega.{arith}
use Rattle.numbers.proofs.Alike.{zero_is_one}
use Rattle.numbers.proofs.TestLaws.{both}
use Rattle.comlynx.specs.Wire.{flag, escape, body_max, flag_pair, escape_pair}
use Rattle.comlynx.specs.Rules.{lost_max}
use Rattle.comlynx.specs.Machine as Machine
use Rattle.comlynx.specs.Machine.{too_many, more, keep_of, advance_of}
use Rattle.comlynx.specs.declared.reader.Move.{Move}
use Rattle.comlynx.specs.declared.reader.Move.TheVariants.{Skip, Open, Mark, Spoil, Keep, Over, Close, Fail}

pub data Range (stage came count : ℕ) : Type 0 where
  outside : stage ≡ 0 → came ≡ 0 → count ≡ 0 → Range stage came count
  within : 0 < stage → stage ≤ 3 → came ≤ lost_max → count ≤ too_many → Range stage came count

pub false_true : {A : Type 0} → false ≡ true → A
false_true e = zero_is_one cc

eqb_zero : (n : ℕ) → eqb n 0 ≡ false → 0 < n
eqb_zero n e = omega (arith, eqb-false n 0 e)

pub range_of : (stage came count : ℕ) → Machine.in_range stage came count ≡ true → Range stage came count
unfolding Machine.in_range
range_of stage came count e = go (eqb stage 0) (leb stage 3) refl refl e
  where
    go : (a b : Bool) → eqb stage 0 ≡ a → leb stage 3 ≡ b → cond a (eqb came 0 && eqb count 0) (cond b (leb came lost_max && leb count too_many) false) ≡ true
        → Range stage came count
    go true b p q h = let t = both (eqb came 0) (eqb count 0) h in outside (eqb-true stage 0 p) (eqb-true came 0 t.0) (eqb-true count 0 t.1)
    go false true p q h =
        let t = both (leb came lost_max) (leb count too_many) h in
        within (eqb_zero stage p) (leb-true stage 3 q) (leb-true came lost_max t.0) (leb-true count too_many t.1)
    go false false p q h = false_true h

pub in_range_lem : (stage came count : ℕ) → Range stage came count → Machine.in_range stage came count ≡ true
unfolding Machine.in_range
in_range_lem stage came count (outside p q r) = rw (eq-eqb stage 0 p, eq-eqb came 0 q, eq-eqb count 0 r)
in_range_lem stage came count (within p q r s) = rw (ne_eqb stage 0 (λ e. omega arith), le-leb stage 3 q, le-leb came lost_max r, le-leb count too_many s)

pub range_count : (stage came count : ℕ) → Range stage came count → count ≤ too_many
range_count stage came count (outside p q r) = omega arith
range_count stage came count (within p q r s) = s

-- ---- the bytes that have come

pub more_most : (came n : ℕ) → more came n ≤ lost_max
more_most came n = omega arith

pub more_more : (came m n : ℕ) → more (more came m) n ≡ more came (m + n)
more_more came m n = omega arith

-- ---- what is asked

-- what is known where a state is asked this: a byte is kept only where there is room
abbrev pub Asked : ℕ → Move → Type 0
Asked count Skip = Unit {0}
Asked count Open = Unit {0}
Asked count Mark = Unit {0}
Asked count Spoil = Unit {0}
Asked count (Keep v) = count < body_max
Asked count Over = Unit {0}
Asked count Close = Unit {0}
Asked count Fail = Unit {0}

by_cond : (n : ℕ) (t : Bool) (a b : Move) → Asked n a → Asked n b → Asked n (cond t a b)
by_cond n true a b p q = p
by_cond n false a b p q = q

keep_asked : (n v : ℕ) → Asked n (keep_of n v)
unfolding keep_of
keep_asked n v = go (ltb n body_max) refl
  where
    go : (t : Bool) → ltb n body_max ≡ t → Asked n (cond t (Keep v) Over)
    go true e = ltb-true n body_max e
    go false e = tt

pub asked : (stage n b : ℕ) → Asked n (advance_of stage n b)
unfolding advance_of
asked stage n b =
    by_cond n (eqb stage 0) _ _ (by_cond n (eqb b flag) Open Skip tt tt)
    (by_cond n (eqb stage 1) _ _
    (by_cond n (eqb b flag) _ _ (by_cond n (eqb n 0) Open Close tt tt) (by_cond n (eqb b escape) Mark _ tt (keep_asked n b)))
    (by_cond n (eqb stage 2) _ _
    (by_cond n (eqb b flag) Fail _ tt (by_cond n (eqb b flag_pair) _ _ (keep_asked n flag) (by_cond n (eqb b escape_pair) _ Spoil (keep_asked n escape) tt)))
    (by_cond n (eqb b flag) Fail Spoil tt tt)))
