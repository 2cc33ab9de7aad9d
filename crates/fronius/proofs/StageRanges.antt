-- The range of each stage, and what is known where a state in range is asked something.
-- Assumes nothing.
use Prim.Native.Nat.{ℕ, ◌+◌, ◌≤◌, ◌<◌}
use mathlib.Core.Path.{◌≡◌, refl}
use mathlib.Core.Bool.{Bool, true, false, cond}
use lib.Dec.{eqb, ltb, leb}
use borrow.Author.Tests.{eq-eqb, ne_eqb, le-leb, ltb-true, ltb-false, leb-true, eqb-true}
use native.Mathlib.Omega.{arith}
use Rattle.numbers.proofs.Alike.{zero_is_one}
use Rattle.fronius.specs.Wire.{mark}
use Rattle.fronius.specs.Machine as Machine
use Rattle.fronius.specs.Machine.{advance_of}
use Rattle.fronius.specs.declared.reader.Move.{Move}
use Rattle.fronius.specs.declared.reader.Move.TheVariants.{Count, Open, Keep, Close, Bad}

pub data Range (stage count len : ℕ) : Type 0 where
  start : stage ≡ 0 → count ≤ 3 → len ≡ 0 → Range stage count len
  body : stage ≡ 1 → len ≤ 127 → count ≤ 3 + len → Range stage count len

pub false_true : {A : Type 0} → false ≡ true → A
false_true e = zero_is_one cc

pub range_of : (stage count len : ℕ) → Machine.in_range stage count len ≡ true → Range stage count len
unfolding Machine.in_range
range_of stage count len e = go (eqb stage 0) (leb count 3) (eqb stage 1) (leb len 127) refl refl refl refl e
  where
    go : (a b c d : Bool) → eqb stage 0 ≡ a → leb count 3 ≡ b → eqb stage 1 ≡ c → leb len 127 ≡ d
        → cond a (cond b (eqb len 0) false) (cond c (cond d (leb count (3 + len)) false) false) ≡ true → Range stage count len
    go true true c d p q r s h = start (eqb-true stage 0 p) (leb-true count 3 q) (eqb-true len 0 h)
    go true false c d p q r s h = false_true h
    go false b true true p q r s h = body (eqb-true stage 1 r) (leb-true len 127 s) (leb-true count (3 + len) h)
    go false b true false p q r s h = false_true h
    go false b false d p q r s h = false_true h

pub in_range_lem : (stage count len : ℕ) → Range stage count len → Machine.in_range stage count len ≡ true
unfolding Machine.in_range
in_range_lem stage count len (start p q r) = rw (eq-eqb stage 0 p, le-leb count 3 q, eq-eqb len 0 r)
in_range_lem stage count len (body p q r) = rw (ne_eqb stage 0 (λ e. omega arith), eq-eqb stage 1 p, le-leb len 127 q, le-leb count (3 + len) r)

pub range_len : (stage count len : ℕ) → Range stage count len → len ≤ 127
range_len stage count len (start p q r) = omega arith
range_len stage count len (body p q r) = q

-- what is known where a state in range is asked this
abbrev pub Asked : ℕ → ℕ → ℕ → Move → Type 0
Asked stage count len (Count n) = (stage ≡ 0) × (n ≤ 3) × (len ≡ 0)
Asked stage count len (Open n) = n ≤ 127
Asked stage count len Keep = (stage ≡ 1) × (len ≤ 127) × (count < 3 + len)
Asked stage count len Close = (stage ≡ 1) × (len ≤ 127) × (3 + len ≤ count)
Asked stage count len Bad = Unit {0}

pub asked : (stage count len b : ℕ) → Range stage count len → Asked stage count len (advance_of stage count len b)
unfolding advance_of
asked stage count len b (start p q r) = rw (eq-eqb stage 0 p) (go (ltb count 3) (eqb b mark) (ltb b mark) refl refl)
  where
    go : (t u v : Bool) → ltb count 3 ≡ t → ltb b mark ≡ v
        → Asked stage count len (cond t (cond u (Count (count + 1)) (Count 0)) (cond u (Count 3) (cond v (Open b) Bad)))
    go true true v e f = (p, omega (arith, ltb-true count 3 e), r)
    go true false v e f = (p, omega arith, r)
    go false true v e f = (p, omega arith, r)
    go false false true e f = omega (arith, ltb-true b mark f)
    go false false false e f = tt
asked stage count len b (body p q r) = rw (ne_eqb stage 0 (λ e. omega arith)) (go (ltb count (3 + len)) refl)
  where
    go : (t : Bool) → ltb count (3 + len) ≡ t → Asked stage count len (cond t Keep Close)
    go true e = (p, q, ltb-true count (3 + len) e)
    go false e = (p, q, ltb-false count (3 + len) e)
