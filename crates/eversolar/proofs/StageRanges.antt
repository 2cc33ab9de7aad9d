-- The range of each stage, and what is known where a state in range is asked something.
-- Assumes nothing.
use Prim.Native.Nat.{ℕ, ◌+◌, ◌≤◌, ◌<◌}
use mathlib.Core.Path.{◌≡◌, refl, ap, ◌∙◌}
use mathlib.Core.Bool.{Bool, true, false, cond}
use lib.Dec.{eqb, ltb, leb}
use borrow.Author.Tests.{lt-ltb, le-ltb, eq-eqb, ne_eqb, le-leb, ltb-true, ltb-false, leb-true, eqb-true}
use native.Mathlib.Omega.{arith}
use Rattle.numbers.proofs.Alike.{zero_is_one}
use Rattle.eversolar.specs.Wire.{payload_max}
use Rattle.eversolar.specs.Machine as Machine
use Rattle.eversolar.specs.Machine.{held_max, most, advance_of}
use Rattle.eversolar.specs.declared.reader.Move.{Move}
use Rattle.eversolar.specs.declared.reader.Move.TheVariants.{Keep, Size, Close}

pub data Range (stage count len : ℕ) : Type 0 where
  look : stage < 2 → count ≡ 0 → len ≡ 0 → Range stage count len
  lead : stage ≡ 2 → count ≤ 6 → len ≡ 0 → Range stage count len
  body : stage ≡ 3 → len ≤ payload_max → 7 ≤ count → count ≤ 8 + len → Range stage count len

false_true : {A : Type 0} → false ≡ true → A
false_true e = zero_is_one cc

pub range_of : (stage count len : ℕ) → Machine.in_range stage count len ≡ true → Range stage count len
unfolding Machine.in_range
range_of stage count len e = go (ltb stage 2) (eqb count 0) (eqb stage 2) (leb count 6) (eqb stage 3) (leb len payload_max) (leb 7 count) refl refl refl refl refl refl refl e
  where
    go : (a b c d f g h : Bool) → ltb stage 2 ≡ a → eqb count 0 ≡ b → eqb stage 2 ≡ c → leb count 6 ≡ d → eqb stage 3 ≡ f → leb len payload_max ≡ g → leb 7 count ≡ h
        → cond a (cond b (eqb len 0) false) (cond c (cond d (eqb len 0) false) (cond f (cond g (cond h (leb count (8 + len)) false) false) false)) ≡ true
        → Range stage count len
    go true true c d f g h p q r s t u v z = look (ltb-true stage 2 p) (eqb-true count 0 q) (eqb-true len 0 z)
    go true false c d f g h p q r s t u v z = false_true z
    go false b true true f g h p q r s t u v z = lead (eqb-true stage 2 r) (leb-true count 6 s) (eqb-true len 0 z)
    go false b true false f g h p q r s t u v z = false_true z
    go false b false d true true true p q r s t u v z = body (eqb-true stage 3 t) (leb-true len payload_max u) (leb-true 7 count v) (leb-true count (8 + len) z)
    go false b false d true true false p q r s t u v z = false_true z
    go false b false d true false h p q r s t u v z = false_true z
    go false b false d false g h p q r s t u v z = false_true z

pub in_range_lem : (stage count len : ℕ) → Range stage count len → Machine.in_range stage count len ≡ true
unfolding Machine.in_range
in_range_lem stage count len (look p q r) = rw (lt-ltb stage 2 p, eq-eqb count 0 q, eq-eqb len 0 r)
in_range_lem stage count len (lead p q r) = rw (le-ltb stage 2 (omega arith), eq-eqb stage 2 p, le-leb count 6 q, eq-eqb len 0 r)
in_range_lem stage count len (body p q r s) =
    rw (le-ltb stage 2 (omega arith), ne_eqb stage 2 (λ e. omega arith), eq-eqb stage 3 p, le-leb len payload_max q, le-leb 7 count r, le-leb count (8 + len) s)

pub range_len : (stage count len : ℕ) → Range stage count len → len ≤ payload_max
range_len stage count len (look p q r) = omega arith
range_len stage count len (lead p q r) = omega arith
range_len stage count len (body p q r s) = q

pub range_idle : (stage count len : ℕ) → Range stage count len → stage < 2 → (count ≡ 0) × (len ≡ 0)
range_idle stage count len (look p q r) h = (q, r)
range_idle stage count len (lead p q r) h = absurd (omega arith)
range_idle stage count len (body p q r s) h = absurd (omega arith)

-- ---- what is known where a state in range is asked this since AA 55

pub most_lead : (len : ℕ) → most 2 len ≡ 6
unfolding most
most_lead len = refl

pub most_body : (len : ℕ) → most 3 len ≡ 8 + len
unfolding most
most_body len = refl

-- more bytes kept
pub keeps_range : (stage count len n : ℕ) → 2 ≤ stage → Range stage count len → count ≤ n → n ≤ most stage len → Range stage n len
unfolding most
keeps_range stage count len n s (look p q r) le room = absurd (omega arith)
keeps_range stage count len n s (lead p q r) le room = lead p (rw p at room) r
keeps_range stage count len n s (body p q r t) le room = body p q (omega arith) (rw p at room)

abbrev pub Asked : ℕ → ℕ → ℕ → Move → Type 0
Asked stage count len Keep = count < most stage len
Asked stage count len Size = (stage ≡ 2) × (count ≡ 6) × (len ≡ 0)
Asked stage count len Close = (stage ≡ 3) × (count ≡ 8 + len)

pub asked : (stage count len : ℕ) → 2 ≤ stage → Range stage count len → Asked stage count len (advance_of stage count len)
unfolding advance_of
asked stage count len s (look p q r) = absurd (omega arith)
asked stage count len s (lead p q r) = rw (eq-eqb stage 2 p) (go (ltb count (most stage len)) refl)
  where
    limit : most stage len ≡ 6
    limit = ap (λ (k : ℕ). most k len) p ∙ most_lead len

    go : (t : Bool) → ltb count (most stage len) ≡ t → Asked stage count len (cond t Keep Size)
    go true e = ltb-true count (most stage len) e
    go false e = (p, omega (arith, limit, ltb-false count (most stage len) e), r)
asked stage count len s (body p q r t) = rw (ne_eqb stage 2 (λ e. omega arith)) (go (ltb count (most stage len)) refl)
  where
    limit : most stage len ≡ 8 + len
    limit = ap (λ (k : ℕ). most k len) p ∙ most_body len

    go : (u : Bool) → ltb count (most stage len) ≡ u → Asked stage count len (cond u Keep Close)
    go true e = ltb-true count (most stage len) e
    go false e = (p, omega (arith, limit, ltb-false count (most stage len) e))
