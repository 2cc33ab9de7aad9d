-- What one byte does, stage by stage, from plain facts.
-- Assumes nothing.
use Prim.Native.Nat.{ℕ, ◌+◌, ◌≤◌, ◌<◌}
use mathlib.Core.Path.{◌≡◌, refl}
use mathlib.Core.List.{List, [], ◌∷◌, ◌++◌}
use lib.ListN.{length, take, get_or, set}
use lib.Seq.{take-suc}
use borrow.Author.Tests.{lt-ltb, le-ltb, ne_eqb}
use native.Mathlib.Numerals.{add-one}
use native.Mathlib.Omega.{arith}
use Rattle.stream.specs.Event.{damage}
use Rattle.fronius.specs.Wire.{mark}
use Rattle.numbers.specs.Lists.{total}
use Rattle.fronius.specs.Rules.{judged}
use Rattle.fronius.specs.Machine.{counting, filling, advance_of, on, tells, moved, next}

-- ---- at the start

pub count_more : (c : ℕ) (h : List ℕ) → c < 3 → next (counting c h) mark ≡ on (counting (c + 1) h)
unfolding next advance_of moved
count_more c h lt = rw (lt-ltb c 3 lt)

pub count_none : (c : ℕ) (h : List ℕ) (b : ℕ) → c < 3 → (b ≡ mark → ⊥) → next (counting c h) b ≡ on (counting 0 h)
unfolding next advance_of moved
count_none c h b lt n = rw (lt-ltb c 3 lt, ne_eqb b mark n)

pub size_mark : (h : List ℕ) → next (counting 3 h) mark ≡ on (counting 3 h)
unfolding next advance_of moved
size_mark h = refl

pub size_opens : (h : List ℕ) (b : ℕ) → b < mark → next (counting 3 h) b ≡ on (filling 0 b h)
unfolding next advance_of moved
size_opens h b lt = rw (ne_eqb b mark (λ e. omega arith), lt-ltb b mark lt)

pub size_bad : (h : List ℕ) (b : ℕ) → mark < b → next (counting 3 h) b ≡ tells (damage 7 4) h
unfolding next advance_of moved
size_bad h b lt = rw (ne_eqb b mark (λ e. omega arith), le-ltb b mark (omega arith))

-- ---- in the body

pub fill_more : (c len : ℕ) (h : List ℕ) (b : ℕ) → c < 3 + len → next (filling c len h) b ≡ on (filling (c + 1) len (set h c b))
unfolding next advance_of moved
fill_more c len h b lt = rw (lt-ltb c (3 + len) lt)

pub fill_ends : (c len : ℕ) (h : List ℕ) (b : ℕ) → 3 + len ≤ c → next (filling c len h) b ≡ tells (judged len (take (3 + len) h) b) h
unfolding next advance_of moved
fill_ends c len h b le = rw (le-ltb c (3 + len) le)

-- ---- one more byte of a sum

total_append : (a b : List ℕ) → total (a ++ b) ≡ total a + total b
total_append [] b = omega arith
total_append (x ∷ a) b = omega (arith, total_append a b)

pub total_more : (s : List ℕ) (i : ℕ) → i < length s → total (take (i + 1) s) ≡ total (take i s) + get_or s i 0
total_more s i lt = rw (add-one, take-suc s i 0 lt, total_append) (omega arith)
