-- What one byte does, stage by stage, from plain facts.
-- Assumes nothing.
use Prim.Native.Nat.{ℕ, ◌+◌, ◌≤◌, ◌<◌}
use mathlib.Core.Path.{◌≡◌, refl}
use mathlib.Core.List.{List, [], ◌∷◌, ◌++◌}
use lib.ListN.{length, take, drop, get_or, set}
use lib.Seq.{take-suc}
use borrow.Author.Tests.{lt-ltb, le-ltb}
use native.Mathlib.Numerals.{add-one}
use native.Mathlib.Omega.{arith}
use Rattle.eversolar_words.specs.Words.{word}
use Rattle.eversolar.specs.Wire.{earlier_of}
use Rattle.numbers.specs.Lists.{total}
use Rattle.eversolar.specs.Rules.{judged}
use Rattle.eversolar.specs.Machine.{holding, looked_of, most, advance_of, on, tells, moved, next}

-- ---- looking

pub look_on : (stage t count len : ℕ) (h : List ℕ) (b : ℕ) → stage < 2 → looked_of stage b ≡ t → next (holding stage count len h) b ≡ on (holding t count len h)
unfolding next
look_on stage t count len h b lt e = rw (lt-ltb stage 2 lt, e)

-- ---- since AA 55

pub keep_more : (stage c len : ℕ) (h : List ℕ) (b : ℕ) → 2 ≤ stage → c < most stage len → next (holding stage c len h) b ≡ on (holding stage (c + 1) len (set h c b))
unfolding next advance_of moved
keep_more stage c len h b s lt = rw (le-ltb stage 2 s, lt-ltb c (most stage len) lt)

pub size_comes : (h : List ℕ) (b : ℕ) → next (holding 2 6 0 h) b ≡ on (holding 3 7 b (set h 6 b))
unfolding next advance_of moved most
size_comes h b = refl

pub body_ends : (len : ℕ) (h : List ℕ) (b : ℕ) → next (holding 3 (8 + len) len h) b ≡ tells (judged (take 6 h) len (take len (drop 7 h)) (word (get_or h (7 + len) 0) b)) h
unfolding next advance_of moved most
body_ends len h b = rw (le-ltb (8 + len) (8 + len) (omega arith))

-- ---- sums

pub total_append : (a b : List ℕ) → total (a ++ b) ≡ total a + total b
total_append [] b = omega arith
total_append (x ∷ a) b = omega (arith, total_append a b)

-- one byte more
pub total_more : (s : List ℕ) (i : ℕ) → i < length s → total (take (i + 1) s) ≡ total (take i s) + get_or s i 0
total_more s i lt = rw (add-one, take-suc s i 0 lt, total_append) (omega arith)

-- all bytes before the checksum
pub total_earlier : (six : List ℕ) (n : ℕ) (payload : List ℕ) → total (earlier_of six n payload) ≡ 255 + n + total six + total payload
total_earlier six n payload = omega (arith, total_append six (n ∷ payload))
