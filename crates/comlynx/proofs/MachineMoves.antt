-- What one byte does, stage by stage, from plain facts.
-- Assumes nothing.
use Prim.Native.Nat.{ℕ, ◌+◌, ◌≤◌, ◌<◌}
use mathlib.Core.Path.{◌≡◌, refl}
use mathlib.Core.List.{List}
use lib.ListN.{set}
use borrow.Author.Tests.{lt-ltb, le-ltb, ne_eqb}
use Rattle.stream.specs.Event.{damage}
use Rattle.comlynx.specs.Wire.{flag, escape, body_max, flag_pair, escape_pair}
use Rattle.comlynx.specs.Machine.{too_many, waiting, inside, escaped, broken, keep_of, advance_of, on, tells, closed, more, moved, next}

-- ---- a flag

pub flag_first : (h : List ℕ) → next (waiting h) flag ≡ on (inside 0 0 h)
unfolding next advance_of moved
flag_first h = refl

pub flag_empty : (k : ℕ) (h : List ℕ) → next (inside k 0 h) flag ≡ on (inside 0 0 h)
unfolding next advance_of moved
flag_empty k h = refl

pub flag_closes : (k c : ℕ) (h : List ℕ) → (c ≡ 0 → ⊥) → next (inside k c h) flag ≡ tells (closed k c h) h
unfolding next advance_of moved
flag_closes k c h n = rw (ne_eqb c 0 n)

pub flag_after_escape : (k c : ℕ) (h : List ℕ) → next (escaped k c h) flag ≡ tells (damage 2 k) h
unfolding next advance_of moved
flag_after_escape k c h = refl

pub flag_breaks : (k c : ℕ) (h : List ℕ) → next (broken k c h) flag ≡ tells (damage 2 k) h
unfolding next advance_of moved
flag_breaks k c h = refl

-- ---- another byte

pub waits : (h : List ℕ) (b : ℕ) → (b ≡ flag → ⊥) → next (waiting h) b ≡ on (waiting h)
unfolding next advance_of moved
waits h b n = rw (ne_eqb b flag n)

pub marks : (k c : ℕ) (h : List ℕ) → next (inside k c h) escape ≡ on (escaped (more k 1) c h)
unfolding next advance_of moved
marks k c h = refl

pub keeps : (k c : ℕ) (h : List ℕ) (b : ℕ) → (b ≡ flag → ⊥) → (b ≡ escape → ⊥) → c < body_max → next (inside k c h) b ≡ on (inside (more k 1) (c + 1) (set h c b))
unfolding next advance_of keep_of moved
keeps k c h b n m lt = rw (ne_eqb b flag n, ne_eqb b escape m, lt-ltb c body_max lt)

pub overflows : (k c : ℕ) (h : List ℕ) (b : ℕ) → (b ≡ flag → ⊥) → (b ≡ escape → ⊥) → body_max ≤ c → next (inside k c h) b ≡ on (inside (more k 1) too_many h)
unfolding next advance_of keep_of moved
overflows k c h b n m le = rw (ne_eqb b flag n, ne_eqb b escape m, le-ltb c body_max le)

pub pair_flag : (k c : ℕ) (h : List ℕ) → c < body_max → next (escaped k c h) flag_pair ≡ on (inside (more k 1) (c + 1) (set h c flag))
unfolding next advance_of keep_of moved
pair_flag k c h lt = rw (lt-ltb c body_max lt)

pub pair_flag_over : (k c : ℕ) (h : List ℕ) → body_max ≤ c → next (escaped k c h) flag_pair ≡ on (inside (more k 1) too_many h)
unfolding next advance_of keep_of moved
pair_flag_over k c h le = rw (le-ltb c body_max le)

pub pair_escape : (k c : ℕ) (h : List ℕ) → c < body_max → next (escaped k c h) escape_pair ≡ on (inside (more k 1) (c + 1) (set h c escape))
unfolding next advance_of keep_of moved
pair_escape k c h lt = rw (lt-ltb c body_max lt)

pub pair_escape_over : (k c : ℕ) (h : List ℕ) → body_max ≤ c → next (escaped k c h) escape_pair ≡ on (inside (more k 1) too_many h)
unfolding next advance_of keep_of moved
pair_escape_over k c h le = rw (le-ltb c body_max le)

pub spoils : (k c : ℕ) (h : List ℕ) (b : ℕ) → (b ≡ flag → ⊥) → (b ≡ flag_pair → ⊥) → (b ≡ escape_pair → ⊥) → next (escaped k c h) b ≡ on (broken (more k 1) c h)
unfolding next advance_of moved
spoils k c h b n m l = rw (ne_eqb b flag n, ne_eqb b flag_pair m, ne_eqb b escape_pair l)

pub stays_broken : (k c : ℕ) (h : List ℕ) (b : ℕ) → (b ≡ flag → ⊥) → next (broken k c h) b ≡ on (broken (more k 1) c h)
unfolding next advance_of moved
stays_broken k c h b n = rw (ne_eqb b flag n)
