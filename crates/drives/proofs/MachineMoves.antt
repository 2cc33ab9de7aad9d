-- What one byte does, stage by stage, from plain facts.
-- Assumes nothing.
use Prim.Native.Nat.{ℕ, min, ◌+◌, ◌≤◌, ◌<◌}
use mathlib.Core.Path.{◌≡◌}
use mathlib.Core.Bool.{true, false}
use mathlib.Core.List.{List}
use lib.ListN.{set}
use borrow.Author.Tests.{lt-ltb, le-ltb, ne_eqb}
use Rattle.drives.specs.Wire.{eot, opens}
use Rattle.drives.specs.Machine.{held_max, count_max, looking, inside, advance_of, on, tells, closed, moved, next}

-- ---- where no frame is open

pub look_opens : (h : List ℕ) (b : ℕ) → opens b ≡ true → next (looking h) b ≡ on (inside b 0 h)
unfolding next advance_of moved
look_opens h b e = rw e

pub look_skips : (h : List ℕ) (b : ℕ) → opens b ≡ false → next (looking h) b ≡ on (looking h)
unfolding next advance_of moved
look_skips h b e = rw e

-- ---- in a frame

module _ (o : ℕ) (opened : o ≡ 0 → ⊥) where
  pub closes : (c : ℕ) (h : List ℕ) → next (inside o c h) eot ≡ tells (closed o c h) h
  unfolding next advance_of moved
  closes c h = rw (ne_eqb o 0 opened)

  pub keeps : (c : ℕ) (h : List ℕ) (b : ℕ) → (b ≡ eot → ⊥) → c < held_max → next (inside o c h) b ≡ on (inside o (c + 1) (set h c b))
  unfolding next advance_of moved
  keeps c h b n lt = rw (ne_eqb o 0 opened, ne_eqb b eot n, lt-ltb c held_max lt)

  pub overflows : (c : ℕ) (h : List ℕ) (b : ℕ) → (b ≡ eot → ⊥) → held_max ≤ c → next (inside o c h) b ≡ on (inside o (min (c + 1) count_max) h)
  unfolding next advance_of moved
  overflows c h b n le = rw (ne_eqb o 0 opened, ne_eqb b eot n, le-ltb c held_max le)
