-- Where a search over bytes ends, and what it has passed.
-- Assumes nothing.
use Rattle.std.specs.Prelude.{Option as Maybe, None, Some, ◌==◌}
use Rattle.std.specs.List.{position, position_or_len}
use Rattle.std.proofs.lemmas.List.Quantifiers.{position-Some}
use Rattle.std.proofs.lemmas.Option.{cond_some}
use Prim.Native.Nat.{ℕ, suc, ◌+◌, ◌≤◌, ◌<◌}
use mathlib.Core.Path.{◌≡◌, refl, sym, subst}
use mathlib.Core.Bool.{Bool, true, false, cond, not}
use mathlib.Core.List.{List, [], ◌∷◌}
use lib.ListN.{length, take, get_or}
use lib.Dec.{eqb, ltb}
use borrow.Author.Tests.{eqb-false, ltb-false}
use native.Mathlib.Omega.{arith}
use Rattle.numbers.proofs.Alike.{zero_is_one}
use Rattle.drives.specs.Wire.{eot, opens}
use Rattle.drives.specs.Demands.{NoOpening, NoEot}

-- at the first byte that passes, or behind all

pub some_at : (p : ℕ → Bool) (bs : List ℕ) (n : ℕ) → position p bs ≡ Some n → (n ≡ position_or_len p bs) × (n < length bs) × (p (get_or bs n 0) ≡ true)
some_at p bs n e =
    let at = position-Some p bs n 0 e in
    let is = cond_some (ltb (position_or_len p bs) (length bs)) (position_or_len p bs) n e in
    (sym is.1, at.0, at.1)

pub none_at : (p : ℕ → Bool) (bs : List ℕ) → position p bs ≡ None → length bs ≤ position_or_len p bs
none_at p bs e = go (ltb (position_or_len p bs) (length bs)) refl e
  where
    go : (t : Bool) → ltb (position_or_len p bs) (length bs) ≡ t → ◌≡◌ {A = Maybe ℕ} (cond t (Some (position_or_len p bs)) None) None → length bs ≤ position_or_len p bs
    go true f g = zero_is_one cc
    go false f g = ltb-false (position_or_len p bs) (length bs) f

-- what was passed holds none
abbrev pub is_eot : ℕ → Bool
is_eot b = b == eot

pub no_opening : (bs : List ℕ) → NoOpening (take (position_or_len opens bs) bs)
no_opening [] = tt
no_opening (b ∷ bs) = go (opens b) refl (no_opening bs)
  where
    go : (t : Bool) → opens b ≡ t → NoOpening (take (position_or_len opens bs) bs) → NoOpening (take (cond (not t) (1 + position_or_len opens bs) 0) (b ∷ bs))
    go true e ih = tt
    go false e ih =
        let one : suc (position_or_len opens bs) ≡ 1 + position_or_len opens bs = omega arith in
        subst (λ (k : ℕ). NoOpening (take k (b ∷ bs))) one (e, ih)

pub no_eot : (bs : List ℕ) → NoEot (take (position_or_len is_eot bs) bs)
no_eot [] = tt
no_eot (b ∷ bs) = go (eqb b eot) refl (no_eot bs)
  where
    go : (t : Bool) → eqb b eot ≡ t → NoEot (take (position_or_len is_eot bs) bs) → NoEot (take (cond (not t) (1 + position_or_len is_eot bs) 0) (b ∷ bs))
    go true e ih = tt
    go false e ih =
        let one : suc (position_or_len is_eot bs) ≡ 1 + position_or_len is_eot bs = omega arith in
        subst (λ (k : ℕ). NoEot (take k (b ∷ bs))) one (eqb-false b eot e, ih)
