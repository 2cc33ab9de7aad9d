-- For each public call: two results, and two later contents of the roster, that its promise allows are one.
-- Assumes nothing.
use Prim.Native.Nat.{ℕ, zero, suc}
use mathlib.Core.Path.{◌≡◌, refl, sym, ap, ◌∙◌}
use mathlib.Core.List.{List, [], ◌∷◌}
use native.Mathlib.Omega.{arith}
use lib.ListN.{get_or}
use Rattle.numbers.proofs.Alike.{alike_by_back}
use Rattle.answers.proofs.NumbersHaveCases.{heard, heard_refused}
use Rattle.std.specs.Prelude.{Some, None, Ok, Err}
use Rattle.roster.specs.Calls.{Given, Removed, Found, told_given, told_removed, told_found, AddressNotZero, IsGiven, IsRemoved, IsFound}

-- ---- told alike is one: by the way back

pub given_alike : (a b : Given) → told_given a ≡ told_given b → a ≡ b
given_alike = alike_by_back told_given (heard done Err) there
  where
    done : List ℕ → Given
    done others = Ok (get_or others 0 0)

    there : (a : Given) → heard done Err (told_given a) ≡ a
    there (Ok address) = refl
    there (Err why) = heard_refused done Err (0 ∷ []) why

pub removed_alike : (a b : Removed) → told_removed a ≡ told_removed b → a ≡ b
removed_alike = alike_by_back told_removed (heard done Err) there
  where
    done : List ℕ → Removed
    done others = Ok tt

    there : (a : Removed) → heard done Err (told_removed a) ≡ a
    there (Ok done) = refl
    there (Err why) = heard_refused done Err [] why

-- of results whose address is not 0
pub found_alike : (a b : Found) → AddressNotZero a → AddressNotZero b → told_found a ≡ told_found b → a ≡ b
found_alike a b p q e = sym (there a p) ∙ ap (heard done Err) e ∙ there b q
  where
    found_at : ℕ → Found
    found_at zero = Ok None
    found_at (suc n) = Ok (Some (suc n))

    done : List ℕ → Found
    done others = found_at (get_or others 0 0)

    there : (a : Found) → AddressNotZero a → heard done Err (told_found a) ≡ a
    there (Ok (Some zero)) p = absurd (omega (arith, p))
    there (Ok (Some (suc n))) p = refl
    there (Ok None) p = refl
    there (Err why) p = heard_refused done Err (0 ∷ []) why

-- ---- the calls

pub give_one : (roster serial a b : List ℕ) (g h : Given) → IsGiven roster serial g a → IsGiven roster serial h b → (g ≡ h) × (a ≡ b)
give_one roster serial a b g h x y = (given_alike g h (x.0 ∙ sym y.0), x.1 ∙ sym y.1)

pub remove_one : (roster : List ℕ) (address : ℕ) (a b : List ℕ) (q r : Removed) → IsRemoved roster address q a → IsRemoved roster address r b → (q ≡ r) × (a ≡ b)
remove_one roster address a b q r x y = (removed_alike q r (x.0 ∙ sym y.0), x.1 ∙ sym y.1)

pub find_one : (roster serial : List ℕ) (e f : Found) → IsFound roster serial e → IsFound roster serial f → e ≡ f
find_one roster serial e f x y = found_alike e f x.1 y.1 (x.0 ∙ sym y.0)
