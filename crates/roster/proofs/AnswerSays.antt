-- What the answer of a call says of its tests, and of the roster afterwards.
-- Assumes nothing.
use Prim.Native.Nat.{ℕ, ◌+◌, ◌-◌, ◌≤◌}
use mathlib.Core.Path.{◌≡◌, refl, ap, subst, ◌∙◌}
use mathlib.Core.Logic.{◌↔◌}
use mathlib.Core.Bool.{Bool, true, false, not}
use mathlib.Core.List.{List, [], ◌∷◌}
use native.Mathlib.Omega.{arith}
use lib.ListN.{length, set}
use lib.Seq.{lt-length-set, get_or-set_same}
use borrow.Author.Tests.{eqb-true, eq-eqb}
use Rattle.numbers.specs.Addresses.{is_serial}
use Rattle.answers.specs.Answer.{Answer, answer, number, need}
use Rattle.answers.specs.Refusal.{refused}
use Rattle.answers.specs.Refusal as Refusal
use Rattle.answers.specs.declared.Refusal.{Refusal}
use Rattle.answers.specs.declared.Refusal.TheVariants.{RosterFull, WrongAddressOrExponentTooLow, NotForThisCall, Spoilt}
use Rattle.answers.proofs.NumbersHaveCases.{refusal_above}
use Rattle.roster.specs.Roster.{serial_size, used_place, free_place, free, used_by, first, no_place, spoilt, giving_sound, giving, none_at, removing, finding}
use Rattle.roster.specs.declared.Place.{Place}
use Rattle.roster.proofs.SoundTest.{Fine, not_spoilt, fine}
use Rattle.roster.proofs.CallEnds.{Held, held}
use Rattle.roster.proofs.RosterRule.{no, some_pass, first_found, used_is_used, fine_free, fine_used, new_found}

-- a refusal is no answer 0
never : {A : Type 0} (n : ℕ) (why : Refusal) (others : List ℕ) → refused n why ≡ answer 0 others → A
never n why others e =
    let zero-told : Refusal.number why ≡ 0 = cc in
    absurd (omega (arith, refusal_above why))

same_address : {m n : ℕ} → answer 0 (m ∷ []) ≡ answer 0 (n ∷ []) → m ≡ n
same_address e = cc

pub fit : (s : List ℕ) → is_serial s ≡ true → length s ≡ serial_size
fit s e = eqb-true _ _ e

-- ---- giving

-- an address was given: it was there, or it is new
pub data Gave (ps : List Place) (s : List ℕ) : ℕ → List Place → Type 0 where
  kept : no_place (used_by s) ps ≡ false → Gave ps s (first (used_by s) ps + 1) ps
  new : no_place (used_by s) ps ≡ true → no_place free ps ≡ false → Gave ps s (first free ps + 1) (set ps (first free ps) (used_place s))

pub record Giving (ps : List Place) (s : List ℕ) (address : ℕ) (later : List Place) : Type 0 where
  pub fine : Fine ps
  pub fits : length s ≡ serial_size
  pub gave : Gave ps s address later

gave_sound : (ps : List Place) (s : List ℕ) (address : ℕ) → (giving_sound ps s).0 ≡ answer 0 (address ∷ []) → Gave ps s address (giving_sound ps s).1
unfolding giving_sound
gave_sound ps s address = go (no_place (used_by s) ps) refl (no_place free ps) refl
  where
    go : (t : Bool) → no_place (used_by s) ps ≡ t → (u : Bool) → no_place free ps ≡ u
        → (let end : Answer × List Place =
        need t (answer 0 ((first (used_by s) ps + 1) ∷ []), ps)
        (need (not u) (refused 1 RosterFull, ps) (answer 0 ((first free ps + 1) ∷ []), set ps (first free ps) (used_place s))) in
        end.0 ≡ answer 0 (address ∷ []) → Gave ps s address end.1)
    go false e u f q = subst (λ (a : ℕ). Gave ps s a ps) (same_address q) (kept e)
    go true e true f q = never 1 RosterFull (address ∷ []) q
    go true e false f q = subst (λ (a : ℕ). Gave ps s a (set ps (first free ps) (used_place s))) (same_address q) (new e f)

pub giving_of : (ps : List Place) (s : List ℕ) (address : ℕ) → (giving ps s).0 ≡ answer 0 (address ∷ []) → Giving ps s address (giving ps s).1
unfolding giving
giving_of ps s address = go (spoilt ps) refl (is_serial s) refl
  where
    go : (t : Bool) → spoilt ps ≡ t → (u : Bool) → is_serial s ≡ u
        → (let end : Answer × List Place = need (not t) (refused 1 Spoilt, ps) (need u (refused 1 NotForThisCall, ps) (giving_sound ps s)) in
        end.0 ≡ answer 0 (address ∷ []) → Giving ps s address end.1)
    go true e u f q = never 1 Spoilt (address ∷ []) q
    go false e false f q = never 1 NotForThisCall (address ∷ []) q
    go false e true f q = record { fine = not_spoilt ps e; fits = fit s f; gave = gave_sound ps s address q }

-- on a roster that is not spoilt, a serial that fits
pub giving_fits : (ps : List Place) (s : List ℕ) → Fine ps → length s ≡ serial_size → giving ps s ≡ giving_sound ps s
unfolding giving
giving_fits ps s f l = simp (fine ps f, eq-eqb _ _ l)

-- afterwards the serial is there
pub gave_there : (ps : List Place) (s : List ℕ) (address : ℕ) (later : List Place) → Giving ps s address later
    → Fine later × (no_place (used_by s) later ≡ false) × (first (used_by s) later + 1 ≡ address)
gave_there ps s address later g = go g.gave
  where
    go : {a : ℕ} {l : List Place} → Gave ps s a l → Fine l × (no_place (used_by s) l ≡ false) × (first (used_by s) l + 1 ≡ a)
    go (kept e) = (g.fine, e, refl)
    go (new e f) =
        let k : ℕ = first free ps in
        let inside = (first_found free ps free_place f).within in
        let there = some_pass (used_by s) (set ps k (used_place s)) k free_place (lt-length-set ps k (used_place s) inside)
        (ap (used_by s) (get_or-set_same ps k (used_place s) free_place inside) ∙ used_is_used s) in
        (fine_used ps k s g.fits e g.fine, there, ap (λ (n : ℕ). n + 1) (new_found s ps e f))

-- ---- a roster stays well formed

pub giving_fine : (ps : List Place) (s : List ℕ) → Fine ps → Fine (giving ps s).1
unfolding giving giving_sound
giving_fine ps s f = go (spoilt ps) (is_serial s) refl (no_place (used_by s) ps) refl (no_place free ps)
  where
    go : (t u : Bool) → is_serial s ≡ u → (v : Bool) → no_place (used_by s) ps ≡ v → (w : Bool)
        → (let end : Answer × List Place = need (not t) (refused 1 Spoilt, ps) (need u (refused 1 NotForThisCall, ps)
        (need v (answer 0 ((first (used_by s) ps + 1) ∷ []), ps)
        (need (not w) (refused 1 RosterFull, ps) (answer 0 ((first free ps + 1) ∷ []), set ps (first free ps) (used_place s))))) in
        Fine end.1)
    go true u x v y w = f
    go false false x v y w = f
    go false true x false y w = f
    go false true x true y true = f
    go false true x true y false = fine_used ps (first free ps) s (fit s x) y f

pub removing_fine : (ps : List Place) (address : ℕ) → Fine ps → Fine (removing ps address).1
unfolding removing
removing_fine ps address f = go (spoilt ps) (none_at ps address)
  where
    go : (t u : Bool)
        → (let end : Answer × List Place = need (not t) (refused 0 Spoilt, ps) (need (not u) (refused 0 WrongAddressOrExponentTooLow, ps) (answer 0 [], set ps (address - 1) free_place)) in
        Fine end.1)
    go true u = f
    go false true = f
    go false false = fine_free ps (address - 1) f

-- ---- with a refusal the roster is as it was

pub giving_refused : (ps : List Place) (s : List ℕ) (why : Refusal) → refused 1 why ≡ (giving ps s).0 → (giving ps s).1 ≡ ps
unfolding giving giving_sound
giving_refused ps s why = go (spoilt ps) (is_serial s) (no_place (used_by s) ps) (no_place free ps)
  where
    go : (t u v w : Bool)
        → (let end : Answer × List Place = need (not t) (refused 1 Spoilt, ps) (need u (refused 1 NotForThisCall, ps)
        (need v (answer 0 ((first (used_by s) ps + 1) ∷ []), ps)
        (need (not w) (refused 1 RosterFull, ps) (answer 0 ((first free ps + 1) ∷ []), set ps (first free ps) (used_place s))))) in
        refused 1 why ≡ end.0 → end.1 ≡ ps)
    go true u v w e = refl
    go false false v w e = refl
    go false true false w e = refl
    go false true true true e = refl
    go false true true false e = never 1 why ((first free ps + 1) ∷ []) e

pub removing_refused : (ps : List Place) (address : ℕ) (why : Refusal) → refused 0 why ≡ (removing ps address).0 → (removing ps address).1 ≡ ps
unfolding removing
removing_refused ps address why = go (spoilt ps) (none_at ps address)
  where
    go : (t u : Bool)
        → (let end : Answer × List Place = need (not t) (refused 0 Spoilt, ps) (need (not u) (refused 0 WrongAddressOrExponentTooLow, ps) (answer 0 [], set ps (address - 1) free_place)) in
        refused 0 why ≡ end.0 → end.1 ≡ ps)
    go true u e = refl
    go false true e = refl
    go false false e = never 0 why [] e

-- ---- 18 exactly if spoilt

abbrev not18 : Answer → Type 0
not18 a = number a ≡ 18 → ⊥

by_spoilt : {A : Type 0} (tells : A → Answer) (t : Bool) (refusing following : A) → number (tells refusing) ≡ 18 → not18 (tells following)
    → (t ≡ false) ↔ not18 (tells (need (not t) refusing following))
by_spoilt tells true refusing following r f = (λ e. absurd (no e), λ h. absurd (h r))
by_spoilt tells false refusing following r f = (λ e. f, λ h. refl)

-- through a test whose both sides have it
on_need : {A : Type 0} (P : A → Type 0) (t : Bool) {x y : A} → P x → P y → P (need t x y)
on_need P true a b = b
on_need P false a b = a

pub giving_18 : (ps : List Place) (s : List ℕ) → (spoilt ps ≡ false) ↔ not18 (giving ps s).0
unfolding giving giving_sound
giving_18 ps s =
    let P : Answer × List Place → Type 0 = λ end. not18 end.0 in
    by_spoilt (λ (end : Answer × List Place). end.0) (spoilt ps) (refused 1 Spoilt, ps) _ refl
    (on_need P (is_serial s) (λ e. omega (arith, e))
    (on_need P (no_place (used_by s) ps) (λ e. omega (arith, e)) (on_need P (not (no_place free ps)) (λ e. omega (arith, e)) (λ e. omega (arith, e)))))

pub removing_18 : (ps : List Place) (address : ℕ) → (spoilt ps ≡ false) ↔ not18 (removing ps address).0
unfolding removing
removing_18 ps address =
    let P : Answer × List Place → Type 0 = λ end. not18 end.0 in
    by_spoilt (λ (end : Answer × List Place). end.0) (spoilt ps) (refused 0 Spoilt, ps) _ refl (on_need P (not (none_at ps address)) (λ e. omega (arith, e)) (λ e. omega (arith, e)))

pub finding_18 : (ps : List Place) (s : List ℕ) → (spoilt ps ≡ false) ↔ not18 (finding ps s)
unfolding finding
finding_18 ps s =
    by_spoilt (λ (a : Answer). a) (spoilt ps) (refused 1 Spoilt) _ refl
    (on_need not18 (is_serial s) (λ e. omega (arith, e)) (on_need not18 (not (no_place (used_by s) ps)) (λ e. omega (arith, e)) (λ e. omega (arith, e))))

-- ---- finding and removing

-- on a roster that is not spoilt, a serial that fits and is there
pub finding_there : (ps : List Place) (s : List ℕ) → Fine ps → length s ≡ serial_size → no_place (used_by s) ps ≡ false
    → finding ps s ≡ answer 0 ((first (used_by s) ps + 1) ∷ [])
unfolding finding
finding_there ps s f l n = simp (fine ps f, eq-eqb _ _ l, n)

-- and one that is not
pub finding_none : (ps : List Place) (s : List ℕ) → Fine ps → length s ≡ serial_size → no_place (used_by s) ps ≡ true → finding ps s ≡ answer 0 (0 ∷ [])
unfolding finding
finding_none ps s f l n = simp (fine ps f, eq-eqb _ _ l, n)

pub record Finding (ps : List Place) (s : List ℕ) (address : ℕ) : Type 0 where
  pub fine : Fine ps
  pub fits : length s ≡ serial_size
  pub there : 1 ≤ address → (no_place (used_by s) ps ≡ false) × (first (used_by s) ps + 1 ≡ address)

pub finding_of : (ps : List Place) (s : List ℕ) (address : ℕ) → finding ps s ≡ answer 0 (address ∷ []) → Finding ps s address
unfolding finding
finding_of ps s address = go (spoilt ps) refl (is_serial s) refl (no_place (used_by s) ps) refl
  where
    go : (t : Bool) → spoilt ps ≡ t → (u : Bool) → is_serial s ≡ u → (v : Bool) → no_place (used_by s) ps ≡ v
        → need (not t) (refused 1 Spoilt) (need u (refused 1 NotForThisCall) (need (not v) (answer 0 (0 ∷ [])) (answer 0 ((first (used_by s) ps + 1) ∷ [])))) ≡ answer 0 (address ∷ [])
        → Finding ps s address
    go true e u f v n q = never 1 Spoilt (address ∷ []) q
    go false e false f v n q = never 1 NotForThisCall (address ∷ []) q
    go false e true f true n q =
        record { fine = not_spoilt ps e; fits = fit s f; there = λ l. absurd (let z : ⊥ = omega (arith, l, same_address q) in z) }
    go false e true f false n q = record { fine = not_spoilt ps e; fits = fit s f; there = λ l. (n, same_address q) }

pub removing_of : (ps : List Place) (address : ℕ) → (removing ps address).0 ≡ answer 0 [] → Held ps address × ((removing ps address).1 ≡ set ps (address - 1) free_place) × Fine ps
unfolding removing
removing_of ps address = go (spoilt ps) refl (none_at ps address) refl
  where
    go : (t : Bool) → spoilt ps ≡ t → (u : Bool) → none_at ps address ≡ u
        → (let end : Answer × List Place = need (not t) (refused 0 Spoilt, ps) (need (not u) (refused 0 WrongAddressOrExponentTooLow, ps) (answer 0 [], set ps (address - 1) free_place)) in
        end.0 ≡ answer 0 [] → Held ps address × (end.1 ≡ set ps (address - 1) free_place) × Fine ps)
    go true e u f q = never 0 Spoilt [] q
    go false e true f q = never 0 WrongAddressOrExponentTooLow [] q
    go false e false f q = (held ps address f, refl, not_spoilt ps e)
