-- Stuffing and unstuffing.
-- Assumes nothing.
use Prim.Native.Nat.{ℕ, suc, ◌+◌, ◌≤◌, ◌<◌}
use mathlib.Core.Path.{◌≡◌, refl, sym, ap, ap₂, ◌∙◌}
use mathlib.Core.Bool.{Bool, true, false, cond, ◌||◌}
use mathlib.Core.Option.{Option, none, some}
use mathlib.Core.List.{List, [], ◌∷◌}
use lib.ListN.{length}
use lib.Dec.{T, eqb}
use lib.Pow.{are_bytes}
use borrow.Author.Tests.{eqb-true, eqb-false, ne_eqb}
use native.Mathlib.Omega.{arith}
use Rattle.numbers.proofs.Alike.{zero_is_one}
use Rattle.numbers.proofs.TestLaws.{by_test}
use Rattle.stream.proofs.BytesOfParts.{bytes_cons, bytes_head, bytes_tail}
use Rattle.stream.proofs.BorneOutByBytes.{in_test}
use Rattle.comlynx.specs.Wire.{flag, escape, stuffed, flag_pair, escape_pair}
use Rattle.comlynx.specs.Rules.{with_first, unstuffed}
use Rattle.comlynx.specs.Demands.{Stretch, special}

-- ---- what is stuffed is a stretch, and stands for what it was

pub unstuffed_stuffed : (s : List ℕ) → unstuffed false (stuffed s) ≡ some s
unstuffed_stuffed [] = refl
unstuffed_stuffed (b ∷ s) =
    by_test (λ l. unstuffed false l ≡ some (b ∷ s)) (eqb b flag)
    (λ e. cc (unstuffed_stuffed s, eqb-true b flag e))
    (λ e. by_test (λ l. unstuffed false l ≡ some (b ∷ s)) (eqb b escape)
    (λ f. cc (unstuffed_stuffed s, eqb-true b escape f))
    (λ f. rw f (ap (with_first b) (unstuffed_stuffed s))))

pub stuffed_stretch : (s : List ℕ) → Stretch (stuffed s)
stuffed_stretch [] = tt
stuffed_stretch (b ∷ s) =
    by_test Stretch (eqb b flag) (λ e. (λ q. omega arith, (λ q. omega arith, stuffed_stretch s)))
    (λ e. by_test Stretch (eqb b escape) (λ f. (λ q. omega arith, (λ q. omega arith, stuffed_stretch s))) (λ f. (eqb-false b flag e, stuffed_stretch s)))

-- ---- its length

pub stuffed_length : (s : List ℕ) → length (stuffed s) ≡ length s + special s
stuffed_length [] = refl
stuffed_length (b ∷ s) = go (eqb b flag) (eqb b escape) (stuffed_length s)
  where
    go : (t u : Bool) → length (stuffed s) ≡ length s + special s
        → length (cond t (escape ∷ flag_pair ∷ stuffed s) (cond u (escape ∷ escape_pair ∷ stuffed s) (b ∷ stuffed s))) ≡ suc (length s) + (cond (t || u) 1 0 + special s)
    go true u h = omega arith
    go false true h = omega arith
    go false false h = omega arith

pub special_most : (s : List ℕ) → special s ≤ length s
special_most [] = omega arith
special_most (b ∷ s) = go (eqb b flag || eqb b escape) (special_most s)
  where
    go : (t : Bool) → special s ≤ length s → cond t 1 0 + special s ≤ suc (length s)
    go true h = omega arith
    go false h = omega arith

-- ---- bytes stay bytes, both ways

pub bytes_stuffed : (s : List ℕ) → T (are_bytes s) → T (are_bytes (stuffed s))
bytes_stuffed [] p = tt
bytes_stuffed (b ∷ s) p =
    let rest = bytes_stuffed s (bytes_tail b s p) in
    let pair : (c : ℕ) → c < 256 → T (are_bytes (escape ∷ c ∷ stuffed s)) = λ c h. bytes_cons escape (c ∷ stuffed s) (omega arith) (bytes_cons c (stuffed s) h rest) in
    by_test (λ l. T (are_bytes l)) (eqb b flag) (λ e. pair flag_pair (omega arith))
    (λ e. by_test (λ l. T (are_bytes l)) (eqb b escape) (λ f. pair escape_pair (omega arith)) (λ f. bytes_cons b (stuffed s) (bytes_head b s p) rest))

pub bytes_unstuffed : (s : List ℕ) → T (are_bytes (stuffed s)) → T (are_bytes s)
bytes_unstuffed [] p = tt
bytes_unstuffed (b ∷ s) p =
    let rest : (c : ℕ) → T (are_bytes (escape ∷ c ∷ stuffed s)) → T (are_bytes s) = λ c q. bytes_unstuffed s (bytes_tail c (stuffed s) (bytes_tail escape (c ∷ stuffed s) q)) in
    in_test (λ l. T (are_bytes l)) (T (are_bytes (b ∷ s))) (eqb b flag) (escape ∷ flag_pair ∷ stuffed s) _ p
    (λ e q. let z : b ≡ flag = eqb-true b flag e in bytes_cons b s (omega arith) (rest flag_pair q))
    (λ e q.
    in_test (λ l. T (are_bytes l)) (T (are_bytes (b ∷ s))) (eqb b escape) (escape ∷ escape_pair ∷ stuffed s) (b ∷ stuffed s) q
    (λ f r. let z : b ≡ escape = eqb-true b escape f in bytes_cons b s (omega arith) (rest escape_pair r))
    (λ f r. bytes_cons b s (bytes_head b (stuffed s) r) (bytes_unstuffed s (bytes_tail b (stuffed s) r))))

-- ---- a stretch that stands for u is u stuffed, and nothing else

front_inv : (b : ℕ) (o : Option (List ℕ)) (u : List ℕ) → with_first b o ≡ some u → (v : List ℕ) × (o ≡ some v) × (u ≡ b ∷ v)
front_inv b none u e = zero_is_one cc
front_inv b (some v) u e = (v, refl, cc)

plain : (b : ℕ) (s v : List ℕ) → eqb b flag ≡ false → eqb b escape ≡ false → s ≡ stuffed v → b ∷ s ≡ stuffed (b ∷ v)
plain b s v e f q = rw (e, f) (ap (λ (l : List ℕ). b ∷ l) q)

abbrev Stands : Bool → List ℕ → List ℕ → Type 0
Stands false s u = s ≡ stuffed u
Stands true s u = escape ∷ s ≡ stuffed u

stands : (s : List ℕ) (t : Bool) (u : List ℕ) → Stretch s → unstuffed t s ≡ some u → Stands t s u
stands [] false u k e = let q : u ≡ [] = cc in rw q
stands [] true u k e = zero_is_one cc
stands (b ∷ s) false u k e =
    in_test (λ o. o ≡ some u) (b ∷ s ≡ stuffed u) (eqb b escape) (unstuffed true s) (with_first b (unstuffed false s)) e
    (λ f h. ap (λ (x : ℕ). x ∷ s) (eqb-true b escape f) ∙ stands s true u k.1 h)
    (λ f h.
    let (v, p, q) = front_inv b (unstuffed false s) u h in
    plain b s v (ne_eqb b flag k.0) f (stands s false v k.1 p) ∙ ap stuffed (sym q))
stands (b ∷ s) true u k e =
    in_test (λ o. o ≡ some u) (escape ∷ b ∷ s ≡ stuffed u) (eqb b flag_pair) (with_first flag (unstuffed false s))
    (cond (eqb b escape_pair) (with_first escape (unstuffed false s)) none) e
    (λ f h.
    let (v, p, q) = front_inv flag (unstuffed false s) u h in
    ap₂ (λ (x : ℕ) (l : List ℕ). escape ∷ x ∷ l) (eqb-true b flag_pair f) (stands s false v k.1 p) ∙ ap stuffed (sym q))
    (λ f h.
    in_test (λ o. o ≡ some u) (escape ∷ b ∷ s ≡ stuffed u) (eqb b escape_pair) (with_first escape (unstuffed false s)) none h
    (λ g i.
    let (v, p, q) = front_inv escape (unstuffed false s) u i in
    ap₂ (λ (x : ℕ) (l : List ℕ). escape ∷ x ∷ l) (eqb-true b escape_pair g) (stands s false v k.1 p) ∙ ap stuffed (sym q))
    (λ g i. zero_is_one cc))

pub stands_for : (s u : List ℕ) → Stretch s → unstuffed false s ≡ some u → s ≡ stuffed u
stands_for s u k e = stands s false u k e
