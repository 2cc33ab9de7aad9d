-- What the rule says of lists of places: searching, setting one place, and that a sound list stays sound.
-- Assumes nothing.
use Prim.Native.Nat.{ℕ, zero, suc, ◌+◌, ◌<◌}
use mathlib.Core.Path.{◌≡◌, refl, sym, ap, ◌∙◌}
use mathlib.Core.Bool.{Bool, true, false, cond, not, ◌&&◌, and-false}
use mathlib.Core.List.{List, [], ◌∷◌}
use native.Mathlib.Numerals.{add-one}
use native.Mathlib.Omega.{arith}
use lib.ListN.{length, get_or, set, length-set}
use lib.Seq.{set_out}
use lib.Dec.{eqb}
use borrow.Author.Tests.{eq-eqb, ne_eqb, not-true}
use Rattle.numbers.specs.Lists.{same}
use Rattle.numbers.proofs.Alike.{zero_is_one}
use Rattle.numbers.proofs.TestLaws.{both}
use Rattle.numbers.proofs.SameLists.{same_refl, same_true}
use Rattle.roster.specs.Roster.{serial_size, used_place, free_place, used, free, used_by, good, first, no_place, alone, sound}
use Rattle.roster.specs.declared.Place.{Place}
use Rattle.roster.proofs.SoundTest.{eqb_alike, Fine}

pub no : {A : Type 0} → true ≡ false → A
no e = zero_is_one cc

-- ---- serials

pub same_other : (s t : List ℕ) → (s ≡ t → ⊥) → same s t ≡ false
same_other s t h = go (same s t) refl
  where
    go : (r : Bool) → same s t ≡ r → r ≡ false
    go false e = refl
    go true e = absurd (h (same_true s t e))

pub other_same : (s t : List ℕ) → same s t ≡ false → s ≡ t → ⊥
other_same s t e q = no (sym (same_refl s) ∙ ap (same s) q ∙ e)

-- ---- searching

pub none_more : (test : Place → Bool) (p : Place) (ps : List Place) → no_place test (p ∷ ps) ≡ (not (test p) && no_place test ps)
none_more test p ps = go (test p)
  where
    go : (t : Bool) → eqb (cond t 0 (first test ps + 1)) (length (p ∷ ps)) ≡ (not t && no_place test ps)
    go true = ne_eqb 0 (suc (length ps)) (λ e. omega (arith, e))
    go false = eqb_alike (first test ps + 1) (suc (length ps)) (first test ps) (length ps) (λ e. omega (arith, e)) (λ e. omega (arith, e))

-- none here, and none behind
pub record NoneOf (test : Place → Bool) (p : Place) (ps : List Place) : Type 0 where
  pub here : test p ≡ false
  pub behind : no_place test ps ≡ true

pub none_of : (test : Place → Bool) (p : Place) (ps : List Place) → no_place test (p ∷ ps) ≡ true → NoneOf test p ps
none_of test p ps e =
    let two = both (not (test p)) (no_place test ps) (sym (none_more test p ps) ∙ e) in
    record { here = not-true _ two.0; behind = two.1 }

pub none_and : (test : Place → Bool) (p : Place) (ps : List Place) → test p ≡ false → no_place test ps ≡ true → no_place test (p ∷ ps) ≡ true
none_and test p ps h b = none_more test p ps ∙ simp (h, b)

-- ---- what was found

pub record First (test : Place → Bool) (ps : List Place) (other : Place) : Type 0 where
  pub within : first test ps < length ps
  pub here : test (get_or ps (first test ps) other) ≡ true
  pub below : (k : ℕ) → k < first test ps → test (get_or ps k other) ≡ false

first_here : (test : Place → Bool) (p : Place) (ps : List Place) (other : Place) → test p ≡ true → First test (p ∷ ps) other
first_here test p ps other t =
    let zero-first : first test (p ∷ ps) ≡ 0 = ap (λ (r : Bool). cond r 0 (first test ps + 1)) t in
    record {
      within = omega (arith, zero-first);
      here = ap (λ (k : ℕ). test (get_or (p ∷ ps) k other)) zero-first ∙ t;
      below = λ k l. absurd (let z : ⊥ = omega (arith, zero-first, l) in z);
    }

first_behind : (test : Place → Bool) (p : Place) (ps : List Place) (other : Place) → test p ≡ false → First test ps other → First test (p ∷ ps) other
first_behind test p ps other t f =
    let one_more : first test (p ∷ ps) ≡ suc (first test ps) = ap (λ (r : Bool). cond r 0 (first test ps + 1)) t ∙ add-one (first test ps) in
    record {
      within = omega (arith, one_more, f.within);
      here = ap (λ (k : ℕ). test (get_or (p ∷ ps) k other)) one_more ∙ f.here;
      below = each one_more;
    }
  where
    each : first test (p ∷ ps) ≡ suc (first test ps) → (k : ℕ) → k < first test (p ∷ ps) → test (get_or (p ∷ ps) k other) ≡ false
    each e zero l = t
    each e (suc k) l = f.below k (omega (arith, e, l))

pub first_found : (test : Place → Bool) (ps : List Place) (other : Place) → no_place test ps ≡ false → First test ps other
first_found test [] other e = no e
first_found test (p ∷ ps) other e = go (test p) refl (first_found test ps other)
  where
    go : (t : Bool) → test p ≡ t → (no_place test ps ≡ false → First test ps other) → First test (p ∷ ps) other
    go true q rest = first_here test p ps other q
    go false q rest = first_behind test p ps other q (rest (sym (none_more test p ps ∙ simp q) ∙ e))

-- a place that passes the test is found
pub some_pass : (test : Place → Bool) (ps : List Place) (k : ℕ) (other : Place) → k < length ps → test (get_or ps k other) ≡ true → no_place test ps ≡ false
some_pass test [] k other l e = absurd (let z : ⊥ = omega (arith, l) in z)
some_pass test (p ∷ ps) zero other l e = none_more test p ps ∙ simp e
some_pass test (p ∷ ps) (suc k) other l e =
    none_more test p ps ∙ ap (λ (t : Bool). not (test p) && t) (some_pass test ps k other (omega (arith, l)) e) ∙ and-false (not (test p))

-- ---- one place is set

none_set : (test : Place → Bool) (q : Place) → test q ≡ false → (ps : List Place) (k : ℕ) → no_place test ps ≡ true → no_place test (set ps k q) ≡ true
none_set test q t [] k e = ap (no_place test) (set_out [] k q (omega arith))
none_set test q t (p ∷ ps) zero e = none_and test q ps t (none_of test p ps e).behind
none_set test q t (p ∷ ps) (suc k) e =
    none_and test p (set ps k q) (none_of test p ps e).here (none_set test q t ps k (none_of test p ps e).behind)

-- ---- who uses a place

pub used_by_used : (s : List ℕ) (p : Place) → used p ≡ true → used_by s p ≡ same p.serial s
unfolding used_by
used_by_used s p u = simp u

pub used_by_free : (s : List ℕ) (p : Place) → used p ≡ false → used_by s p ≡ false
unfolding used_by
used_by_free s p u = simp u

pub used_by_true : (s : List ℕ) (p : Place) → used_by s p ≡ true → (used p ≡ true) × (p.serial ≡ s)
unfolding used_by
used_by_true s p e =
    let two = both (used p) (same p.serial s) e in
    (two.0, same_true p.serial s two.1)

pub alone_free : (p : Place) (ps : List Place) → used p ≡ false → alone p ps ≡ true
unfolding alone
alone_free p ps u = simp u

pub alone_used : (p : Place) (ps : List Place) → used p ≡ true → alone p ps ≡ no_place (used_by p.serial) ps
unfolding alone
alone_used p ps u = simp u

-- p being used by another serial than q's, q is used by another than p's
turned : (q p : Place) → used q ≡ true → used p ≡ true → used_by q.serial p ≡ false → used_by p.serial q ≡ false
turned q p u v e =
    used_by_used p.serial q u
    ∙ same_other q.serial p.serial (λ x. other_same p.serial q.serial (sym (used_by_used q.serial p v) ∙ e) (sym x))

-- ---- a sound list stays sound where a place is set that is apart from the others

pub record Apart (q p : Place) (ps : List Place) : Type 0 where
  pub behind : alone q ps ≡ true
  pub here : used p ≡ true → used_by p.serial q ≡ false

apart : (q p : Place) (ps : List Place) → alone q (p ∷ ps) ≡ true → Apart q p ps
apart q p ps e = go (used q) refl
  where
    go : (u : Bool) → used q ≡ u → Apart q p ps
    go false u = record { behind = alone_free q ps u; here = λ _. used_by_free p.serial q u }
    go true u =
        let n = none_of (used_by q.serial) p ps (sym (alone_used q (p ∷ ps) u) ∙ e) in
        record { behind = alone_used q ps u ∙ n.behind; here = λ v. turned q p u v n.here }

alone_set : (p q : Place) (ps : List Place) (k : ℕ) → alone p ps ≡ true → (used p ≡ true → used_by p.serial q ≡ false) → alone p (set ps k q) ≡ true
alone_set p q ps k a h = go (used p) refl
  where
    go : (u : Bool) → used p ≡ u → alone p (set ps k q) ≡ true
    go false u = alone_free p (set ps k q) u
    go true u = alone_used p (set ps k q) u ∙ none_set (used_by p.serial) q (h u) ps k (sym (alone_used p ps u) ∙ a)

-- what the first of a sound list is
pub record Sound (p : Place) (ps : List Place) : Type 0 where
  pub good : good p ≡ true
  pub alone : alone p ps ≡ true
  pub behind : sound ps ≡ true

pub sound_of : (p : Place) (ps : List Place) → sound (p ∷ ps) ≡ true → Sound p ps
sound_of p ps e =
    let all = both (good p && alone p ps) (sound ps) e in
    let one = both (good p) (alone p ps) all.0 in
    record { good = one.0; alone = one.1; behind = all.1 }

pub sound_and : (p : Place) (ps : List Place) → good p ≡ true → alone p ps ≡ true → sound ps ≡ true → sound (p ∷ ps) ≡ true
sound_and p ps g a s = simp (g, a, s)

pub sound_set : (q : Place) → good q ≡ true → (ps : List Place) (k : ℕ) → sound ps ≡ true → alone q ps ≡ true → sound (set ps k q) ≡ true
sound_set q g [] k s a = ap sound (set_out [] k q (omega arith))
sound_set q g (p ∷ ps) zero s a = sound_and q ps g (apart q p ps a).behind (sound_of p ps s).behind
sound_set q g (p ∷ ps) (suc k) s a =
    let o = sound_of p ps s in
    let d = apart q p ps a in
    sound_and p (set ps k q) o.good (alone_set p q ps k o.alone d.here) (sound_set q g ps k o.behind d.behind)

pub fine_set : (q : Place) (ps : List Place) (k : ℕ) → good q ≡ true → alone q ps ≡ true → Fine ps → Fine (set ps k q)
fine_set q ps k g a f = record { count = length-set ps k q ∙ f.count; all = sound_set q g ps k f.all a }

-- ---- the two places that are set

pub good_free : good free_place ≡ true
unfolding good used free
good_free = refl

pub good_used : (s : List ℕ) → length s ≡ serial_size → good (used_place s) ≡ true
unfolding good used
good_used s l = simp (eq-eqb _ _ l)

pub used_used : (s : List ℕ) → used (used_place s) ≡ true
unfolding used
used_used s = refl

pub used_free : used free_place ≡ false
unfolding used
used_free = refl

pub used_is_used : (s : List ℕ) → used_by s (used_place s) ≡ true
used_is_used s = used_by_used s (used_place s) (used_used s) ∙ same_refl s

pub fine_free : (ps : List Place) (k : ℕ) → Fine ps → Fine (set ps k free_place)
fine_free ps k f = fine_set free_place ps k good_free (alone_free free_place ps used_free) f

pub fine_used : (ps : List Place) (k : ℕ) (s : List ℕ) → length s ≡ serial_size → no_place (used_by s) ps ≡ true → Fine ps → Fine (set ps k (used_place s))
fine_used ps k s l n f = fine_set (used_place s) ps k (good_used s l) (alone_used (used_place s) ps (used_used s) ∙ n) f

-- a new serial is then found where it was put
pub new_found : (s : List ℕ) (ps : List Place) → no_place (used_by s) ps ≡ true → no_place free ps ≡ false
    → first (used_by s) (set ps (first free ps) (used_place s)) ≡ first free ps
new_found s [] n f = no f
new_found s (p ∷ ps) n f = go (free p) refl (new_found s ps (none_of (used_by s) p ps n).behind)
  where
    go : (t : Bool) → free p ≡ t → (no_place free ps ≡ false → first (used_by s) (set ps (first free ps) (used_place s)) ≡ first free ps)
        → first (used_by s) (set (p ∷ ps) (cond t 0 (first free ps + 1)) (used_place s)) ≡ cond t 0 (first free ps + 1)
    go true e rest = ap (λ (r : Bool). cond r 0 (first (used_by s) ps + 1)) (used_is_used s)
    go false e rest =
        let later : List Place = set ps (first free ps) (used_place s) in
        ap (λ (k : ℕ). first (used_by s) (set (p ∷ ps) k (used_place s))) (add-one (first free ps))
        ∙ ap (λ (r : Bool). cond r 0 (first (used_by s) later + 1)) (none_of (used_by s) p ps n).here
        ∙ ap (λ (k : ℕ). k + 1) (rest (sym (none_more free p ps ∙ simp e) ∙ f))

-- and a serial whose place was freed is found no more
pub freed_gone : (s : List ℕ) (ps : List Place) → sound ps ≡ true → no_place (used_by s) (set ps (first (used_by s) ps) free_place) ≡ true
freed_gone s [] o = refl
freed_gone s (p ∷ ps) o = go (used_by s p) refl (freed_gone s ps (sound_of p ps o).behind)
  where
    go : (t : Bool) → used_by s p ≡ t → no_place (used_by s) (set ps (first (used_by s) ps) free_place) ≡ true
        → no_place (used_by s) (set (p ∷ ps) (cond t 0 (first (used_by s) ps + 1)) free_place) ≡ true
    go true e rest =
        let u = used_by_true s p e in
        none_and (used_by s) free_place ps (used_by_free s free_place used_free)
        (ap (λ (x : List ℕ). no_place (used_by x) ps) (sym u.1) ∙ sym (alone_used p ps u.0) ∙ (sound_of p ps o).alone)
    go false e rest =
        ap (λ (k : ℕ). no_place (used_by s) (set (p ∷ ps) k free_place)) (add-one (first (used_by s) ps))
        ∙ none_and (used_by s) p (set ps (first (used_by s) ps) free_place) e rest
