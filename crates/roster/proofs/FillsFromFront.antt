-- Different serials, given one after another to a fresh roster, fill it from the front.
-- Assumes nothing.
use Prim.Native.Nat.{ℕ, zero, suc, ◌+◌, ◌*◌}
use mathlib.Core.Path.{◌≡◌, refl, sym, ap, subst, ◌∙◌}
use mathlib.Core.Bool.{Bool, true, false, cond}
use mathlib.Core.List.{List, [], ◌∷◌, ◌++◌, map, append-nil}
use native.Mathlib.Numerals.{add-one}
use native.Mathlib.Omega.{arith}
use lib.ListN.{length, set, replicate, length-append, length-map, length-replicate, replicate-append-replicate}
use lib.Seq.{append_snoc}
use borrow.Author.Tests.{ne_eqb}
use Rattle.answers.specs.Answer.{Answer, answer}
use Rattle.answers.specs.Refusal.{refused}
use Rattle.answers.specs.declared.Refusal.TheVariants.{RosterFull}
use Rattle.roster.specs.Roster.{places, serial_size, used_place, free_place, free, used_by, first, no_place, sound, giving_sound, giving}
use Rattle.roster.specs.Bytes.{place_size, places_of, bytes_of}
use Rattle.roster.specs.Calls.{Given, told_given, IsGiven}
use Rattle.roster.specs.Demands.{fresh_roster, GivenAll, New, EachNew, addresses_from}
use Rattle.roster.specs.declared.Place.{Place}
use Rattle.roster.proofs.PlacesInBytes.{places_bytes}
use Rattle.roster.proofs.SoundTest.{Fine, sound_whole}
use Rattle.roster.proofs.RosterRule.{same_other, none_and, used_by_used, used_by_free, used_used, used_free, good_free, alone_free, sound_and, fine_used}
use Rattle.roster.proofs.AnswerSays.{giving_fits}

-- the places of these serials, then n free ones
abbrev pub filled : List (List ℕ) → ℕ → List Place
filled gs n = map used_place gs ++ replicate n free_place

filled_count : (gs : List (List ℕ)) (n : ℕ) → length (filled gs n) ≡ length gs + n
filled_count gs n = length-append (map used_place gs) (replicate n free_place) ∙ ap (λ (k : ℕ). k + length (replicate n free_place)) (length-map gs used_place) ∙ ap (λ (k : ℕ). length gs + k) (length-replicate n free_place)

free_used : (s : List ℕ) → free (used_place s) ≡ false
unfolding free
free_used s = refl

free_free : free free_place ≡ true
unfolding free
free_free = refl

pub filled_none : (s : List ℕ) (gs : List (List ℕ)) (n : ℕ) → New s gs → no_place (used_by s) (filled gs n) ≡ true
filled_none s [] zero h = refl
filled_none s [] (suc n) h = none_and (used_by s) free_place (filled [] n) (used_by_free s free_place used_free) (filled_none s [] n h)
filled_none s (g ∷ gs) n h =
    none_and (used_by s) (used_place g) (filled gs n) (used_by_used s (used_place g) (used_used g) ∙ same_other g s (λ e. h.0 (sym e))) (filled_none s gs n h.1)

filled_first : (gs : List (List ℕ)) (n : ℕ) → first free (filled gs (suc n)) ≡ length gs
filled_first [] n = ap (λ (t : Bool). cond t 0 (first free (replicate n free_place) + 1)) free_free
filled_first (g ∷ gs) n =
    ap (λ (t : Bool). cond t 0 (first free (filled gs (suc n)) + 1)) (free_used g)
    ∙ ap (λ (k : ℕ). k + 1) (filled_first gs n)
    ∙ add-one (length gs)

filled_set : (gs : List (List ℕ)) (n : ℕ) (s : List ℕ) → set (filled gs (suc n)) (length gs) (used_place s) ≡ filled (gs ++ (s ∷ [])) n
filled_set [] n s = refl
filled_set (g ∷ gs) n s = ap (λ (ps : List Place). used_place g ∷ ps) (filled_set gs n s)

-- no place is free any more
filled_full : (gs : List (List ℕ)) → no_place free (filled gs 0) ≡ true
filled_full [] = refl
filled_full (g ∷ gs) = none_and free (used_place g) (filled gs 0) (free_used g) (filled_full gs)

-- ---- one more serial

pub giving_next : (gs : List (List ℕ)) (n : ℕ) (s : List ℕ) → Fine (filled gs (suc n)) → length s ≡ serial_size → New s gs
    → giving (filled gs (suc n)) s ≡ (answer 0 (suc (length gs) ∷ []), filled (gs ++ (s ∷ [])) n)
unfolding giving_sound
giving_next gs n s f l h =
    let at = filled_first gs n in
    let count = filled_count gs (suc n) in
    let some : no_place free (filled gs (suc n)) ≡ false = ne_eqb _ _ (λ (e : first free (filled gs (suc n)) ≡ length (filled gs (suc n))). omega (arith, at, count, e)) in
    giving_fits (filled gs (suc n)) s f l
    ∙ simp (filled_none s gs (suc n) h, some)
    (ap {B = Answer × List Place} (λ (k : ℕ). (answer 0 ((k + 1) ∷ []), set (filled gs (suc n)) k (used_place s))) at
    ∙ ap {B = Answer × List Place} (λ (k : ℕ). (answer 0 (k ∷ []), set (filled gs (suc n)) (length gs) (used_place s))) (add-one (length gs))
    ∙ ap {B = Answer × List Place} (λ (ps : List Place). (answer 0 (suc (length gs) ∷ []), ps)) (filled_set gs n s))

pub giving_full : (gs : List (List ℕ)) (s : List ℕ) → Fine (filled gs 0) → length s ≡ serial_size → New s gs → giving (filled gs 0) s ≡ (refused 1 RosterFull, filled gs 0)
unfolding giving_sound
giving_full gs s f l h = giving_fits (filled gs 0) s f l ∙ simp (filled_none s gs 0 h, filled_full gs)

pub fine_next : (gs : List (List ℕ)) (n : ℕ) (s : List ℕ) → Fine (filled gs (suc n)) → length s ≡ serial_size → New s gs → Fine (filled (gs ++ (s ∷ [])) n)
fine_next gs n s f l h = subst Fine (filled_set gs n s) (fine_used (filled gs (suc n)) (length gs) s l (filled_none s gs (suc n) h) f)

-- ---- all of them

pub record Filled (gs : List (List ℕ)) (serials : List (List ℕ)) (results : List Given) (later : List ℕ) : Type 0 where
  pub told : map told_given results ≡ addresses_from (suc (length gs)) (length serials)
  pub bytes : later ≡ bytes_of (filled (gs ++ serials) 0)
  pub fine : Fine (filled (gs ++ serials) 0)

-- what a call on a roster of these bytes tells and leaves
pub told_over : (ps : List Place) (roster s : List ℕ) (r : Given) (mid : List ℕ) (a : Answer) (qs : List Place) → Fine ps → roster ≡ bytes_of ps
    → giving ps s ≡ (a, qs) → IsGiven roster s r mid → (told_given r ≡ a) × (mid ≡ bytes_of qs)
told_over ps roster s r mid a qs f e g p =
    let held : places_of roster ≡ ps = ap places_of e ∙ places_bytes ps (sound_whole ps f.all) in
    let gave : giving (places_of roster) s ≡ (a, qs) = ap (λ (x : List Place). giving x s) held ∙ g in
    (p.0 ∙ ap (λ (end : Answer × List Place). end.0) gave, p.1 ∙ ap (λ (end : Answer × List Place). bytes_of end.1) gave)

one_more : (gs : List (List ℕ)) (s : List ℕ) → length (gs ++ (s ∷ [])) ≡ suc (length gs)
one_more gs s = length-append gs (s ∷ []) ∙ add-one (length gs)

pub filling : {roster later : List ℕ} {serials : List (List ℕ)} {results : List Given} → GivenAll roster serials results later
    → (gs : List (List ℕ)) → roster ≡ bytes_of (filled gs (length serials)) → Fine (filled gs (length serials)) → EachNew gs serials → Filled gs serials results later
filling (GivenAll.nothing) gs e f n =
    record {
      told = refl;
      bytes = e ∙ ap (λ (l : List (List ℕ)). bytes_of (filled l 0)) (sym (append-nil gs));
      fine = subst (λ (l : List (List ℕ)). Fine (filled l 0)) (sym (append-nil gs)) f;
    }
filling (GivenAll.next {roster = roster} {mid = mid} {later = later} {serial = s} {serials = serials} {g = r} {gs = rs} p q) gs e f n =
    let m : ℕ = length serials in
    let told = told_over (filled gs (suc m)) roster s r mid (answer 0 (suc (length gs) ∷ [])) (filled (gs ++ (s ∷ [])) m) f e (giving_next gs m s f n.0.0 n.0.1) p in
    let rest = filling q (gs ++ (s ∷ [])) told.1 (fine_next gs m s f n.0.0 n.0.1) n.1 in
    record {
      told = ap (λ (a : Answer). a ∷ map told_given rs) told.0 ∙ ap (λ (l : List Answer). answer 0 (suc (length gs) ∷ []) ∷ l) (rest.told ∙ ap (λ (k : ℕ). addresses_from (suc k) m) (one_more gs s));
      bytes = rest.bytes ∙ ap (λ (l : List (List ℕ)). bytes_of (filled l 0)) (append_snoc gs s serials);
      fine = subst (λ (l : List (List ℕ)). Fine (filled l 0)) (append_snoc gs s serials) rest.fine;
    }

-- ---- the fresh roster

fresh_bytes : (n : ℕ) → bytes_of (replicate n free_place) ≡ replicate (n * place_size) 0
fresh_bytes zero = refl
fresh_bytes (suc n) =
    ap (λ (l : List ℕ). replicate place_size 0 ++ l) (fresh_bytes n)
    ∙ replicate-append-replicate place_size (n * place_size) 0
    ∙ ap (λ (k : ℕ). replicate k 0) (let e : place_size + n * place_size ≡ suc n * place_size = omega arith in e)

pub fresh : fresh_roster ≡ bytes_of (replicate places free_place)
fresh = sym (fresh_bytes places)

sound_fresh : (n : ℕ) → sound (replicate n free_place) ≡ true
sound_fresh zero = refl
sound_fresh (suc n) = sound_and free_place (replicate n free_place) good_free (alone_free free_place (replicate n free_place) used_free) (sound_fresh n)

pub fine_fresh : Fine (replicate places free_place)
fine_fresh = record { count = length-replicate places free_place; all = sound_fresh places }
