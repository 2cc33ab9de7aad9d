-- The machine finds what the rule finds, from every state in which a stretch begins or is awaited.
-- Assumes nothing.
use Prim.Native.Nat.{ℕ, suc, min, ◌+◌, ◌≤◌, ◌<◌}
use mathlib.Core.Path.{◌≡◌, refl, sym, ap, ap₂, ◌∙◌, subst}
use mathlib.Core.Bool.{Bool, true, false, cond}
use mathlib.Core.Option.{Option, none, some}
use mathlib.Core.List.{List, [], ◌∷◌, ◌++◌, append-nil, append_assoc}
use lib.ListN.{length, set, replicate, length-append, length-replicate}
use lib.Dec.{T, eqb, ltb}
use lib.Pow.{are_bytes}
use borrow.Author.Tests.{eqb-true, eqb-false, ne_eqb, ltb-true, ltb-false, le-leb, lt-leb}
use native.Mathlib.Nat.{lt_of_not-le}
use native.Mathlib.Decide.{dec_le}
use native.Mathlib.Omega.{arith}
use Rattle.numbers.proofs.TestLaws.{by_test}
use Rattle.comlynx_checksum.specs.Checksum.{agrees}
use Rattle.stream.specs.Event.{Event, damage}
use Rattle.stream.specs.Rule.{Settled}
use Rattle.stream.proofs.FamilyFacts.{Follows}
use Rattle.stream.proofs.FollowsByBytes.{Finds, finds_end, finds_goes, finds_tells, follows_by}
use Rattle.stream.proofs.HeldAndCounted.{Holds, holds_none, holds_kept, holds_over, holds_all, holds_too_many}
use Rattle.comlynx.specs.Wire.{Message, flag, escape, body_max, flag_pair, escape_pair, body_least}
use Rattle.comlynx.specs.Rules.{with_first, unstuffed, sized, judged, judged_body, lost_of, judge, within, before, rule}
use Rattle.comlynx.specs.Machine.{too_many, waiting, inside, escaped, broken, fresh, more, on, tells, closed, next}
use Rattle.comlynx.specs.declared.reader.Reader.{Reader}
use Rattle.comlynx.proofs.MachineMoves.{flag_first, flag_empty, flag_closes, flag_after_escape, flag_breaks, waits, marks, keeps, overflows, pair_flag, pair_flag_over, pair_escape, pair_escape_over, spoils, stays_broken}

-- where a stretch is awaited, and where one begins
pub record Stands (s : Reader) (as-in : List ℕ → Reader) : Type 0 where
  pub held : List ℕ
  pub full : length held ≡ body_max
  pub is : s ≡ as-in held

abbrev pub At : Bool → Reader → Type 0
At false s = Stands s waiting
At true s = Stands s (inside 0 0)

abbrev Agrees : ℕ → Option (Settled (Event Message)) → Reader → List ℕ → Type 0
Agrees = Finds next (At true)

-- ---- what is held of a stretch: the bytes of its body, as far as there is room for them

room : body_max < too_many
room = omega arith

-- beyond the room there is one count alone
holds_full : (c : ℕ) (h u : List ℕ) (b : ℕ) → body_max ≤ c → Holds body_max too_many c h u → Holds body_max too_many too_many h (u ++ b ∷ [])
holds_full c h u b k r =
    let e : min (c + 1) too_many ≡ too_many = omega arith in
    subst (λ (n : ℕ). Holds body_max too_many n h (u ++ b ∷ [])) e (holds_over body_max too_many room c h u b k r)

pub too_long : (n : ℕ) → body_max < n → sized n ≡ false
too_long n k = rw (le-leb body_least n (omega arith), lt-leb n body_max k)

-- so what is held is judged as the whole
holds_closed : (k c : ℕ) (h u : List ℕ) → Holds body_max too_many c h u → closed k c h ≡ judged k (length u) (agrees u) u
unfolding judged
holds_closed k c h u r =
    elim (dec_le (length u) body_max) [
      | yes y ↦ (
          let all = holds_all body_max too_many room c h u y r in
          ap₂ (λ (n : ℕ) (l : List ℕ). judged k n (agrees l) l) all.0 all.1)
      | no y ↦ (
          let lt : body_max < length u = lt_of_not-le y in
          rw (too_long c (holds_too_many body_max too_many room c h u lt r), too_long (length u) (omega arith)))
    ]

-- ---- where the machine stands in a stretch

data Mode : Type 0 where
  clear half bad : Mode

abbrev state_of : Mode → (came count : ℕ) → List ℕ → Reader
state_of clear k c h = inside k c h
state_of half k c h = escaped k c h
state_of bad k c h = broken k c h

-- u in front
abbrev pub ahead : List ℕ → Option (List ℕ) → Option (List ℕ)
ahead u none = none
ahead u (some v) = some (u ++ v)

pub ahead_front : (u : List ℕ) (b : ℕ) (o : Option (List ℕ)) → ahead u (with_first b o) ≡ ahead (u ++ b ∷ []) o
ahead_front u b none = refl
ahead_front u b (some v) = ap some (sym (append_assoc u (b ∷ []) v))

-- what u, already unstuffed, and the bytes s after it stand for
abbrev whole : Mode → List ℕ → List ℕ → Option (List ℕ)
whole clear u s = ahead u (unstuffed false s)
whole half u s = ahead u (unstuffed true s)
whole bad u s = none

-- whether nothing has come
abbrev empty : Mode → List ℕ → Bool
empty clear u = eqb (length u) 0
empty half u = false
empty bad u = false

-- of a stretch `came` has come, which left the machine so
record Track (m : Mode) (k c : ℕ) (h u came : List ℕ) : Type 0 where
  holds : Holds body_max too_many c h u
  sent : k ≡ lost_of came
  means : (rest : List ℕ) → unstuffed false (came ++ rest) ≡ whole m u rest
  begun : eqb (length came) 0 ≡ empty m u

snoc_some : (l : List ℕ) (b : ℕ) → eqb (length (l ++ b ∷ [])) 0 ≡ false
snoc_some l b = ne_eqb (length (l ++ b ∷ [])) 0 (λ e. omega (arith, length-append l (b ∷ [])))

means_on : (m n : Mode) (u v came : List ℕ) (b : ℕ) → ((rest : List ℕ) → unstuffed false (came ++ rest) ≡ whole m u rest)
    → ((rest : List ℕ) → whole m u (b ∷ rest) ≡ whole n v rest) → (rest : List ℕ) → unstuffed false ((came ++ b ∷ []) ++ rest) ≡ whole n v rest
means_on m n u v came b f g rest = ap (unstuffed false) (append_assoc came (b ∷ []) rest) ∙ f (b ∷ rest) ∙ g rest

begins_so : (h : List ℕ) → length h ≡ body_max → Track clear 0 0 h [] []
begins_so h w = record { holds = holds_none body_max too_many room h w; sent = refl; means = λ rest. sym (ahead_nil (unstuffed false rest)); begun = refl }
  where
    ahead_nil : (o : Option (List ℕ)) → ahead [] o ≡ o
    ahead_nil none = refl
    ahead_nil (some v) = refl

sent_more : (k : ℕ) (came : List ℕ) (b : ℕ) → k ≡ lost_of came → more k 1 ≡ lost_of (came ++ b ∷ [])
sent_more k came b e = omega (arith, length-append came (b ∷ []))

-- the claim for the bytes bs
abbrev Claim : List ℕ → Type 0
Claim bs = (m : Mode) (k c : ℕ) (h u came : List ℕ) → Track m k c h u came → (at : ℕ) → Agrees at (within at came bs) (state_of m k c h) bs

-- ---- a flag

judge_so : (m : Mode) (k c : ℕ) (h u came : List ℕ) → Track m k c h u came → (o : Option (List ℕ)) → whole m u [] ≡ o → judge came ≡ judged_body k o
unfolding judge
judge_so m k c h u came t o e = ap₂ judged_body (sym t.sent) (ap (unstuffed false) (sym (append-nil came)) ∙ t.means [] ∙ e)

abbrev closing : ℕ → List ℕ → List ℕ → Option (Settled (Event Message))
closing at came bs = cond (eqb (length came) 0) (within (at + 1) [] bs) (some (record { event = judge came; used = at + 1 }))

ends_with : (at : ℕ) (came bs : List ℕ) (s : Reader) (h : List ℕ) (x : Event Message) → length h ≡ body_max → eqb (length came) 0 ≡ false → judge came ≡ x → next s flag ≡ tells x h
    → Agrees at (closing at came bs) s (flag ∷ bs)
ends_with at came bs s h x w e j n = rw (e, j) (finds_tells next (At true) n (record { held = h; full = w; is = refl }))

at_flag : (bs : List ℕ) → Claim bs → (m : Mode) (k c : ℕ) (h u came : List ℕ) → Track m k c h u came → (at : ℕ) → Agrees at (closing at came bs) (state_of m k c h) (flag ∷ bs)
at_flag bs ih clear k c h [] came t at =
    rw (t.begun, t.holds.counted) (finds_goes next (At true) (flag_empty k h) (ih clear 0 0 h [] [] (begins_so h t.holds.wide) (at + 1)))
at_flag bs ih clear k c h (x ∷ u) came t at =
    ends_with at came bs (inside k c h) h (closed k c h) t.holds.wide (t.begun ∙ ne_eqb (suc (length u)) 0 (λ e. omega arith))
    (judge_so clear k c h (x ∷ u) came t (some (x ∷ u)) (ap some (append-nil (x ∷ u))) ∙ sym (holds_closed k c h (x ∷ u) t.holds))
    (flag_closes k c h (λ e. omega (arith, t.holds.counted)))
at_flag bs ih half k c h u came t at =
    ends_with at came bs (escaped k c h) h (damage 2 k) t.holds.wide t.begun (judge_so half k c h u came t none refl) (flag_after_escape k c h)
at_flag bs ih bad k c h u came t at =
    ends_with at came bs (broken k c h) h (damage 2 k) t.holds.wide t.begun (judge_so bad k c h u came t none refl) (flag_breaks k c h)

-- ---- another byte

-- one more byte v of the body
one_more : (bs : List ℕ) → Claim bs → (m : Mode) (k c : ℕ) (h u came : List ℕ) → Track m k c h u came → (at b v : ℕ)
    → (c < body_max → next (state_of m k c h) b ≡ on (inside (more k 1) (c + 1) (set h c v))) → (body_max ≤ c → next (state_of m k c h) b ≡ on (inside (more k 1) too_many h))
    → ((rest : List ℕ) → whole m u (b ∷ rest) ≡ ahead u (with_first v (unstuffed false rest)))
    → Agrees at (within (at + 1) (came ++ b ∷ []) bs) (state_of m k c h) (b ∷ bs)
one_more bs ih m k c h u came t at b v f g w = go (ltb c body_max) refl
  where
    track : (c' : ℕ) (h' : List ℕ) → Holds body_max too_many c' h' (u ++ v ∷ []) → Track clear (more k 1) c' h' (u ++ v ∷ []) (came ++ b ∷ [])
    track c' h' r =
        record {
          holds = r;
          sent = sent_more k came b t.sent;
          means = means_on m clear u (u ++ v ∷ []) came b t.means (λ rest. w rest ∙ ahead_front u v (unstuffed false rest));
          begun = snoc_some came b ∙ sym (snoc_some u v);
        }

    go : (q : Bool) → ltb c body_max ≡ q → Agrees at (within (at + 1) (came ++ b ∷ []) bs) (state_of m k c h) (b ∷ bs)
    go true e =
        let lt = ltb-true c body_max e in
        finds_goes next (At true) (f lt) (ih clear (more k 1) (c + 1) (set h c v) (u ++ v ∷ []) (came ++ b ∷ []) (track (c + 1) (set h c v) (holds_kept body_max too_many room c h u v lt t.holds)) (at + 1))
    go false e =
        let le = ltb-false c body_max e in
        finds_goes next (At true) (g le) (ih clear (more k 1) too_many h (u ++ v ∷ []) (came ++ b ∷ []) (track too_many h (holds_full c h u v le t.holds)) (at + 1))

-- the same bytes held, in another mode
turns : (bs : List ℕ) → Claim bs → (m n : Mode) (k c : ℕ) (h u came : List ℕ) → Track m k c h u came → (at b : ℕ) → next (state_of m k c h) b ≡ on (state_of n (more k 1) c h)
    → empty n u ≡ false → ((rest : List ℕ) → whole m u (b ∷ rest) ≡ whole n u rest) → Agrees at (within (at + 1) (came ++ b ∷ []) bs) (state_of m k c h) (b ∷ bs)
turns bs ih m n k c h u came t at b e f w =
    finds_goes next (At true) e
    (ih n (more k 1) c h u (came ++ b ∷ []) (record { holds = t.holds; sent = sent_more k came b t.sent; means = means_on m n u u came b t.means w; begun = snoc_some came b ∙ sym f }) (at + 1))

on_byte : (bs : List ℕ) → Claim bs → (m : Mode) (k c : ℕ) (h u came : List ℕ) → Track m k c h u came → (at b : ℕ) → (b ≡ flag → ⊥)
    → Agrees at (within (at + 1) (came ++ b ∷ []) bs) (state_of m k c h) (b ∷ bs)
on_byte bs ih clear k c h u came t at b n = go (eqb b escape) refl
  where
    go : (q : Bool) → eqb b escape ≡ q → Agrees at (within (at + 1) (came ++ b ∷ []) bs) (inside k c h) (b ∷ bs)
    go true e =
        let is : b ≡ escape = eqb-true b escape e in
        rw is (turns bs ih clear half k c h u came t at escape (marks k c h) refl (λ rest. refl))
    go false e =
        let no = eqb-false b escape e in
        one_more bs ih clear k c h u came t at b b (keeps k c h b n no) (overflows k c h b n no) (λ rest. rw e)
on_byte bs ih half k c h u came t at b n = go (eqb b flag_pair) (eqb b escape_pair) refl refl
  where
    go : (q r : Bool) → eqb b flag_pair ≡ q → eqb b escape_pair ≡ r → Agrees at (within (at + 1) (came ++ b ∷ []) bs) (escaped k c h) (b ∷ bs)
    go true r e f =
        let is : b ≡ flag_pair = eqb-true b flag_pair e in
        rw is (one_more bs ih half k c h u came t at flag_pair flag (pair_flag k c h) (pair_flag_over k c h) (λ rest. refl))
    go false true e f =
        let is : b ≡ escape_pair = eqb-true b escape_pair f in
        rw is (one_more bs ih half k c h u came t at escape_pair escape (pair_escape k c h) (pair_escape_over k c h) (λ rest. refl))
    go false false e f = turns bs ih half bad k c h u came t at b (spoils k c h b n (eqb-false b flag_pair e) (eqb-false b escape_pair f)) refl (λ rest. rw (e, f))
on_byte bs ih bad k c h u came t at b n = turns bs ih bad bad k c h u came t at b (stays_broken k c h b n) refl (λ rest. refl)

-- ---- a stretch, and what stands before the first flag

claim : (bs : List ℕ) → Claim bs
unfolding within
claim [] m k c h u came t at = finds_end next (At true) at (state_of m k c h)
claim (b ∷ bs) m k c h u came t at =
    by_test (λ o. Agrees at o (state_of m k c h) (b ∷ bs)) (eqb b flag)
    (λ e. let is : b ≡ flag = eqb-true b flag e in rw is (at_flag bs (claim bs) m k c h u came t at))
    (λ e. on_byte bs (claim bs) m k c h u came t at b (eqb-false b flag e))

waited : (bs h : List ℕ) → length h ≡ body_max → (at : ℕ) → Agrees at (before at bs) (waiting h) bs
unfolding before
waited [] h w at = finds_end next (At true) at (waiting h)
waited (b ∷ bs) h w at =
    by_test (λ o. Agrees at o (waiting h) (b ∷ bs)) (eqb b flag)
    (λ e. let is : b ≡ flag = eqb-true b flag e in rw is (finds_goes next (At true) (flag_first h) (claim bs clear 0 0 h [] [] (begins_so h w) (at + 1))))
    (λ e. finds_goes next (At true) (waits h b (eqb-false b flag e)) (waited bs h w (at + 1)))

pub at_fresh : At false fresh
at_fresh = record { held = replicate body_max 0; full = length-replicate {A = ℕ} body_max 0; is = refl }

pub follows : (known : Bool) (s : Reader) → At known s → (bs : List ℕ) → T (are_bytes bs) → Follows rule next At known true s bs
follows false s a bs g = follows_by (subst (λ (x : Reader). Agrees 0 (rule false bs) x bs) (sym a.is) (waited bs a.held a.full 0))
follows true s a bs g = follows_by (subst (λ (x : Reader). Agrees 0 (rule true bs) x bs) (sym a.is) (claim bs clear 0 0 a.held [] [] (begins_so a.held a.full) 0))
