-- What the rule finds to be a message is that message's frame, and the writer takes it.
-- Assumes nothing.
use Prim.Native.Nat.{ℕ, suc, ◌+◌, ◌-◌, ◌*◌, ◌/◌, ◌%◌, ◌≤◌}
use mathlib.Core.Path.{◌≡◌, refl, sym, ap, ap₂, ◌∙◌, subst}
use mathlib.Core.Bool.{Bool, true, false}
use mathlib.Core.Option.{Option, none, some}
use mathlib.Core.List.{List, [], ◌∷◌, ◌++◌}
use lib.ListN.{length, take, drop, get_or, length-take, length-drop}
use lib.Dec.{T, eqb}
use lib.Pow.{are_bytes}
use borrow.Author.Tests.{eqb-true, eqb-false}
use native.Mathlib.Omega.{arith}
use Rattle.numbers.proofs.Alike.{zero_is_one}
use Rattle.numbers.proofs.TestLaws.{both}
use Rattle.comlynx_checksum.specs.Checksum.{sent, others, agrees}
use Rattle.comlynx_checksum.proofs.SentAgrees.{only_these}
use Rattle.stream.specs.Event.{Event, message, damage, gives}
use Rattle.stream.specs.Rule.{Settled}
use Rattle.stream.specs.Demands.{EndsWith, BorneOut}
use Rattle.stream.proofs.BytesOfParts.{bytes_cons, bytes_head, bytes_tail, bytes_at, bytes_append, bytes_take, bytes_drop}
use Rattle.stream.proofs.BorneOutByBytes.{in_test, none_found, same_found, Bears, bears_on, bears_all}
use Rattle.comlynx.specs.Wire.{Message, Takes, covered, body, message_of, flag, stuffed, body_max, body_least}
use Rattle.comlynx.specs.Rules.{unstuffed, sized, begins, judged, judged_body, lost_of, judge, within, before, rule}
use Rattle.comlynx.specs.Demands.{comlynx, Stretch}
use Rattle.comlynx.proofs.JudgedIsDelivered.{sized_bounds}
use Rattle.comlynx.proofs.UnstuffingUndoes.{bytes_unstuffed, stands_for}

wrong : {A : Type 0} (k lost : ℕ) (m : Message) → damage k lost ≡ message m → A
wrong k lost m q = zero_is_one cc

eight : (u : List ℕ) → 8 ≤ length u
    → u ≡ get_or u 0 0 ∷ get_or u 1 0 ∷ get_or u 2 0 ∷ get_or u 3 0 ∷ get_or u 4 0 ∷ get_or u 5 0 ∷ get_or u 6 0 ∷ get_or u 7 0 ∷ drop 8 u
eight [] k = absurd (omega arith)
eight (a ∷ []) k = absurd (omega arith)
eight (a ∷ b ∷ []) k = absurd (omega arith)
eight (a ∷ b ∷ c ∷ []) k = absurd (omega arith)
eight (a ∷ b ∷ c ∷ d ∷ []) k = absurd (omega arith)
eight (a ∷ b ∷ c ∷ d ∷ e ∷ []) k = absurd (omega arith)
eight (a ∷ b ∷ c ∷ d ∷ e ∷ f ∷ []) k = absurd (omega arith)
eight (a ∷ b ∷ c ∷ d ∷ e ∷ f ∷ g ∷ []) k = absurd (omega arith)
eight (a ∷ b ∷ c ∷ d ∷ e ∷ f ∷ g ∷ h ∷ r) k = refl

-- what a body that is judged a message has shown
record Shown (u : List ℕ) (m : Message) : Type 0 where
  fits : (body_least ≤ length u) × (length u ≤ body_max)
  starts : (get_or u 0 0 ≡ 0xFF) × (get_or u 1 0 ≡ 0x03)
  size : get_or u 6 0 ≡ length u - body_least
  sum : agrees u ≡ true
  tells : message_of u ≡ m

shows : (lost : ℕ) (u : List ℕ) (m : Message) → judged lost (length u) (agrees u) u ≡ message m → Shown u m
unfolding judged
shows lost u m e =
    in_test (λ a. a ≡ message m) (Shown u m) (sized (length u)) _ (damage 3 lost) e
    (λ t₀ e₀.
    in_test (λ a. a ≡ message m) (Shown u m) (begins u) _ (damage 4 lost) e₀
    (λ t₁ e₁.
    in_test (λ a. a ≡ message m) (Shown u m) (eqb (get_or u 6 0) (length u - body_least)) _ (damage 5 lost) e₁
    (λ t₂ e₂.
    in_test (λ a. a ≡ message m) (Shown u m) (agrees u) (message (message_of u)) (damage 6 lost) e₂
    (λ t₃ e₃.
    let b = both (eqb (get_or u 0 0) 0xFF) (eqb (get_or u 1 0) 0x03) t₁ in
    record {
      fits = sized_bounds (length u) t₀;
      starts = (eqb-true _ _ b.0, eqb-true _ _ b.1);
      size = eqb-true _ _ t₂;
      sum = t₃;
      tells = cc;
    })
    (λ _ e₃. wrong 6 lost m e₃))
    (λ _ e₂. wrong 5 lost m e₂))
    (λ _ e₁. wrong 4 lost m e₁))
    (λ _ e₀. wrong 3 lost m e₀)

module _ (u : List ℕ) (m : Message) (p : T (are_bytes u)) (s : Shown u m) where
  -- what the checksum takes is what it takes of the message told
  covered_is : others u ≡ covered (message_of u)
  covered_is =
      let long = s.fits.0 in
      let n : length u - 2 ≡ suc (suc (suc (suc (suc (suc (suc (suc (length u - body_least)))))))) = omega arith in
      let f = s.starts.0 in
      let g = s.starts.1 in
      let a : get_or u 2 0 ≡ (get_or u 2 0 * 256 + get_or u 3 0) / 256 = omega (arith, bytes_at u 3 p) in
      let b : get_or u 3 0 ≡ (get_or u 2 0 * 256 + get_or u 3 0) % 256 = omega (arith, bytes_at u 3 p) in
      let c : get_or u 4 0 ≡ (get_or u 4 0 * 256 + get_or u 5 0) / 256 = omega (arith, bytes_at u 5 p) in
      let d : get_or u 5 0 ≡ (get_or u 4 0 * 256 + get_or u 5 0) % 256 = omega (arith, bytes_at u 5 p) in
      let z : get_or u 6 0 ≡ length (take (length u - body_least) (drop 8 u)) = omega (arith, s.size, length-take (length u - body_least) (drop 8 u), length-drop 8 u) in
      ap₂ take n (eight u (omega arith)) ∙ cc

  body_is : u ≡ body m
  unfolding body
  body_is =
      only_these u s.sum
      ∙ ap (λ (l : List ℕ). l ++ sent l) covered_is
      ∙ ap body s.tells

  takes_told : Takes (message_of u)
  takes_told =
      record {
        source = omega (arith, bytes_at u 2 p, bytes_at u 3 p);
        destination = omega (arith, bytes_at u 4 p, bytes_at u 5 p);
        kind = bytes_at u 7 p;
        payload = bytes_take (length u - body_least) (drop 8 u) (bytes_drop 8 u p);
        fits = omega (arith, length-take (length u - body_least) (drop 8 u), length-drop 8 u, s.fits.1);
      }

  takes_it : Takes m
  takes_it = subst Takes s.tells takes_told

judged_only : (lost : ℕ) (w : List ℕ) (o : Option (List ℕ)) (m : Message) → T (are_bytes w) → Stretch w → unstuffed false w ≡ o → judged_body lost o ≡ message m
    → Takes m × (w ≡ stuffed (body m))
judged_only lost w none m p k e v = wrong 2 lost m v
judged_only lost w (some u) m p k e v =
    let q : w ≡ stuffed u = stands_for w u k e in
    let g : T (are_bytes u) = bytes_unstuffed u (subst (λ (l : List ℕ). T (are_bytes l)) q p) in
    let s : Shown u m = shows lost u m v in
    (takes_it u m g s, q ∙ ap stuffed (body_is u m g s))

-- a stretch of bytes is judged a message only if it is the stuffing of that message's body, and the message is one that the writer takes
judged_so : (w : List ℕ) (m : Message) → Stretch w → T (are_bytes w) → judge w ≡ message m → Takes m × (w ≡ stuffed (body m))
unfolding judge
judged_so w m k p e = judged_only (lost_of w) w (unstuffed false w) m p k refl e

-- ---- so what the rule finds to be a message is its frame: the flag that opens it may be the one that closed the stretch before

abbrev Borne : List ℕ → List ℕ → ℕ → Settled (Event Message) → Type 0
Borne = Bears comlynx (flag ∷ [])

-- a stretch and the flag that closes it
closed : (w bs : List ℕ) (at : ℕ) → Stretch w → T (are_bytes w) → Borne (flag ∷ w) (flag ∷ bs) at (record { event = judge w; used = at + 1 })
closed w bs at k g = record { count = 1; used = refl; borne = go (judge w) refl; ends = record { front = flag ∷ w; joins = refl } }
  where
    go : (e : Event Message) → judge w ≡ e → BorneOut comlynx (flag ∷ (w ++ (flag ∷ []))) (gives e)
    go (message m) q =
        let j = judged_so w m k g q in
        (j.0, record { front = []; joins = ap (λ (l : List ℕ). flag ∷ (l ++ (flag ∷ []))) j.1 })
    go (damage n lost) q = tt

stretch_more : (w : List ℕ) (b : ℕ) → Stretch w → (b ≡ flag → ⊥) → Stretch (w ++ (b ∷ []))
stretch_more [] b k n = (n, tt)
stretch_more (x ∷ w) b k n = (k.0, stretch_more w b k.1 n)

in_stretch : (bs came : List ℕ) (at : ℕ) (p : Settled (Event Message)) → T (are_bytes bs) → Stretch came → T (are_bytes came) → within at came bs ≡ some p → Borne (flag ∷ came) bs at p
unfolding within
in_stretch [] came at p g k c e = none_found e
in_stretch (b ∷ bs) came at p g k c e =
    let more = bytes_tail b bs g in
    in_test (λ o. o ≡ some p) (Borne (flag ∷ came) (b ∷ bs) at p) (eqb b flag) _ _ e
    (λ t s. subst (λ (x : ℕ). Borne (flag ∷ came) (x ∷ bs) at p) (sym (eqb-true b flag t))
    (in_test (λ o. o ≡ some p) (Borne (flag ∷ came) (flag ∷ bs) at p) (eqb (length came) 0) _ _ s
    (λ z r. bears_on comlynx (flag ∷ []) (flag ∷ came) refl (in_stretch bs [] (at + 1) p more tt tt r))
    (λ z r. subst (Borne (flag ∷ came) (flag ∷ bs) at) (same_found r) (closed came bs at k c))))
    (λ t s. bears_on comlynx (flag ∷ []) [] refl
    (in_stretch bs (came ++ (b ∷ [])) (at + 1) p more (stretch_more came b k (eqb-false b flag t)) (bytes_append came (b ∷ []) c (bytes_cons b [] (bytes_head b bs g) tt)) s))

awaited : (bs : List ℕ) (at : ℕ) (p : Settled (Event Message)) → T (are_bytes bs) → before at bs ≡ some p → Borne [] bs at p
unfolding before
awaited [] at p g e = none_found e
awaited (b ∷ bs) at p g e =
    let more = bytes_tail b bs g in
    in_test (λ o. o ≡ some p) (Borne [] (b ∷ bs) at p) (eqb b flag) _ _ e
    (λ t s. bears_on comlynx (flag ∷ []) [] (ap (λ (x : ℕ). x ∷ []) (eqb-true b flag t)) (in_stretch bs [] (at + 1) p more tt tt s))
    (λ t s. bears_on comlynx (flag ∷ []) (b ∷ []) refl (awaited bs (at + 1) p more s))

-- the byte that is known to have come last
abbrev pub last_known : Bool → List ℕ
last_known false = []
last_known true = flag ∷ []

pub borne_out : (known : Bool) (bs : List ℕ) → T (are_bytes bs) → (p : Settled (Event Message)) → rule known bs ≡ some p
    → BorneOut comlynx (last_known known ++ take p.used bs) (gives p.event) × EndsWith (flag ∷ []) (last_known known ++ take p.used bs)
borne_out false bs g p e = bears_all comlynx (flag ∷ []) (awaited bs 0 p g e)
borne_out true bs g p e = bears_all comlynx (flag ∷ []) (in_stretch bs [] 0 p g tt tt e)
