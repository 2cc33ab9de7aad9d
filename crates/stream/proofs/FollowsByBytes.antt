-- How a family shows that its machine follows its rule: byte by byte, where `at` bytes came before.
-- Assumes nothing.
use Prim.Native.Nat.{ℕ, suc, ◌+◌}
use mathlib.Core.Path.{◌≡◌, refl, sym, ap, ◌∙◌, subst}
use mathlib.Core.Option.{Option, none, some}
use mathlib.Core.List.{List, [], ◌∷◌, cons≢nil}
use lib.ListN.{length}
use native.Mathlib.Nat.{zero-add}
use native.Mathlib.Omega.{arith}
use Rattle.numbers.proofs.Alike.{zero_is_one}
use Rattle.stream.specs.Pieces.{Moved, Called, before, settle, scan}
use Rattle.stream.specs.Rule.{Settled}
use Rattle.stream.proofs.CallsComeTo.{after, events, Quiet}
use Rattle.stream.proofs.FamilyFacts.{found, Follows}

none_some : {A : Type 0} {E : Type 0} {e : E} → ◌≡◌ {A = Option E} none (some e) → A
none_some h = zero_is_one cc

module _ {S E : Type 0} (next : S → ℕ → Moved S E) (Rests : S → Type 0) where
  -- a call on bs in state s finds f, and after an event rests
  pub record Finds (at : ℕ) (f : Option (Settled E)) (s : S) (bs : List ℕ) : Type 0 where
    pub finds : f ≡ found (scan next s bs).event (at + (scan next s bs).used)
    pub rests : (e : E) → (scan next s bs).event ≡ some e → Rests (scan next s bs).state

  pub finds_end : (at : ℕ) (s : S) → Finds at none s []
  finds_end at s = record { finds = refl; rests = λ e h. none_some h }

  pub finds_goes : {at : ℕ} {f : Option (Settled E)} {s t : S} {b : ℕ} {bs : List ℕ} → next s b ≡ record { state = t; event = none } → Finds (at + 1) f t bs → Finds at f s (b ∷ bs)
  finds_goes {at} {f} {s} {t} {b} {bs} c r =
      let call : scan next s (b ∷ bs) ≡ settle none t (scan next t bs) = ap (λ (v : Moved S E). settle v.event v.state (scan next v.state bs)) c in
      let count : at + 1 + (scan next t bs).used ≡ at + suc (scan next t bs).used = omega arith in
      record {
        finds = r.finds ∙ ap (found (scan next t bs).event) count ∙ ap (λ (v : Called S E). found v.event (at + v.used)) (sym call);
        rests = λ e h. subst (λ (v : Called S E). Rests v.state) (sym call) (r.rests e (sym (ap (λ (v : Called S E). v.event) call) ∙ h));
      }

  -- a call that is known
  pub finds_call : {at : ℕ} {s t : S} {e : E} {n : ℕ} {bs : List ℕ} → scan next s bs ≡ record { state = t; event = some e; used = n } → Rests t
      → Finds at (some (record { event = e; used = at + n })) s bs
  finds_call {at} {s} {t} {e} {n} {bs} call r = record {
    finds = ap (λ (v : Called S E). found v.event (at + v.used)) (sym call);
    rests = λ x h. subst (λ (v : Called S E). Rests v.state) (sym call) r;
  }

  pub finds_none : {at : ℕ} {s t : S} {n : ℕ} {bs : List ℕ} → scan next s bs ≡ record { state = t; event = none; used = n } → Finds at none s bs
  finds_none {at} {s} {t} {n} {bs} call = record {
    finds = ap (λ (v : Called S E). found v.event (at + v.used)) (sym call);
    rests = λ x h. none_some (sym (ap (λ (v : Called S E). v.event) call) ∙ h);
  }

  pub finds_tells : {at : ℕ} {s t : S} {e : E} {b : ℕ} {bs : List ℕ} → next s b ≡ record { state = t; event = some e } → Rests t
      → Finds at (some (record { event = e; used = at + 1 })) s (b ∷ bs)
  finds_tells {at} {s} {t} {e} {b} {bs} c r = finds_call (ap (λ (v : Moved S E). settle v.event v.state (scan next v.state bs)) c) r

  -- quiet bytes are a call that gives nothing
  quiet_step : (o : Option E) (t : S) (w : List ℕ) → before o (events next t w) ≡ [] → (events next t w ≡ [] → scan next t w ≡ record { state = after next t w; event = none; used = length w })
      → settle o t (scan next t w) ≡ record { state = after next t w; event = none; used = suc (length w) }
  quiet_step none t w q ih = ap (settle none t) (ih q)
  quiet_step (some e) t w q ih = absurd (cons≢nil q)

  scan_quiet : (s : S) (w : List ℕ) → events next s w ≡ [] → scan next s w ≡ record { state = after next s w; event = none; used = length w }
  scan_quiet s [] q = refl
  scan_quiet s (b ∷ w) q = quiet_step (next s b).event (next s b).state w q (scan_quiet (next s b).state w)

  pub finds_quiet : {at : ℕ} {s t : S} {w : List ℕ} → Quiet next s w t → Finds at none s w
  finds_quiet {at} {s} {t} {w} q = finds_none (scan_quiet s w q.silent)

-- from the first byte on
pub follows_by : {K S E : Type 0} {rule : K → List ℕ → Option (Settled E)} {next : S → ℕ → Moved S E} {At : K → S → Type 0} {known after_event : K} {s : S} {bs : List ℕ}
    → Finds next (At after_event) 0 (rule known bs) s bs → Follows rule next At known after_event s bs
follows_by {next} {s} {bs} f = record { finds = f.finds ∙ ap (found (scan next s bs).event) (zero-add (scan next s bs).used); goes_on = f.rests }
