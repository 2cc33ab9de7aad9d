-- How a family shows that what its rule finds is borne out by the bytes: byte by byte, where `at` bytes were used before, the last of them `pre`.
-- Assumes nothing.
use Prim.Native.Nat.{ℕ, suc, ◌+◌}
use mathlib.Core.Path.{◌≡◌, refl, sym, ap, ◌∙◌, subst}
use mathlib.Core.Bool.{Bool, true, false, cond}
use mathlib.Core.Option.{Option, none, some}
use mathlib.Core.List.{List, [], ◌∷◌, ◌++◌, append-nil, append_assoc}
use lib.ListN.{take}
use native.Mathlib.Nat.{zero-add}
use native.Mathlib.Omega.{arith}
use Rattle.numbers.proofs.Alike.{zero_is_one}
use Rattle.stream.specs.Event.{Event, message, damage, Told, done, gives, refuses}
use Rattle.stream.specs.Rule.{Settled}
use Rattle.stream.specs.Family.{Family}
use Rattle.stream.specs.Demands.{EndsWith, BorneOut}

-- ---- a rule's tests, read backwards

pub in_test : {X : Type 0} (P : X → Type 0) (Q : Type 0) (t : Bool) (x y : X) → P (cond t x y) → (t ≡ true → P x → Q) → (t ≡ false → P y → Q) → Q
in_test P Q true x y p f g = f refl p
in_test P Q false x y p f g = g refl p

pub none_found : {A : Type 0} {E : Type 0} {e : E} → ◌≡◌ {A = Option E} none (some e) → A
none_found h = zero_is_one cc

pub same_found : {E : Type 0} {d e : E} → some d ≡ some e → d ≡ e
same_found h = cc

-- ---- bytes that come before change nothing

pub ends_nothing : (bs : List ℕ) → EndsWith [] bs
ends_nothing bs = record { front = bs; joins = sym (append-nil bs) }

pub ends_later : (a : List ℕ) {end bs : List ℕ} → EndsWith end bs → EndsWith end (a ++ bs)
ends_later a {end} e = record { front = a ++ e.front; joins = ap (λ (l : List ℕ). a ++ l) e.joins ∙ sym (append_assoc a e.front end) }

module _ (F : Family) where
  pub borne_later : (a bs : List ℕ) (t : Told F.Message) → BorneOut F bs t → BorneOut F (a ++ bs) t
  borne_later a bs done b = tt
  borne_later a bs (gives (message m)) b = (b.0, ends_later a b.1)
  borne_later a bs (gives (damage n lost)) b = tt
  borne_later a bs (refuses n) b = tt

-- p is borne out by `pre` and the bytes bs up to the one that settles it, and these end with `last`
pub record Bears (F : Family) (last pre bs : List ℕ) (at : ℕ) (p : Settled (Event F.Message)) : Type 0 where
  pub count : ℕ
  pub used : p.used ≡ at + count
  pub borne : BorneOut F (pre ++ take count bs) (gives p.event)
  pub ends : EndsWith last (pre ++ take count bs)

module _ (F : Family) (last : List ℕ) where
  -- a byte on, where what stands before is seen as `front` and then `on`
  pub bears_on : (front : List ℕ) {pre on bs : List ℕ} {b at : ℕ} {p : Settled (Event F.Message)} → pre ++ (b ∷ []) ≡ front ++ on → Bears F last on bs (at + 1) p → Bears F last pre (b ∷ bs) at p
  bears_on front {pre} {on} {bs} {b} {at} {p} e r =
      let k = r.count in
      let split : pre ++ (b ∷ take k bs) ≡ front ++ (on ++ take k bs) = sym (append_assoc pre (b ∷ []) (take k bs)) ∙ ap (λ (l : List ℕ). l ++ take k bs) e ∙ append_assoc front on (take k bs) in
      let more : at + 1 + k ≡ at + suc k = omega arith in
      record {
        count = suc k;
        used = r.used ∙ more;
        borne = subst (λ (l : List ℕ). BorneOut F l (gives p.event)) (sym split) (borne_later F front (on ++ take k bs) (gives p.event) r.borne);
        ends = subst (EndsWith last) (sym split) (ends_later front r.ends);
      }

  pub bears_at : {pre bs : List ℕ} {m n : ℕ} {p : Settled (Event F.Message)} → m ≡ n → Bears F last pre bs m p → Bears F last pre bs n p
  bears_at {pre} {bs} {m} {n} {p} e r = subst (λ (k : ℕ). Bears F last pre bs k p) e r

  -- from the first byte on
  pub bears_all : {pre bs : List ℕ} {p : Settled (Event F.Message)} → Bears F last pre bs 0 p
      → BorneOut F (pre ++ take p.used bs) (gives p.event) × EndsWith last (pre ++ take p.used bs)
  bears_all {pre} {bs} {p} r =
      subst (λ (n : ℕ). BorneOut F (pre ++ take n bs) (gives p.event) × EndsWith last (pre ++ take n bs)) (sym (r.used ∙ zero-add r.count)) (r.borne, r.ends)
