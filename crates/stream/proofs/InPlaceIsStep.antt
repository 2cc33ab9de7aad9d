-- A step over lent held bytes is a step: a state whose held bytes are all there is in range where `inRange` says so, one with more or fewer never.
-- Assumes nothing.
use Prim.Native.Nat.{ℕ}
use mathlib.Core.Path.{◌≡◌, refl, ap, ◌∙◌}
use mathlib.Core.Bool.{Bool, true, false}
use mathlib.Core.List.{List}
use lib.ListN.{length}
use lib.Dec.{eqb}
use borrow.Author.Tests.{eq-eqb, ne_eqb, eqb-true}
use Rattle.numbers.proofs.TestLaws.{both}
use Rattle.stream.specs.Event.{Event, refuses}
use Rattle.stream.specs.Pieces.{Moved}
use Rattle.stream.specs.Call.{Seen, called, delivered, retells, Steps, whole}
use Rattle.stream.specs.Demands.{InPlace}

module _ {S : Type 0} (held : S → List ℕ) (full : ℕ) (in_range : S → Bool) where
  pub whole_sound : (s : S) → whole held full in_range s ≡ true → (length (held s) ≡ full) × (in_range s ≡ true)
  whole_sound s e =
      let h = both (eqb (length (held s)) full) (in_range s) e in
      (eqb-true (length (held s)) full h.0, h.1)

  pub whole_full : (s : S) → length (held s) ≡ full → whole held full in_range s ≡ in_range s
  whole_full s e = rw (eq-eqb (length (held s)) full e)

  module _ {M H R : Type 0} (next : S → ℕ → Moved S (Event M)) (header : M → H) (payload : M → List ℕ) (shown : R → Seen S H) where
    same_call : (s : S) (piece lent : List ℕ) → length (held s) ≡ full → called next (whole held full in_range) s piece lent ≡ called next in_range s piece lent
    same_call s piece lent e = rw (eq-eqb (length (held s)) full e)

    pub in_place_is_step : (s : S) (piece lent later : List ℕ) (r : R) → length (held s) ≡ full
        → Steps next (whole held full in_range) header payload shown s piece lent r later → Steps next in_range header payload shown s piece lent r later
    in_place_is_step s piece lent later r e st = (
      st.0 ∙ ap (retells header) (same_call s piece lent e),
      st.1 ∙ ap (λ (c : Seen S M). delivered payload c.told lent) (same_call s piece lent e),
      λ i. (whole_sound (shown r).state (st.2 (whole_full s e ∙ i))).1,
    )

    all_there : (s : S) (piece lent later : List ℕ) (r : R) → length (held s) ≡ full → Steps next (whole held full in_range) header payload shown s piece lent r later
        → length (held (shown r).state) ≡ full
    all_there s piece lent later r e st = go (in_range s) refl
      where
        go : (t : Bool) → in_range s ≡ t → length (held (shown r).state) ≡ full
        go true i = (whole_sound (shown r).state (st.2 (whole_full s e ∙ i))).0
        go false i =
            let same : (called next (whole held full in_range) s piece lent).state ≡ s = rw (whole_full s e ∙ i) in
            ap (λ (v : Seen S H). length (held v.state)) st.0 ∙ ap (λ (t : S). length (held t)) same ∙ e

    others_spoilt : (s : S) (piece lent later : List ℕ) (r : R) → (length (held s) ≡ full → ⊥) → Steps next (whole held full in_range) header payload shown s piece lent r later
        → ((shown r).told ≡ refuses 18) × ((shown r).state ≡ s) × ((shown r).used ≡ 0) × (later ≡ lent)
    others_spoilt s piece lent later r n st =
        let q = rw (ne_eqb (length (held s)) full n) at st in
        (ap (λ (v : Seen S H). v.told) q.0, ap (λ (v : Seen S H). v.state) q.0, ap (λ (v : Seen S H). v.used) q.0, q.1)

module _ {S M : Type 0} (next : S → ℕ → Moved S (Event M)) where
  pub in_place : InPlace next
  in_place H R in_range held full header payload shown s piece lent later r st = (
    λ e. (in_place_is_step held full in_range next header payload shown s piece lent later r e st, all_there held full in_range next header payload shown s piece lent later r e st),
    λ n. others_spoilt held full in_range next header payload shown s piece lent later r n st,
  )
