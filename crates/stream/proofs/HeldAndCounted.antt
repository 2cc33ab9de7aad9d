-- What a reader has of bytes that may be more than it has room for: the first of them, and how many they are, up to a number that stands for itself
-- or more.
-- Assumes nothing.
use Prim.Native.Nat.{ℕ, min, ◌+◌, ◌-◌, ◌≤◌, ◌<◌}
use mathlib.Core.Path.{◌≡◌, sym, ap, ap₂, ◌∙◌}
use mathlib.Core.List.{List, [], ◌∷◌, ◌++◌}
use lib.ListN.{length, take, set, replicate, length-append, length-replicate, length-set}
use lib.Seq.{length-take-le, take_all, take-nil, take-append-le, take-suc-set}
use native.Mathlib.Nat.{lt_of_not-le}
use native.Mathlib.Decide.{dec_le}
use native.Mathlib.Numerals.{add-one}
use native.Mathlib.Omega.{arith}

-- of the bytes `came` the first are held, as far as there is room, and `count` is how many came, `most` standing for that or more
pub record Holds (room most count : ℕ) (held came : List ℕ) : Type 0 where
  pub wide : length held ≡ room
  pub counted : count ≡ min (length came) most
  pub same : take (min count room) held ≡ take room came

module _ (room most : ℕ) (above : room < most) where
  pub holds_none : (held : List ℕ) → length held ≡ room → Holds room most 0 held []
  holds_none held w =
      let none : min 0 room ≡ 0 = omega arith in
      record { wide = w; counted = omega arith; same = ap (λ (i : ℕ). take i held) none ∙ sym (take-nil room) }

  -- one more, while there is room
  pub holds_kept : (count : ℕ) (held came : List ℕ) (b : ℕ) → count < room → Holds room most count held came
      → Holds room most (count + 1) (set held count b) (came ++ (b ∷ []))
  holds_kept count held came b lt h =
      let e : length (came ++ (b ∷ [])) ≡ length came + 1 = length-append came (b ∷ []) in
      let now : min count room ≡ count = omega arith in
      let then : min (count + 1) room ≡ count + 1 = omega arith in
      record {
        wide = length-set held count b ∙ h.wide;
        counted = omega (arith, e, h.counted);
        same =
            ap (λ (i : ℕ). take i (set held count b)) (then ∙ add-one count)
            ∙ take-suc-set held count b (omega (arith, h.wide))
            ∙ ap (λ (l : List ℕ). l ++ (b ∷ [])) (ap (λ (i : ℕ). take i held) (sym now) ∙ h.same ∙ take_all room came (omega (arith, h.counted)))
            ∙ sym (take_all room (came ++ (b ∷ [])) (omega (arith, e, h.counted)));
      }

  -- one more than there is room for
  pub holds_over : (count : ℕ) (held came : List ℕ) (b : ℕ) → room ≤ count → Holds room most count held came
      → Holds room most (min (count + 1) most) held (came ++ (b ∷ []))
  holds_over count held came b le h =
      let e : length (came ++ (b ∷ [])) ≡ length came + 1 = length-append came (b ∷ []) in
      let now : min count room ≡ room = omega arith in
      let then : min (min (count + 1) most) room ≡ room = omega arith in
      record {
        wide = h.wide;
        counted = omega (arith, e, h.counted);
        same = ap (λ (i : ℕ). take i held) (then ∙ sym now) ∙ h.same ∙ sym (take-append-le room came (b ∷ []) (omega (arith, h.counted)));
      }

  -- if there was room for all of them, all are held; else as many are counted as say so
  pub holds_all : (count : ℕ) (held came : List ℕ) → length came ≤ room → Holds room most count held came → (count ≡ length came) × (take count held ≡ came)
  holds_all count held came le h =
      let now : count ≡ min count room = omega (arith, h.counted) in
      (omega (arith, h.counted), ap (λ (i : ℕ). take i held) now ∙ h.same ∙ take_all room came le)

  pub holds_too_many : (count : ℕ) (held came : List ℕ) → room < length came → Holds room most count held came → room < count
  holds_too_many count held came lt h = omega (arith, h.counted)

  -- whatever is held and counted, in a forged state too, there are bytes that come to it
  pub holds_some : (count : ℕ) (held : List ℕ) → length held ≡ room → count ≤ most → (came : List ℕ) × Holds room most count held came
  holds_some count held w le =
      elim (dec_le count room) [
        | yes y ↦ (
            let n : length (take count held) ≡ count = length-take-le count held (omega arith) in
            let now : min count room ≡ count = omega arith in
            (take count held, record { wide = w; counted = omega arith; same = ap (λ (i : ℕ). take i held) now ∙ sym (take_all room (take count held) (omega arith)) }))
        | no y ↦ (
            let more : List ℕ = replicate (count - room) 0 in
            let over : room < count = lt_of_not-le y in
            let n : length (held ++ more) ≡ room + (count - room) = length-append held more ∙ ap₂ ◌+◌ w (length-replicate {A = ℕ} (count - room) 0) in
            let now : min count room ≡ room = omega arith in
            (held ++ more, record { wide = w; counted = omega arith; same = ap (λ (i : ℕ). take i held) now ∙ sym (take-append-le room held more (omega arith)) }))
      ]
