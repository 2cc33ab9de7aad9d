-- What the rule finds in a slice, by where its flags stand.
-- Assumes nothing.
use Prim.Native.Nat.{ℕ, suc, ◌+◌, ◌-◌, ◌≤◌, ◌<◌}
use mathlib.Core.Path.{◌≡◌, refl, sym, ap, ap₂, ◌∙◌}
use mathlib.Core.Option.{Option, none, some}
use mathlib.Core.List.{List, [], ◌∷◌, ◌++◌, append-nil}
use lib.ListN.{length, drop, get_or, drop_of_length-le}
use lib.Seq.{drop-cons}
use borrow.Author.Tests.{ne_eqb}
use native.Mathlib.Decide.{dec_le}
use native.Mathlib.Numerals.{add-one}
use native.Mathlib.Omega.{arith}
use Rattle.stream.specs.Event.{Event}
use Rattle.stream.specs.Rule.{Settled}
use Rattle.comlynx.specs.Wire.{Message, flag}
use Rattle.comlynx.specs.Rules.{judge, within, before, rule}
use Rattle.comlynx.specs.Slice.{known_at}
use Rattle.comlynx.specs.Demands.{Stretch}
use Rattle.comlynx.specs.Inside.{FirstAt, Opened, PastFlags}
use Rattle.comlynx.proofs.WrittenIsRead.{within_stretch, within_flag}
use Rattle.comlynx.proofs.StretchesShownOnce.{within_quiet, within_empty, before_noise}
use Rattle.comlynx.proofs.SearchedParts.{Without, part, searched_without, part_left, length_part}

abbrev Finding : Type 0
Finding = Option (Settled (Event Message))

-- what is without a flag is a stretch
without_flag : (w : List ℕ) → Without flag w → Stretch w
without_flag [] g = tt
without_flag (b ∷ w) g = (g.0, without_flag w g.1)

-- from an index where a flag stands
flag_at : (s : List ℕ) (r : ℕ) → r < length s → get_or s r 0 ≡ flag → drop r s ≡ flag ∷ drop (suc r) s
flag_at s r h e = drop-cons s r 0 h ∙ ap (λ (b : ℕ). b ∷ drop (suc r) s) e

-- ---- bytes before the first flag

before_quiet : (w : List ℕ) → Stretch w → (at : ℕ) → before at w ≡ none
unfolding before
before_quiet [] g at = refl
before_quiet (b ∷ w) g at = rw (ne_eqb b flag g.0) (before_quiet w g.1 (at + 1))

pub before_searched : (s : List ℕ) (place r : ℕ) → FirstAt flag s place r → before 0 (drop place s) ≡ within (r - place) [] (drop r s)
unfolding within
before_searched s place r f =
    let w : List ℕ = part place r s in
    let stretch : Stretch w = without_flag w (searched_without flag s place r f.0) in
    let split : drop place s ≡ w ++ drop r s = part_left s place r f.0.0 in
    let long : length w ≡ r - place = length_part s place r f.0.0 f.0.1 in
    elim (dec_le (suc r) (length s)) [
      | yes y ↦ (
          let e : 0 + length w + 1 ≡ r - place + 1 = omega (arith, long) in
          ap (before 0) (split ∙ ap (λ (l : List ℕ). w ++ l) (flag_at s r y (f.1 y)))
          ∙ before_noise w stretch 0 (drop (suc r) s)
          ∙ ap (λ (n : ℕ). within n [] (drop (suc r) s)) e
          ∙ sym (ap (within (r - place) []) (flag_at s r y (f.1 y)) ∙ within_empty (r - place) (drop (suc r) s)))
      | no y ↦ (
          let over : drop r s ≡ [] = drop_of_length-le s {i = r} (omega arith) in
          ap (before 0) (split ∙ ap (λ (l : List ℕ). w ++ l) over ∙ append-nil w) ∙ before_quiet w stretch 0 ∙ sym (ap (within (r - place) []) over))
    ]

-- ---- flags side by side

pub flags_more : (s : List ℕ) (from i at : ℕ) → from ≤ i → i < length s → get_or s i 0 ≡ flag
    → within at [] (drop from s) ≡ within (at + (i - from)) [] (drop i s) → within at [] (drop from s) ≡ within (at + (i + 1 - from)) [] (drop (i + 1) s)
flags_more s from i at h j e so =
    let n : at + (i - from) + 1 ≡ at + (i + 1 - from) = omega arith in
    so ∙ ap (within (at + (i - from)) []) (flag_at s i j e) ∙ within_empty (at + (i - from)) (drop (suc i) s)
    ∙ ap₂ (λ (k m : ℕ). within k [] (drop m s)) n (sym (add-one i))

-- ---- a stretch and the flag that closes it

pub some_between : (s : List ℕ) (first close : ℕ) → FirstAt flag s first close → close < length s → (get_or s first 0 ≡ flag → ⊥) → 0 < length (part first close s)
some_between s first close f h n =
    elim (dec_le (suc first) close) [
      | yes y ↦ omega (arith, length_part s first close f.0.0 f.0.1)
      | no y ↦ (let same : close ≡ first = omega (arith, f.0.0) in absurd (n (sym (ap (λ (k : ℕ). get_or s k 0) same) ∙ f.1 h)))
    ]

pub closed_at : (s : List ℕ) (first close at : ℕ) → FirstAt flag s first close → close < length s → (get_or s first 0 ≡ flag → ⊥)
    → within at [] (drop first s) ≡ some (record { event = judge (part first close s); used = at + (close - first) + 1 })
closed_at s first close at f h n =
    ap (within at []) (part_left s first close f.0.0 ∙ ap (λ (l : List ℕ). part first close s ++ l) (flag_at s close h (f.1 h)))
    ∙ within_stretch (part first close s) (without_flag (part first close s) (searched_without flag s first close f.0)) at [] (flag ∷ drop (suc close) s)
    ∙ within_flag (at + length (part first close s)) (part first close s) (drop (suc close) s) (some_between s first close f h n)
    ∙ ap {B = Finding} (λ k. some (record { event = judge (part first close s); used = at + k + 1 })) (length_part s first close f.0.0 f.0.1)

pub not_closed : (s : List ℕ) (first close at : ℕ) → FirstAt flag s first close → length s ≤ close → within at [] (drop first s) ≡ none
not_closed s first close at f h =
    ap (within at []) (part_left s first close f.0.0 ∙ ap (λ (l : List ℕ). part first close s ++ l) (drop_of_length-le s h) ∙ append-nil (part first close s))
    ∙ within_quiet (part first close s) (without_flag (part first close s) (searched_without flag s first close f.0)) at []

-- ---- from a place to the stretch that is judged

-- what the rule finds from the place is what is found from the index behind the flags
pub from_first : (s : List ℕ) (place flags first : ℕ) → Opened s place flags → PastFlags s flags first → rule (known_at s place) (drop place s) ≡ within (first - place) [] (drop first s)
from_first s place flags first o p =
    let e : flags - place + (first - flags) ≡ first - place = omega (arith, o.0, p.0) in
    o.2 ∙ p.2 (flags - place) ∙ ap (λ (n : ℕ). within n [] (drop first s)) e

-- and so what the rule finds: nothing where no flag closes a stretch, else that stretch, judged
pub none_found : (s : List ℕ) (place flags first close : ℕ) → Opened s place flags → PastFlags s flags first → FirstAt flag s first close → length s ≤ close
    → rule (known_at s place) (drop place s) ≡ none
none_found s place flags first close o p f h = from_first s place flags first o p ∙ not_closed s first close (first - place) f h

pub one_found : (s : List ℕ) (place flags first close : ℕ) → Opened s place flags → PastFlags s flags first → FirstAt flag s first close → close < length s
    → rule (known_at s place) (drop place s) ≡ some (record { event = judge (part first close s); used = close + 1 - place })
one_found s place flags first close o p f h =
    let e : first - place + (close - first) + 1 ≡ close + 1 - place = omega (arith, o.0, p.0, f.0.0) in
    from_first s place flags first o p
    ∙ closed_at s first close (first - place) f h (p.3 (omega (arith, f.0.0)))
    ∙ ap {B = Finding} (λ n. some (record { event = judge (part first close s); used = n })) e
