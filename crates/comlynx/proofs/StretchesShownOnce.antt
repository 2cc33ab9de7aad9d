-- In stretches one after another each is found once, at the flag that closes it.
-- Assumes nothing.
use Prim.Native.Nat.{ℕ, zero, suc, ◌+◌, ◌≤◌}
use mathlib.Core.Path.{◌≡◌, refl, sym, ap, ◌∙◌}
use mathlib.Core.Bool.{true, false}
use mathlib.Core.Option.{Option, none, some}
use mathlib.Core.List.{List, [], ◌∷◌, ◌++◌, append_assoc}
use lib.ListN.{length, drop, length-append, length-drop}
use lib.Seq.{drop-drop, drop_at}
use borrow.Author.Tests.{ne_eqb}
use native.Mathlib.Nat.{add-zero}
use native.Mathlib.Omega.{arith}
use Rattle.stream.specs.Event.{Event}
use Rattle.stream.specs.Rule.{Settled, and_on, first_readings}
use Rattle.stream.specs.Written.{Each}
use Rattle.comlynx.specs.Wire.{Message, flag}
use Rattle.comlynx.specs.Rules.{judge, within, before, rule}
use Rattle.comlynx.specs.Demands.{Stretch, each_closed, each_judged, ShownOnce}
use Rattle.comlynx.proofs.WrittenIsRead.{within_stretch, within_flag}

-- bytes with no flag among them come to nothing
pub within_quiet : (w : List ℕ) → Stretch w → (at : ℕ) (came : List ℕ) → within at came w ≡ none
unfolding within
within_quiet [] k at came = refl
within_quiet (b ∷ w) k at came = rw (ne_eqb b flag k.0) (within_quiet w k.1 (at + 1) (came ++ (b ∷ [])))

pub within_empty : (at : ℕ) (bs : List ℕ) → within at [] (flag ∷ bs) ≡ within (at + 1) [] bs
unfolding within
within_empty at bs = refl

pub before_noise : (w : List ℕ) → Stretch w → (at : ℕ) (bs : List ℕ) → before at (w ++ (flag ∷ bs)) ≡ within (at + length w + 1) [] bs
unfolding before
before_noise [] k at bs = let e : at + 1 ≡ at + 0 + 1 = omega arith in ap (λ (n : ℕ). within n [] bs) e
before_noise (b ∷ w) k at bs =
    let e : at + 1 + length w + 1 ≡ at + suc (length w) + 1 = omega arith in
    rw (ne_eqb b flag k.0) (before_noise w k.1 (at + 1) bs ∙ ap (λ (n : ℕ). within n [] bs) e)

module _ (rest : List ℕ) (quiet : Stretch rest) where
  abbrev bytes : List (List ℕ) → List ℕ
  bytes ws = each_closed ws ++ rest

  -- from a place k bytes into `whole`, where a flag was just seen: what is found, and goes on to be found
  abbrev Shown : List (List ℕ) → Type 0
  Shown ws =
      (n at k : ℕ) (whole : List ℕ) → drop k whole ≡ bytes ws → length whole ≤ suc n
      → and_on at (within k [] (bytes ws)) (λ u. first_readings rule true n true (at + u) (drop u whole)) ≡ each_judged (at + k) ws

  goes_on : (ws : List (List ℕ)) → Shown ws → (n at : ℕ) → length (bytes ws) ≤ n → first_readings rule true n true at (bytes ws) ≡ each_judged at ws
  goes_on [] s zero at h = refl
  goes_on (w ∷ ws) s zero at h = absurd (omega (arith, length-append (w ++ (flag ∷ each_closed ws)) rest, length-append w (flag ∷ each_closed ws)))
  goes_on ws s (suc n) at h = s n at 0 (bytes ws) refl h ∙ ap (λ (m : ℕ). each_judged m ws) (add-zero at)

  each_shown : (ws : List (List ℕ)) → Each Stretch ws → Shown ws
  each_shown [] g n at k whole e h = ap (λ (o : Option (Settled (Event Message))). and_on at o (λ u. first_readings rule true n true (at + u) (drop u whole))) (within_quiet rest quiet k [])
  each_shown ([] ∷ ws) g n at k whole e h =
      let count : at + (k + 1) ≡ at + k + 1 = omega arith in
      ap (λ (o : Option (Settled (Event Message))). and_on at o (λ u. first_readings rule true n true (at + u) (drop u whole))) (within_empty k (bytes ws))
      ∙ each_shown ws g.1 n at (k + 1) whole (sym (drop-drop 1 k whole) ∙ ap (drop 1) e) h
      ∙ ap (λ (m : ℕ). each_judged m ws) count
  each_shown ((b ∷ w) ∷ ws) g n at k whole e h =
      let v : List ℕ = b ∷ w in
      let u = k + length v + 1 in
      let same : bytes (v ∷ ws) ≡ v ++ (flag ∷ bytes ws) = append_assoc v (flag ∷ each_closed ws) rest in
      let first : within k [] (bytes (v ∷ ws)) ≡ some (record { event = judge v; used = u }) =
      ap (within k []) same ∙ within_stretch v g.0 k [] (flag ∷ bytes ws) ∙ within_flag (k + length v) v (bytes ws) (omega arith) in
      let step : u ≡ k + (length v + 1) = omega arith in
      let long : length (v ++ (flag ∷ [])) ≡ length v + 1 = length-append v (flag ∷ []) in
      let dropped : drop u whole ≡ bytes ws =
      ap (λ (m : ℕ). drop m whole) step ∙ sym (drop-drop (length v + 1) k whole) ∙ ap (drop (length v + 1)) (e ∙ same ∙ sym (append_assoc v (flag ∷ []) (bytes ws)))
      ∙ drop_at (v ++ (flag ∷ [])) (bytes ws) (length v + 1) long in
      let fits : length (bytes ws) ≤ n = omega (arith, sym (ap length dropped) ∙ length-drop u whole) in
      let count : at + u ≡ at + k + length v + 1 = omega arith in
      ap (λ (o : Option (Settled (Event Message))). and_on at o (λ j. first_readings rule true n true (at + j) (drop j whole))) first
      ∙ ap {B = List (Settled (Event Message))} (λ ps. record { event = judge v; used = at + u } ∷ ps)
      (ap (first_readings rule true n true (at + u)) dropped ∙ goes_on ws (each_shown ws g.1) n (at + u) fits)
      ∙ ap {B = List (Settled (Event Message))} (λ (m : ℕ). record { event = judge v; used = m } ∷ each_judged m ws) count

pub shown_once : ShownOnce
shown_once noise rest ws k q g =
    let more : List ℕ = each_closed ws ++ rest in
    let all : List ℕ = noise ++ (flag ∷ more) in
    let n = length noise + length more in
    let long : length all ≡ suc n = omega (arith, length-append noise (flag ∷ more)) in
    let start : length (noise ++ (flag ∷ [])) ≡ 0 + length noise + 1 = omega (arith, length-append noise (flag ∷ [])) in
    let left : drop (0 + length noise + 1) all ≡ more =
    ap (drop (0 + length noise + 1)) (sym (append_assoc noise (flag ∷ []) more)) ∙ drop_at (noise ++ (flag ∷ [])) more (0 + length noise + 1) start in
    let count : 0 + (0 + length noise + 1) ≡ length noise + 1 = omega arith in
    ap (λ (m : ℕ). first_readings rule true m false 0 all) long
    ∙ ap (λ (o : Option (Settled (Event Message))). and_on 0 o (λ u. first_readings rule true n true (0 + u) (drop u all))) (before_noise noise k 0 more)
    ∙ each_shown rest q ws g n 0 (0 + length noise + 1) all left (omega arith)
    ∙ ap (λ (m : ℕ). each_judged m ws) count
