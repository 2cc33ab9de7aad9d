-- Plain bytes taken into a stretch.
-- Assumes nothing.
use Prim.Native.Nat.{ℕ, zero, suc, ◌+◌, ◌-◌, ◌≤◌, ◌<◌}
use mathlib.Core.Path.{◌≡◌, sym, ap, ap₂, ◌∙◌, subst}
use mathlib.Core.List.{List, append_assoc}
use lib.ListN.{length, get_or, set, take, drop, length-drop}
use lib.Seq.{drop-cons, sets, sets-eq, drop-drop, length-take-le}
use borrow.Rule.Slice.PartMut.{put_mid}
use native.Mathlib.Numerals.{add-one}
use native.Mathlib.Omega.{arith}
use Rattle.stream.specs.Pieces.{scan_from}
use Rattle.stream.proofs.LoopScans.{from_goes}
use Rattle.comlynx.specs.Wire.{flag, escape, body_max}
use Rattle.comlynx.specs.Machine.{inside, more, next}
use Rattle.comlynx.specs.Inside.{Clear, Filled}
use Rattle.comlynx.proofs.StageRanges.{more_most}
use Rattle.comlynx.proofs.MachineMoves.{keeps}

-- none, one, and some after some
pub filled_none : (c : ℕ) (h p : List ℕ) (i : ℕ) → i ≤ length p → c ≤ body_max → Filled c h p i i h
filled_none c h p i hi hc =
    let e : c ≡ c + (i - i) = omega arith in
    record {
      forward = omega arith;
      within = hi;
      room = omega arith;
      goes = λ came most.
          let f : came ≡ more came (i - i) = omega arith in
          ap₂ (λ (r n : ℕ). scan_from next (inside r n h) p i) f e;
    }

pub filled_one : (c : ℕ) (h p : List ℕ) (i : ℕ) → i < length p → c < body_max → Clear flag escape p i (i + 1) → Filled c h p i (i + 1) (set h c (get_or p i 0))
filled_one c h p i hi hc q =
    let e : c + 1 ≡ c + (i + 1 - i) = omega arith in
    record {
      forward = omega arith;
      within = omega arith;
      room = omega arith;
      goes = λ came most.
          let f : more came 1 ≡ more came (i + 1 - i) = omega arith in
          from_goes next (inside came c h) (inside (more came 1) (c + 1) (set h c (get_or p i 0))) p i hi (keeps came c h (get_or p i 0) (q.0 i (omega arith) (omega arith)) (q.1 i (omega arith) (omega arith)) hc)
          ∙ ap₂ (λ (r n : ℕ). scan_from next (inside r n (set h c (get_or p i 0))) p (i + 1)) f e;
    }

pub filled_more : (c : ℕ) (h p : List ℕ) (i : ℕ) (j : ℕ) (k : List ℕ) (d m : ℕ) (l : List ℕ) → d ≡ c + (j - i) → Filled c h p i j k → Filled d k p j m l → Filled c h p i m l
filled_more c h p i j k d m l e f g =
    let n : d + (m - j) ≡ c + (m - i) = omega (arith, f.forward, g.forward) in
    record {
      forward = omega (arith, f.forward, g.forward);
      within = g.within;
      room = omega (arith, g.room);
      goes = λ came most.
          let r = more came (j - i) in
          let o : more r (m - j) ≡ more came (m - i) = omega (arith, f.forward, g.forward) in
          f.goes came most
          ∙ ap (λ (x : ℕ). scan_from next (inside r x k) p j) (sym e)
          ∙ g.goes r (more_most came (j - i))
          ∙ ap₂ (λ (y x : ℕ). scan_from next (inside y x l) p m) o n;
    }

-- a front of what is clear is clear, and so is the rest
front_clear : (p : List ℕ) (i j k : ℕ) → j ≤ k → Clear flag escape p i k → Clear flag escape p i j
front_clear p i j k h q = (λ m x y. q.0 m x (omega arith), λ m x y. q.1 m x (omega arith))

rest_clear : (p : List ℕ) (i j k : ℕ) → i ≤ j → Clear flag escape p i k → Clear flag escape p j k
rest_clear p i j k h q = (λ m x y. q.0 m (omega arith) y, λ m x y. q.1 m (omega arith) y)

-- n of them, one after another
filled_all : (n c : ℕ) (h p : List ℕ) (i : ℕ) → i + n ≤ length p → c + n ≤ body_max → Clear flag escape p i (i + n) → Filled c h p i (i + n) (sets h c (take n (drop i p)))
filled_all zero c h p i hi hc q =
    let e : i ≡ i + 0 = omega arith in
    subst (λ (j : ℕ). Filled c h p i j h) e (filled_none c h p i (omega arith) (omega arith))
filled_all (suc n) c h p i hi hc q =
    let later : List ℕ = sets (set h c (get_or p i 0)) (suc c) (take n (drop (suc i) p)) in
    let end : suc i + n ≡ i + suc n = omega arith in
    let one = subst (λ (j : ℕ). Filled c h p i j (set h c (get_or p i 0))) (add-one i) (filled_one c h p i (omega arith) (omega arith) (front_clear p i (i + 1) (i + suc n) (omega arith) q)) in
    let clear : Clear flag escape p (suc i) (suc i + n) = subst (Clear flag escape p (suc i)) (sym end) (rest_clear p i (suc i) (i + suc n) (omega arith) q) in
    let rest = filled_all n (suc c) (set h c (get_or p i 0)) p (suc i) (omega arith) (omega arith) clear in
    rw (drop-cons p i 0 (omega arith))
    (subst (λ (j : ℕ). Filled c h p i j later) end (filled_more c h p i (suc i) (set h c (get_or p i 0)) (suc c) (suc i + n) later (omega arith) one rest))

-- and all at once
pub filled_copy : (c : ℕ) (h p : List ℕ) (i j k : ℕ) (m : List ℕ) → i ≤ j → j ≤ length p → c + (j - i) ≤ body_max → length h ≡ body_max → Clear flag escape p i j
    → k ≡ j - i → m ≡ take (j - i) (drop i p) → Filled c h p i j (put_mid c k h m)
filled_copy c h p i j k m hi hj hc hh q hk hm =
    let n : ℕ = j - i in
    let e : i + n ≡ j = omega arith in
    let part : List ℕ = take n (drop i p) in
    let long : length part ≡ n = length-take-le n (drop i p) (omega (arith, length-drop i p)) in
    let put : sets h c part ≡ put_mid c k h m =
    sets-eq part h c (omega (arith, long)) ∙ rw (hk, hm, long, drop-drop) (append_assoc (take c h) part (drop (c + n) h)) in
    subst (Filled c h p i j) put (subst (λ (x : ℕ). Filled c h p i x (sets h c part)) e (filled_all n c h p i (omega arith) hc (subst (Clear flag escape p i) (sym e) q)))
