-- The bytes lost with a damage are the last of those used.
-- Assumes nothing.
use Prim.Native.Nat.{ℕ, ◌+◌, ◌≤◌}
use mathlib.Core.Path.{◌≡◌, refl, sym, ap, subst}
use mathlib.Core.Logic.{inl, inr}
use mathlib.Core.Bool.{Bool, true, false, cond}
use mathlib.Core.Option.{none, some}
use mathlib.Core.List.{List, [], ◌∷◌, ◌++◌}
use lib.ListN.{length, take, drop, get_or}
use lib.Seq.{length-take-le}
use lib.Dec.{eqb, ltb}
use borrow.Author.Tests.{eqb-true, ltb-true, ltb-false}
use native.Mathlib.Omega.{arith}
use Rattle.stream.specs.Event.{Event, message, damage}
use Rattle.stream.proofs.BorneOutByBytes.{in_test, none_found}
use Rattle.stream.proofs.LostAreLast as Last
use Rattle.stream.proofs.LostAreLast.{hit, found_loses, loses_on, loses_all}
use Rattle.fronius.specs.Wire.{Message, mark, checksum, message_of}
use Rattle.fronius.specs.Rules.{judged, frame, sized, starts, sought}
use Rattle.fronius.specs.Demands.{fronius, LostWith, Lost}
use Rattle.fronius.proofs.AcceptedIsWritten.{start, opened}

-- what is demanded of the frame that is lost, of a damage and of whatever is found
abbrev Loses : List ℕ → List ℕ → (at what n p : ℕ) → Type 0
Loses = Last.Loses fronius LostWith

abbrev LosesBy : List ℕ → List ℕ → (at p : ℕ) → Event Message → Type 0
LosesBy = Last.LosesBy fronius LostWith

-- ---- a whole frame

judged_loses : (at len : ℕ) (bs : List ℕ) → len + 4 ≤ length bs → LosesBy (start ++ (len ∷ [])) bs at (at + (len + 4)) (judged len (take (len + 3) bs) (get_or bs (len + 3) 0))
unfolding judged
judged_loses at len bs long = go (eqb (get_or bs (len + 3) 0) (checksum (len ∷ take (len + 3) bs)))
  where
    go : (t : Bool) → LosesBy (start ++ (len ∷ [])) bs at (at + (len + 4)) (cond t (message (message_of (take (len + 3) bs))) (damage 6 (8 + len)))
    go true = tt
    go false =
        let size = length-take-le (len + 4) bs long in
        record {
          lost_frame = start ++ (len ∷ take (len + 4) bs);
          is = record { starts = refl; counted = omega (arith, size); numbered = inl (refl, refl) };
          ends = record { count = len + 4; used = refl; borne = tt; ends = record { front = []; joins = refl } };
        }

framed : (at len : ℕ) (bs : List ℕ) (n lost p : ℕ) → frame at len bs ≡ some (hit n lost p) → Loses (start ++ (len ∷ [])) bs at n lost p
unfolding frame
framed at len bs n lost p e =
    in_test (λ o. o ≡ some (hit n lost p)) (Loses (start ++ (len ∷ [])) bs at n lost p) (ltb (length bs) (len + 4)) none _ e
    (λ t s. none_found s)
    (λ t s. found_loses _ bs at _ n lost p s (judged_loses at len bs (ltb-false (length bs) (len + 4) t)))

-- ---- after a start, and before one

measured : (bs : List ℕ) (at n lost p : ℕ) → sized at bs ≡ some (hit n lost p) → Loses start bs at n lost p
unfolding sized
measured [] at n lost p e = none_found e
measured (b ∷ bs) at n lost p e =
    in_test (λ o. o ≡ some (hit n lost p)) (Loses start (b ∷ bs) at n lost p) (eqb b mark) _ _ e
    (λ t s. loses_on (mark ∷ []) (ap (λ (x : ℕ). start ++ (x ∷ [])) (eqb-true b mark t)) (measured bs (at + 1) n lost p s))
    (λ t s. in_test (λ o. o ≡ some (hit n lost p)) (Loses start (b ∷ bs) at n lost p) (ltb mark b) _ _ s
    (λ u d. found_loses start (b ∷ bs) at _ n lost p d (record {
      lost_frame = start ++ (b ∷ []);
      is = record { starts = refl; counted = refl; numbered = inr (refl, refl, ltb-true mark b u) };
      ends = record { count = 1; used = refl; borne = tt; ends = record { front = []; joins = refl } };
    }))
    (λ u f. loses_on [] refl (framed (at + 1) b bs n lost p f)))

found : (bs : List ℕ) (at n lost p : ℕ) → sought at bs ≡ some (hit n lost p) → Loses [] bs at n lost p
unfolding sought
found [] at n lost p e = none_found e
found (b ∷ bs) at n lost p e =
    in_test (λ o. o ≡ some (hit n lost p)) (Loses [] (b ∷ bs) at n lost p) (starts (b ∷ bs)) _ _ e
    (λ t s. subst (λ (l : List ℕ). Loses [] l at n lost p) (sym (opened b bs t))
    (loses_on [] refl (loses_on [] refl (loses_on [] refl
    (subst (λ (k : ℕ). Loses start (drop 2 bs) k n lost p) (omega arith) (measured (drop 2 bs) (at + 3) n lost p s))))))
    (λ t s. loses_on (b ∷ []) refl (found bs (at + 1) n lost p s))

pub lost : Lost
lost bs n l p e = loses_all bs n l p (found bs 0 n l p e)
