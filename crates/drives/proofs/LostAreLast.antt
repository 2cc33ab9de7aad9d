-- The bytes lost with a damage are the last of those used.
-- Assumes nothing.
use Prim.Native.Nat.{ℕ, ◌+◌}
use mathlib.Core.Path.{◌≡◌, refl, sym, subst}
use mathlib.Core.Bool.{Bool, true, false}
use mathlib.Core.Option.{some}
use mathlib.Core.List.{List, [], ◌∷◌, ◌++◌}
use lib.ListN.{length-append}
use lib.Dec.{eqb}
use borrow.Author.Tests.{eqb-true}
use native.Mathlib.Omega.{arith}
use Rattle.answers.specs.Answer.{need}
use Rattle.stream.specs.Event.{Event, message, damage}
use Rattle.stream.proofs.BorneOutByBytes.{in_test, none_found}
use Rattle.stream.proofs.LostAreLast as Last
use Rattle.stream.proofs.LostAreLast.{hit, found_loses, loses_on, loses_all}
use Rattle.drives.specs.Wire.{Message, eot, opens, proper, message_of}
use Rattle.drives.specs.Rules.{sized, agrees, judged, frame_length, judge, within, sought}
use Rattle.drives.specs.Demands.{drives, LostWith, Lost}

-- what is demanded of the frame that is lost, of a damage and of whatever is found
abbrev Loses : List ℕ → List ℕ → (at what n p : ℕ) → Type 0
Loses = Last.Loses drives (λ what. LostWith)

abbrev LosesBy : List ℕ → List ℕ → (at p : ℕ) → Event Message → Type 0
LosesBy = Last.LosesBy drives (λ what. LostWith)

-- ---- a whole frame

module _ (opening : ℕ) (came : List ℕ) (opened : opens opening ≡ true) (bs : List ℕ) (at : ℕ) where
  -- each of its damages loses all of it
  all_lost : (n : ℕ) → Loses (opening ∷ came) (eot ∷ bs) at n (frame_length came) (at + 1)
  all_lost n =
      let size = length-append came (eot ∷ []) in
      record {
        lost_frame = opening ∷ (came ++ (eot ∷ []));
        is = record { opening = opening; came = came; opens = opened; is = refl; counted = omega (arith, size) };
        ends = record { count = 1; used = refl; borne = tt; ends = record { front = []; joins = refl } };
      }

  judged_loses : LosesBy (opening ∷ came) (eot ∷ bs) at (at + 1) (judge opening came)
  unfolding judged
  judged_loses = go (sized opening (frame_length came)) (proper came) (agrees came)
    where
      go : (t u v : Bool)
          → LosesBy (opening ∷ came) (eot ∷ bs) at (at + 1) (need t (damage 3 (frame_length came)) (need u (damage 21 (frame_length came)) (need v (damage 6 (frame_length came)) (message (message_of opening came)))))
      go true true true = tt
      go true true false = all_lost 6
      go true false v = all_lost 21
      go false u v = all_lost 3

-- ---- in a frame, and before one

inside : (bs : List ℕ) (at opening : ℕ) (came : List ℕ) (n lost p : ℕ) → opens opening ≡ true → within at opening came bs ≡ some (hit n lost p) → Loses (opening ∷ came) bs at n lost p
unfolding within
inside [] at opening came n lost p o e = none_found e
inside (b ∷ bs) at opening came n lost p o e =
    in_test (λ r. r ≡ some (hit n lost p)) (Loses (opening ∷ came) (b ∷ bs) at n lost p) (eqb b eot) _ _ e
    (λ t s. subst (λ (x : ℕ). Loses (opening ∷ came) (x ∷ bs) at n lost p) (sym (eqb-true b eot t))
    (found_loses (opening ∷ came) (eot ∷ bs) at _ n lost p s (judged_loses opening came o bs at)))
    (λ t s. loses_on [] refl (inside bs (at + 1) opening (came ++ (b ∷ [])) n lost p o s))

found : (bs : List ℕ) (at n lost p : ℕ) → sought at bs ≡ some (hit n lost p) → Loses [] bs at n lost p
unfolding sought
found [] at n lost p e = none_found e
found (b ∷ bs) at n lost p e =
    in_test (λ r. r ≡ some (hit n lost p)) (Loses [] (b ∷ bs) at n lost p) (opens b) _ _ e
    (λ t s. loses_on [] refl (inside bs (at + 1) b [] n lost p t s))
    (λ t s. loses_on (b ∷ []) refl (found bs (at + 1) n lost p s))

pub lost : Lost
lost bs n l p e = loses_all bs n l p (found bs 0 n l p e)
