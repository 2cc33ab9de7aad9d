-- How a family shows which bytes a damage loses: byte by byte, those up to the one that settles it end with the frame that is lost.
-- Assumes nothing.
use Prim.Native.Nat.{ℕ, ◌+◌}
use mathlib.Core.Path.{◌≡◌, subst}
use mathlib.Core.Option.{some}
use mathlib.Core.List.{List, [], ◌∷◌, ◌++◌}
use lib.ListN.{take}
use Rattle.stream.specs.Event.{Event, message, damage}
use Rattle.stream.specs.Rule.{Settled}
use Rattle.stream.specs.Family.{Family}
use Rattle.stream.specs.Demands.{EndsWith}
use Rattle.stream.proofs.BorneOutByBytes.{same_found, Bears, bears_on, bears_all}

-- a damage of n bytes that is settled after p
abbrev pub hit : {M : Type 0} → (what n p : ℕ) → Settled (Event M)
hit what n p = record { event = damage what n; used = p }

-- `pre`, the last of the `at` bytes used before, and the bytes bs up to the one that settles the damage end with a frame, of which `With` says
-- that it is lost
pub record Loses (F : Family) (With : (what n : ℕ) → List ℕ → Type 0) (pre bs : List ℕ) (at what n p : ℕ) : Type 0 where
  pub lost_frame : List ℕ
  pub is : With what n lost_frame
  pub ends : Bears F lost_frame pre bs at (hit what n p)

-- the same of whatever is found: with a message nothing is lost
abbrev pub LosesBy : (F : Family) → ((what n : ℕ) → List ℕ → Type 0) → List ℕ → List ℕ → (at p : ℕ) → Event F.Message → Type 0
LosesBy F With pre bs at p (message m) = Unit {0}
LosesBy F With pre bs at p (damage what n) = Loses F With pre bs at what n p

module _ {F : Family} {With : (what n : ℕ) → List ℕ → Type 0} where
  pub found_loses : (pre bs : List ℕ) (at : ℕ) (q : Settled (Event F.Message)) (what n p : ℕ) → some q ≡ some (hit what n p)
      → LosesBy F With pre bs at q.used q.event → Loses F With pre bs at what n p
  found_loses pre bs at q what n p e l = subst (λ (r : Settled (Event F.Message)). LosesBy F With pre bs at r.used r.event) (same_found e) l

  -- a byte on, where what stands before is seen as `front` and then `on`
  pub loses_on : (front : List ℕ) {pre on bs : List ℕ} {b at what n p : ℕ} → pre ++ (b ∷ []) ≡ front ++ on → Loses F With on bs (at + 1) what n p
      → Loses F With pre (b ∷ bs) at what n p
  loses_on front e r = record { lost_frame = r.lost_frame; is = r.is; ends = bears_on F r.lost_frame front e r.ends }

  -- from the first byte on: the bytes used end with the frame that is lost
  pub loses_all : (bs : List ℕ) (what n p : ℕ) → Loses F With [] bs 0 what n p → (frame : List ℕ) × With what n frame × EndsWith frame (take p bs)
  loses_all bs what n p r = (r.lost_frame, r.is, (bears_all F r.lost_frame r.ends).1)
