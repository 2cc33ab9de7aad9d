-- What is demanded of ComLynx, from its facts, and how much is lost with a damage.
-- Assumes nothing.
use Prim.Native.Nat.{ℕ, ◌-◌}
use mathlib.Core.Path.{◌≡◌, refl, subst}
use mathlib.Core.Bool.{Bool, true, false}
use mathlib.Core.Option.{Option, none, some}
use mathlib.Core.List.{List}
use lib.ListN.{length, get_or}
use lib.Dec.{eqb}
use Rattle.answers.specs.Answer.{need}
use Rattle.comlynx_checksum.specs.Checksum.{agrees}
use Rattle.stream.specs.Event.{Event, message, damage}
use Rattle.stream.proofs.Demands.{demands}
use Rattle.comlynx.specs.Wire.{Message, body_least, message_of}
use Rattle.comlynx.specs.Rules.{unstuffed, sized, begins, judged, judged_body, lost_of, judge}
use Rattle.comlynx.specs.Demands.{comlynx, Demanded, Lost}
use Rattle.comlynx.proofs.FamilyFacts.{facts}

pub demanded : Demanded
demanded = demands comlynx facts

-- each damage of a stretch that loses k bytes tells k
abbrev Loses : ℕ → Event Message → Type 0
Loses k (message m) = Unit {0}
Loses k (damage n lost) = lost ≡ k

judged_loses : (k n : ℕ) (right : Bool) (bs : List ℕ) → Loses k (judged k n right bs)
unfolding judged
judged_loses k n right bs = go (sized n) (begins bs) (eqb (get_or bs 6 0) (n - body_least)) right
  where
    go : (f s z r : Bool) → Loses k (need f (damage 3 k) (need s (damage 4 k) (need z (damage 5 k) (need r (damage 6 k) (message (message_of bs))))))
    go false s z r = refl
    go true false z r = refl
    go true true false r = refl
    go true true true false = refl
    go true true true true = tt

body_loses : (k : ℕ) (o : Option (List ℕ)) → Loses k (judged_body k o)
body_loses k none = refl
body_loses k (some bs) = judged_loses k (length bs) (agrees bs) bs

pub lost : Lost
unfolding judge
lost w n k e = subst (Loses (lost_of w)) e (body_loses (lost_of w) (unstuffed false w))
