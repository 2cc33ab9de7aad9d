-- Behind the front of a frame that nobody finished, the place may never be found again.
-- Assumes nothing.
use Prim.Native.Nat.{ℕ, ◌+◌, ◌≤◌}
use mathlib.Core.Path.{◌≡◌, refl}
use mathlib.Core.Option.{some}
use mathlib.Core.List.{List, [], ◌∷◌, ◌++◌}
use lib.ListN.{length, take, drop, get_or}
use borrow.Author.Tests.{le-ltb}
use native.Mathlib.Omega.{arith}
use Rattle.stream.proofs.AfterStorm as Storm
use Rattle.stream.proofs.AfterStorm.{Swallows, never_read}
use Rattle.fronius.specs.Wire.{checksum, wire, Takes}
use Rattle.fronius.specs.Rules.{judged, frame, sized, sought}
use Rattle.fronius.specs.Demands.{fronius, unfinished, unlucky, NotAfterStorm}
use Rattle.fronius.proofs.FamilyFacts.{facts}

-- what is left of the message behind the damage: the front of a frame again, as long as the message
abbrev left : List ℕ
left = 0x80 ∷ 0x80 ∷ 0x80 ∷ 0x04 ∷ 0x9B ∷ []

taken : Takes unlucky
taken = record { device = omega arith; number = omega arith; command = omega arith; payload = tt; fits = omega arith }

-- a frame that is all there is judged
judged_there : (at len : ℕ) (bs : List ℕ) → len + 4 ≤ length bs
    → frame at len bs ≡ some (record { event = judged len (take (len + 3) bs) (get_or bs (len + 3) 0); used = at + (len + 4) })
unfolding frame
judged_there at len bs h = rw (le-ltb (length bs) (len + 4) h)

first : Swallows fronius facts tt unfinished unlucky left
unfolding sought sized judged checksum
first = record {
  number = 6;
  lost = 11;
  used = 11;
  ends = unfold frame in refl;
  finds = λ rest. judged_there 4 3 (drop 4 (unfinished ++ (wire unlucky ++ rest))) (omega arith);
  leaves = λ rest. refl;
}

again : Swallows fronius facts tt left unlucky left
unfolding sought sized judged checksum
again = record {
  number = 6;
  lost = 12;
  used = 12;
  ends = unfold frame in refl;
  finds = λ rest. judged_there 4 4 (drop 4 (left ++ (wire unlucky ++ rest))) (omega arith);
  leaves = λ rest. refl;
}

pub not_after_storm : NotAfterStorm
not_after_storm =
    let never = never_read fronius facts unlucky (omega arith) left again unfinished taken tt first in
    record { never_read = never; fails = Storm.not_after_storm fronius facts unfinished unlucky tt taken (never.1 1) }
