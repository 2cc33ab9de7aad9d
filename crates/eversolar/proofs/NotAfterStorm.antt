-- Behind the front of a frame that nobody finished, the place may never be found again.
-- Assumes nothing.
use Prim.Native.Nat.{ℕ, ◌+◌, ◌≤◌}
use mathlib.Core.Path.{◌≡◌, refl}
use mathlib.Core.Option.{some}
use mathlib.Core.List.{List, [], ◌∷◌, ◌++◌}
use lib.ListN.{length, take, drop, get_or}
use borrow.Author.Tests.{le-ltb}
use native.Mathlib.Omega.{arith}
use Rattle.stream.proofs.AfterStorm as Storm
use Rattle.stream.proofs.AfterStorm.{Swallows, never_read}
use Rattle.eversolar_words.specs.Words.{word, word_bytes}
use Rattle.eversolar.specs.Wire.{checksum, wire, Takes}
use Rattle.eversolar.specs.Rules.{judged, frame, sought}
use Rattle.eversolar.specs.Demands.{eversolar, unfinished, unlucky, NotAfterStorm}
use Rattle.eversolar.proofs.FamilyFacts.{facts}

-- what is left of the message behind the damage: the front of a frame again, as long as the message
abbrev left : List ℕ
left = 0xAA ∷ 0x55 ∷ 0x00 ∷ 0x00 ∷ 0x00 ∷ 0x00 ∷ 0x00 ∷ 0x00 ∷ 0x09 ∷ 0x02 ∷ 0x36 ∷ []

taken : Takes unlucky
taken = record {
  source_first = omega arith;
  source_second = omega arith;
  destination_first = omega arith;
  destination_second = omega arith;
  control = omega arith;
  function = omega arith;
  payload = tt;
  fits = omega arith;
}

-- a frame that is all there is judged
judged_there : (at : ℕ) (bs : List ℕ) → 9 + get_or bs 6 0 ≤ length bs
    → frame at bs ≡ (let n = get_or bs 6 0 in some (record { event = judged (take 6 bs) n (take n (drop 7 bs)) (word (get_or bs (7 + n) 0) (get_or bs (8 + n) 0)); used = at + (9 + n) }))
unfolding frame
judged_there at bs h = rw (le-ltb (length bs) (9 + get_or bs 6 0) h)

first : Swallows eversolar facts tt unfinished unlucky left
unfolding sought judged checksum word word_bytes
first = record {
  number = 6;
  lost = 18;
  used = 18;
  ends = unfold frame in refl;
  finds = λ rest. judged_there 2 (drop 2 (unfinished ++ (wire unlucky ++ rest))) (omega arith);
  leaves = λ rest. refl;
}

again : Swallows eversolar facts tt left unlucky left
unfolding sought judged checksum word word_bytes
again = record {
  number = 6;
  lost = 20;
  used = 20;
  ends = unfold frame in refl;
  finds = λ rest. judged_there 2 (drop 2 (left ++ (wire unlucky ++ rest))) (omega arith);
  leaves = λ rest. refl;
}

pub not_after_storm : NotAfterStorm
not_after_storm =
    let never = never_read eversolar facts unlucky (omega arith) left again unfinished taken tt first in
    record { never_read = never; fails = Storm.not_after_storm eversolar facts unfinished unlucky tt taken (never.1 1) }
