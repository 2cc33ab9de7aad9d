-- The bytes lost with a damage are the last of those used.
-- Assumes nothing.
use Prim.Native.Nat.{ℕ, ◌+◌, ◌≤◌}
use mathlib.Core.Path.{◌≡◌, refl, sym, ap, subst}
use mathlib.Core.Bool.{Bool, true, false, cond}
use mathlib.Core.Option.{none, some}
use mathlib.Core.List.{List, [], ◌∷◌, ◌++◌}
use lib.ListN.{length, take, drop, get_or}
use lib.Seq.{get_or-take, length-take-le}
use lib.Dec.{eqb, ltb}
use borrow.Author.Tests.{ltb-false}
use native.Mathlib.Omega.{arith}
use Rattle.stream.specs.Event.{Event, message, damage}
use Rattle.stream.proofs.BorneOutByBytes.{in_test, none_found}
use Rattle.stream.proofs.LostAreLast as Last
use Rattle.stream.proofs.LostAreLast.{hit, found_loses, loses_on, loses_all}
use Rattle.eversolar_words.specs.Words.{word}
use Rattle.eversolar.specs.Wire.{Message, earlier_of, checksum, message_of}
use Rattle.eversolar.specs.Rules.{judged, frame, opens, sought}
use Rattle.eversolar.specs.Demands.{eversolar, LostWith, Lost}
use Rattle.eversolar.proofs.AcceptedIsWritten.{start, opened}

-- what is demanded of the frame that is lost, of a damage and of whatever is found
abbrev Loses : List ℕ → List ℕ → (at what n p : ℕ) → Type 0
Loses = Last.Loses eversolar LostWith

abbrev LosesBy : List ℕ → List ℕ → (at p : ℕ) → Event Message → Type 0
LosesBy = Last.LosesBy eversolar LostWith

-- ---- a whole frame: what stands behind AA 55

module _ (bs : List ℕ) (long : 9 + get_or bs 6 0 ≤ length bs) (at : ℕ) where
  abbrev n : ℕ
  n = get_or bs 6 0

  abbrev payload : List ℕ
  payload = take n (drop 7 bs)

  abbrev came : ℕ
  came = word (get_or bs (7 + n) 0) (get_or bs (8 + n) 0)

  judged_loses : LosesBy start bs at (at + (9 + n)) (judged (take 6 bs) n payload came)
  unfolding judged
  judged_loses = go (eqb came (checksum (earlier_of (take 6 bs) n payload)))
    where
      go : (t : Bool) → LosesBy start bs at (at + (9 + n)) (cond t (message (message_of (take 6 bs) payload)) (damage 6 (11 + n)))
      go true = tt
      go false =
          let size = length-take-le (9 + n) bs long in
          let same : get_or (take (9 + n) bs) 6 0 ≡ n = get_or-take (9 + n) bs 6 0 (omega arith) in
          record {
            lost_frame = start ++ take (9 + n) bs;
            is = record { starts = refl; counted = omega (arith, size); numbered = (refl, ap (λ (k : ℕ). 11 + k) (sym same)) };
            ends = record { count = 9 + n; used = refl; borne = tt; ends = record { front = []; joins = refl } };
          }

framed : (at : ℕ) (bs : List ℕ) (n lost p : ℕ) → frame at bs ≡ some (hit n lost p) → Loses start bs at n lost p
unfolding frame
framed at bs n lost p e =
    in_test (λ o. o ≡ some (hit n lost p)) (Loses start bs at n lost p) (ltb (length bs) (9 + get_or bs 6 0)) none _ e
    (λ t s. none_found s)
    (λ t s. found_loses start bs at _ n lost p s (judged_loses bs (ltb-false (length bs) (9 + get_or bs 6 0) t) at))

-- ---- AA directly followed by 55, and what stands before it

found : (bs : List ℕ) (at n lost p : ℕ) → sought at bs ≡ some (hit n lost p) → Loses [] bs at n lost p
unfolding sought
found [] at n lost p e = none_found e
found (b ∷ bs) at n lost p e =
    in_test (λ o. o ≡ some (hit n lost p)) (Loses [] (b ∷ bs) at n lost p) (opens (b ∷ bs)) _ _ e
    (λ t s. subst (λ (l : List ℕ). Loses [] l at n lost p) (sym (opened b bs t))
    (loses_on [] refl (loses_on [] refl (subst (λ (k : ℕ). Loses start (drop 1 bs) k n lost p) (omega arith) (framed (at + 2) (drop 1 bs) n lost p s)))))
    (λ t s. loses_on (b ∷ []) refl (found bs (at + 1) n lost p s))

pub lost : Lost
lost bs n l p e = loses_all bs n l p (found bs 0 n l p e)
