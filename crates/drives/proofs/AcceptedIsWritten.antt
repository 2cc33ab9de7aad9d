-- What the rule finds to be a message is that message's frame, and the writer takes it.
-- Assumes nothing.
use Prim.Native.Nat.{ℕ, zero, suc, ◌+◌, ◌-◌, ◌/◌, ◌%◌, ◌≤◌}
use mathlib.Core.Path.{◌≡◌, refl, sym, ap, ap₂, ◌∙◌, subst}
use mathlib.Core.Bool.{Bool, true, false}
use mathlib.Core.Option.{some}
use mathlib.Core.List.{List, [], ◌∷◌, ◌++◌}
use lib.ListN.{length, take, drop, get_or, length-take, length-drop, take-append-drop, drop_of_length-le}
use lib.Seq.{drop-cons}
use lib.Dec.{T, eqb, leb}
use lib.Pow.{are_bytes}
use borrow.Author.Tests.{eqb-true, leb-true}
use native.Mathlib.Numerals.{add-one}
use native.Mathlib.Omega.{arith}
use Rattle.numbers.proofs.TestLaws.{both}
use Rattle.answers.specs.Answer.{need}
use Rattle.stream.specs.Event.{Event, message, damage, gives}
use Rattle.stream.specs.Rule.{Settled}
use Rattle.stream.specs.Demands.{EndsWith, BorneOut}
use Rattle.stream.proofs.BorneOutByBytes.{in_test, none_found, same_found, ends_nothing, Bears, bears_on, bears_all}
use Rattle.drives.specs.Wire.{Message, Takes, eot, opens, is_hex, all_hex, is_letter, proper, frame_least, frame_most, covered, checksum, hex_digit, sum_of, wire, message_of}
use Rattle.drives.specs.Rules.{sized, agrees, judged, frame_length, judge, within, sought, rule}
use Rattle.drives.specs.Demands.{drives}
use Rattle.drives.proofs.FrameLimits.{longest}

abbrev Borne : List ℕ → List ℕ → ℕ → Settled (Event Message) → Type 0
Borne = Bears drives []

-- ---- the tests of a frame: cs stands between its opening byte and its EOT

-- a frame of a right length is counted to its end
length_bounds : (opening : ℕ) (cs : List ℕ) → sized opening (frame_length cs) ≡ true → (frame_least ≤ length cs + 2) × (length cs + 2 ≤ frame_most opening)
unfolding sized
length_bounds opening cs e =
    let q = both (leb frame_least (frame_length cs)) (leb (frame_length cs) (frame_most opening)) e in
    let least = leb-true frame_least (frame_length cs) q.0 in
    let most = leb-true (frame_length cs) (frame_most opening) q.1 in
    (omega arith, omega (arith, longest opening))

hex_take : (n : ℕ) (cs : List ℕ) → all_hex cs ≡ true → all_hex (take n cs) ≡ true
hex_take zero cs e = refl
hex_take (suc n) [] e = refl
hex_take (suc n) (c ∷ cs) e = let q = both (is_hex c) (all_hex cs) e in rw (q.0, hex_take n cs q.1)

-- where the sets hold of all of a frame, they hold without its sum
proper_covered : (opening : ℕ) (cs : List ℕ) → proper cs ≡ true → proper (covered (message_of opening cs)) ≡ true
unfolding proper
proper_covered opening cs e =
    let q = both (is_hex (get_or cs 0 0)) _ e in
    let r = both (is_hex (get_or cs 1 0)) _ q.1 in
    let s = both (is_letter (get_or cs 2 0)) (all_hex (drop 3 cs)) r.1 in
    rw (q.0, r.0, s.0, hex_take (length cs - 5) (drop 3 cs) s.1)

-- the sum that came is that of the characters before it
two_left : (l : List ℕ) (k : ℕ) → length l ≡ k + 2 → drop k l ≡ get_or l k 0 ∷ get_or l (k + 1) 0 ∷ []
two_left l k e =
    drop-cons l k 0 (omega arith)
    ∙ ap (λ (t : List ℕ). get_or l k 0 ∷ t)
    (drop-cons l (suc k) 0 (omega arith)
    ∙ ap₂ (λ (i : ℕ) (t : List ℕ). get_or l i 0 ∷ t) (sym (add-one k)) (drop_of_length-le l {i = suc (suc k)} (omega arith)))

sum_came : (cs : List ℕ) → 2 ≤ length cs → agrees cs ≡ true → cs ≡ take (length cs - 2) cs ++ sum_of (take (length cs - 2) cs)
unfolding agrees
sum_came cs long e =
    let k = length cs - 2 in
    let sum = checksum (take k cs) in
    let q = both (eqb (get_or cs k 0) (hex_digit (sum / 16))) (eqb (get_or cs (k + 1) 0) (hex_digit (sum % 16))) e in
    sym (take-append-drop k cs)
    ∙ ap (λ (t : List ℕ). take k cs ++ t)
    (two_left cs k (omega arith) ∙ ap₂ (λ (x y : ℕ). x ∷ y ∷ []) (eqb-true _ _ q.0) (eqb-true _ _ q.1))

take_three : (k : ℕ) (cs : List ℕ) → 3 ≤ length cs → take (suc (suc (suc k))) cs ≡ get_or cs 0 0 ∷ get_or cs 1 0 ∷ get_or cs 2 0 ∷ take k (drop 3 cs)
take_three k [] h = absurd (omega arith)
take_three k (a ∷ []) h = absurd (omega arith)
take_three k (a ∷ b ∷ []) h = absurd (omega arith)
take_three k (a ∷ b ∷ c ∷ cs) h = refl

-- ---- so a frame that is judged a message is that message's frame

module _ (opening : ℕ) (cs : List ℕ) (o : opens opening ≡ true) (s : sized opening (frame_length cs) ≡ true) (p : proper cs ≡ true) (a : agrees cs ≡ true) where
  abbrev told : Message
  told = message_of opening cs

  takes : Takes told
  takes =
      let b = length_bounds opening cs s in
      record {
        opening = o;
        proper = proper_covered opening cs p;
        fits = omega (arith, b, length-take (length cs - 5) (drop 3 cs), length-drop 3 cs);
      }

  covered_is : take (length cs - 2) cs ≡ covered told
  covered_is =
      let b = length_bounds opening cs s in
      let k : length cs - 2 ≡ suc (suc (suc (length cs - 5))) = omega arith in
      ap (λ (n : ℕ). take n cs) k ∙ take_three (length cs - 5) cs (omega arith)

  stands : opening ∷ (cs ++ (eot ∷ [])) ≡ wire told
  stands =
      let b = length_bounds opening cs s in
      ap (λ (l : List ℕ). opening ∷ (l ++ (eot ∷ []))) (sum_came cs (omega arith) a ∙ ap (λ (l : List ℕ). l ++ sum_of l) covered_is)

judged_borne : (opening : ℕ) (cs : List ℕ) → opens opening ≡ true → BorneOut drives (opening ∷ (cs ++ (eot ∷ []))) (gives (judge opening cs))
unfolding judged
judged_borne opening cs o = go (sized opening (frame_length cs)) (proper cs) (agrees cs) refl refl refl
  where
    go : (t u v : Bool) → sized opening (frame_length cs) ≡ t → proper cs ≡ u → agrees cs ≡ v
        → BorneOut drives (opening ∷ (cs ++ (eot ∷ []))) (gives (need t (damage 3 (frame_length cs)) (need u (damage 21 (frame_length cs)) (need v (damage 6 (frame_length cs)) (message (message_of opening cs))))))
    go true true true s p a = (takes opening cs o s p a, record { front = []; joins = stands opening cs o s p a })
    go true true false s p a = tt
    go true false v s p a = tt
    go false u v s p a = tt

-- ---- in a frame, and before one

inside : (bs : List ℕ) (at opening : ℕ) (came : List ℕ) (p : Settled (Event Message)) → opens opening ≡ true → within at opening came bs ≡ some p → Borne (opening ∷ came) bs at p
unfolding within
inside [] at opening came p o e = none_found e
inside (b ∷ bs) at opening came p o e =
    in_test (λ r. r ≡ some p) (Borne (opening ∷ came) (b ∷ bs) at p) (eqb b eot) _ _ e
    (λ t s. subst (Borne (opening ∷ came) (b ∷ bs) at) (same_found s) (ended (eqb-true b eot t)))
    (λ t s. bears_on drives [] [] refl (inside bs (at + 1) opening (came ++ (b ∷ [])) p o s))
  where
    ended : b ≡ eot → Borne (opening ∷ came) (b ∷ bs) at (record { event = judge opening came; used = at + 1 })
    ended t = record {
      count = 1;
      used = refl;
      borne = subst (λ (n : ℕ). BorneOut drives (opening ∷ (came ++ (n ∷ []))) (gives (judge opening came))) (sym t) (judged_borne opening came o);
      ends = ends_nothing _;
    }

found : (bs : List ℕ) (at : ℕ) (p : Settled (Event Message)) → sought at bs ≡ some p → Borne [] bs at p
unfolding sought
found [] at p e = none_found e
found (b ∷ bs) at p e =
    in_test (λ r. r ≡ some p) (Borne [] (b ∷ bs) at p) (opens b) _ _ e
    (λ t s. bears_on drives [] [] refl (inside bs (at + 1) b [] p t s))
    (λ t s. bears_on drives [] (b ∷ []) refl (found bs (at + 1) p s))

pub borne_out : (bs : List ℕ) → T (are_bytes bs) → (p : Settled (Event Message)) → rule tt bs ≡ some p
    → BorneOut drives (take p.used bs) (gives p.event) × EndsWith [] (take p.used bs)
borne_out bs g p e = bears_all drives [] (found bs 0 p e)
