-- What the rule finds to be a message is that message's frame, and the writer takes it.
-- Assumes nothing.
use Prim.Native.Nat.{ℕ, suc, ◌+◌, ◌≤◌}
use mathlib.Core.Path.{◌≡◌, refl, sym, ap, ap₂, ◌∙◌, subst}
use mathlib.Core.Bool.{Bool, true, false, cond}
use mathlib.Core.Option.{none, some}
use mathlib.Core.List.{List, [], ◌∷◌, ◌++◌}
use lib.ListN.{length, take, drop, get_or, length-drop}
use lib.Seq.{take-suc, length-take-le}
use lib.Dec.{T, eqb, ltb}
use lib.Pow.{are_bytes}
use borrow.Author.Tests.{eqb-true, eqb-false, ltb-false}
use native.Mathlib.Omega.{arith}
use Rattle.numbers.proofs.TestLaws.{both}
use Rattle.stream.specs.Event.{Event, message, damage, gives}
use Rattle.stream.specs.Rule.{Settled}
use Rattle.stream.specs.Demands.{EndsWith, BorneOut}
use Rattle.stream.proofs.BytesOfParts.{bytes_at, bytes_tail, bytes_take, bytes_drop}
use Rattle.stream.proofs.BorneOutByBytes.{in_test, none_found, same_found, ends_nothing, Bears, bears_on, bears_at, bears_all}
use Rattle.fronius.specs.Wire.{Message, Takes, payload_max, mark, checksum, wire, message_of}
use Rattle.fronius.specs.Rules.{judged, frame, sized, starts, sought, rule}
use Rattle.fronius.specs.Demands.{fronius}

abbrev Borne : List ℕ → List ℕ → ℕ → Settled (Event Message) → Type 0
Borne = Bears fronius []

-- three 80
abbrev pub start : List ℕ
start = mark ∷ mark ∷ mark ∷ []

-- ---- a frame: w its body, `sum` the checksum that came

three : (w : List ℕ) → 3 ≤ length w → get_or w 0 0 ∷ get_or w 1 0 ∷ get_or w 2 0 ∷ drop 3 w ≡ w
three [] h = absurd (omega arith)
three (a ∷ []) h = absurd (omega arith)
three (a ∷ b ∷ []) h = absurd (omega arith)
three (a ∷ b ∷ c ∷ w) h = refl

module _ (len : ℕ) (bs : List ℕ) (small : len ≤ payload_max) (long : len + 4 ≤ length bs) (g : T (are_bytes bs)) where
  abbrev w : List ℕ
  w = take (len + 3) bs

  abbrev sum : ℕ
  sum = get_or bs (len + 3) 0

  w_length : length w ≡ len + 3
  w_length = length-take-le (len + 3) bs (omega arith)

  w_data : length (drop 3 w) ≡ len
  w_data = simp length-drop (omega (arith, w_length))

  w_bytes : T (are_bytes w)
  w_bytes = bytes_take (len + 3) bs g

  takes : Takes (message_of w)
  takes = record {
    device = bytes_at w 0 w_bytes;
    number = bytes_at w 1 w_bytes;
    command = bytes_at w 2 w_bytes;
    payload = bytes_drop 3 w w_bytes;
    fits = omega (arith, w_data);
  }

  -- all its bytes, if the sum is right
  stands : sum ≡ checksum (len ∷ w) → start ++ (len ∷ take (len + 4) bs) ≡ wire (message_of w)
  stands e =
      let last : len + 4 ≡ suc (len + 3) = omega arith in
      let parts : take (len + 4) bs ≡ w ++ (sum ∷ []) = ap (λ (n : ℕ). take n bs) last ∙ take-suc bs (len + 3) 0 (omega arith) in
      ap (λ (l : List ℕ). start ++ (len ∷ l)) (parts ∙ ap (λ (n : ℕ). w ++ (n ∷ [])) e)
      ∙ ap₂ (λ (n : ℕ) (l : List ℕ). start ++ (n ∷ (l ++ (checksum (n ∷ l) ∷ [])))) (sym w_data) (sym (three w (omega (arith, w_length))))

  whole : (at : ℕ) → Borne (start ++ (len ∷ [])) bs at (record { event = judged len w sum; used = at + (len + 4) })
  unfolding judged
  whole at = record { count = len + 4; used = refl; borne = go (eqb sum (checksum (len ∷ w))) refl; ends = ends_nothing _ }
    where
      go : (t : Bool) → eqb sum (checksum (len ∷ w)) ≡ t → BorneOut fronius (start ++ (len ∷ take (len + 4) bs)) (gives (cond t (message (message_of w)) (damage 6 (8 + len))))
      go true e = (takes, record { front = []; joins = stands (eqb-true sum (checksum (len ∷ w)) e) })
      go false e = tt

framed : (at len : ℕ) (bs : List ℕ) (p : Settled (Event Message)) → T (are_bytes bs) → len ≤ payload_max → frame at len bs ≡ some p → Borne (start ++ (len ∷ [])) bs at p
unfolding frame
framed at len bs p g small e =
    in_test (λ o. o ≡ some p) (Borne (start ++ (len ∷ [])) bs at p) (ltb (length bs) (len + 4)) none _ e
    (λ t n. none_found n)
    (λ t s. subst (Borne (start ++ (len ∷ [])) bs at) (same_found s) (whole len bs small (ltb-false (length bs) (len + 4) t) g at))

-- ---- after a start, and before one

measured : (bs : List ℕ) (at : ℕ) (p : Settled (Event Message)) → T (are_bytes bs) → sized at bs ≡ some p → Borne start bs at p
unfolding sized
measured [] at p g e = none_found e
measured (b ∷ bs) at p g e =
    let more = bytes_tail b bs g in
    in_test (λ o. o ≡ some p) (Borne start (b ∷ bs) at p) (eqb b mark) _ _ e
    (λ t s. bears_on fronius [] (mark ∷ []) (ap (λ (n : ℕ). start ++ (n ∷ [])) (eqb-true b mark t)) (measured bs (at + 1) p more s))
    (λ t s. in_test (λ o. o ≡ some p) (Borne start (b ∷ bs) at p) (ltb mark b) _ _ s
    (λ u d. subst (Borne start (b ∷ bs) at) (same_found d) (record { count = 1; used = refl; borne = tt; ends = ends_nothing _ }))
    (λ u f. bears_on fronius [] [] refl (framed (at + 1) b bs p more (omega (arith, ltb-false mark b u, eqb-false b mark t)) f)))

two : (bs : List ℕ) → get_or bs 0 0 ≡ mark → get_or bs 1 0 ≡ mark → bs ≡ mark ∷ mark ∷ drop 2 bs
two [] x y = absurd (omega arith)
two (a ∷ []) x y = absurd (omega arith)
two (a ∷ b ∷ bs) x y = ap₂ (λ (m n : ℕ). m ∷ n ∷ bs) x y

-- three 80 stand at the front
pub opened : (b : ℕ) (bs : List ℕ) → starts (b ∷ bs) ≡ true → b ∷ bs ≡ start ++ drop 2 bs
opened b bs e =
    let x = both (eqb b mark) _ e in
    let y = both (eqb (get_or bs 0 0) mark) (eqb (get_or bs 1 0) mark) x.1 in
    ap₂ (λ (n : ℕ) (l : List ℕ). n ∷ l) (eqb-true b mark x.0) (two bs (eqb-true _ _ y.0) (eqb-true _ _ y.1))

found : (bs : List ℕ) (at : ℕ) (p : Settled (Event Message)) → T (are_bytes bs) → sought at bs ≡ some p → Borne [] bs at p
unfolding sought
found [] at p g e = none_found e
found (b ∷ bs) at p g e =
    let more = bytes_tail b bs g in
    in_test (λ o. o ≡ some p) (Borne [] (b ∷ bs) at p) (starts (b ∷ bs)) _ _ e
    (λ t s. subst (λ (l : List ℕ). Borne [] l at p) (sym (opened b bs t))
    (bears_on fronius [] [] refl (bears_on fronius [] [] refl (bears_on fronius [] [] refl
    (bears_at fronius [] (omega arith) (measured (drop 2 bs) (at + 3) p (bytes_drop 2 bs more) s))))))
    (λ t s. bears_on fronius [] (b ∷ []) refl (found bs (at + 1) p more s))

pub borne_out : (bs : List ℕ) → T (are_bytes bs) → (p : Settled (Event Message)) → rule tt bs ≡ some p
    → BorneOut fronius (take p.used bs) (gives p.event) × EndsWith [] (take p.used bs)
borne_out bs g p e = bears_all fronius [] (found bs 0 p g e)
