-- What the rule finds to be a message is that message's frame, and the writer takes it.
-- Assumes nothing.
use Prim.Native.Nat.{ℕ, suc, ◌+◌, ◌≤◌}
use mathlib.Core.Path.{◌≡◌, refl, sym, ap, ap₂, ◌∙◌, subst}
use mathlib.Core.Bool.{Bool, true, false, cond}
use mathlib.Core.Option.{none, some}
use mathlib.Core.List.{List, [], ◌∷◌, ◌++◌, append_assoc}
use lib.ListN.{length, take, drop, get_or, length-drop}
use lib.Seq.{take-suc, take-add, length-take-le, get_or-drop}
use lib.Dec.{T, eqb, ltb}
use lib.Pow.{are_bytes}
use borrow.Author.Tests.{eqb-true, ltb-false}
use native.Mathlib.Omega.{arith}
use Rattle.numbers.proofs.TestLaws.{both}
use Rattle.stream.specs.Event.{Event, message, damage, gives}
use Rattle.stream.specs.Rule.{Settled}
use Rattle.stream.specs.Demands.{EndsWith, BorneOut}
use Rattle.stream.proofs.BytesOfParts.{bytes_at, bytes_tail, bytes_take, bytes_drop}
use Rattle.stream.proofs.BorneOutByBytes.{in_test, none_found, same_found, ends_nothing, Bears, bears_on, bears_at, bears_all}
use Rattle.eversolar_words.specs.Words.{word, word_bytes}
use Rattle.eversolar_words.proofs.WordLaws.{word_parts}
use Rattle.eversolar.specs.Wire.{Message, Takes, first_mark, second_mark, earlier_of, checksum, wire, message_of}
use Rattle.eversolar.specs.Rules.{judged, frame, opens, sought, rule}
use Rattle.eversolar.specs.Demands.{eversolar}

abbrev Borne : List ℕ → List ℕ → ℕ → Settled (Event Message) → Type 0
Borne = Bears eversolar []

abbrev pub start : List ℕ
start = first_mark ∷ second_mark ∷ []

-- ---- a frame: what stands behind AA 55

six_of_lem : (w : List ℕ) → length w ≡ 6 → get_or w 0 0 ∷ get_or w 1 0 ∷ get_or w 2 0 ∷ get_or w 3 0 ∷ get_or w 4 0 ∷ get_or w 5 0 ∷ [] ≡ w
six_of_lem [] h = absurd (omega arith)
six_of_lem (a ∷ []) h = absurd (omega arith)
six_of_lem (a ∷ b ∷ []) h = absurd (omega arith)
six_of_lem (a ∷ b ∷ c ∷ []) h = absurd (omega arith)
six_of_lem (a ∷ b ∷ c ∷ d ∷ []) h = absurd (omega arith)
six_of_lem (a ∷ b ∷ c ∷ d ∷ e ∷ []) h = absurd (omega arith)
six_of_lem (a ∷ b ∷ c ∷ d ∷ e ∷ f ∷ []) h = refl
six_of_lem (a ∷ b ∷ c ∷ d ∷ e ∷ f ∷ x ∷ w) h = absurd (omega arith)

-- two bytes behind the first n
two_more : (n : ℕ) (l : List ℕ) → n + 2 ≤ length l → take (n + 2) l ≡ take n l ++ (get_or l n 0 ∷ get_or l (n + 1) 0 ∷ [])
two_more n l h =
    let last : n + 2 ≡ suc (n + 1) = omega arith in
    let one : n + 1 ≡ suc n = omega arith in
    ap (λ (k : ℕ). take k l) last ∙ take-suc l (n + 1) 0 (omega arith)
    ∙ ap (λ (k : List ℕ). k ++ (get_or l (n + 1) 0 ∷ [])) (ap (λ (k : ℕ). take k l) one ∙ take-suc l n 0 (omega arith))
    ∙ append_assoc (take n l) (get_or l n 0 ∷ []) (get_or l (n + 1) 0 ∷ [])

module _ (bs : List ℕ) (long : 9 + get_or bs 6 0 ≤ length bs) (g : T (are_bytes bs)) where
  abbrev n : ℕ
  n = get_or bs 6 0

  abbrev six : List ℕ
  six = take 6 bs

  abbrev payload : List ℕ
  payload = take n (drop 7 bs)

  abbrev first : ℕ
  first = get_or bs (7 + n) 0

  abbrev second : ℕ
  second = get_or bs (8 + n) 0

  payload_length : length payload ≡ n
  payload_length = length-take-le n (drop 7 bs) (simp length-drop (omega arith))

  takes : Takes (message_of six payload)
  takes =
      let good : T (are_bytes six) = bytes_take 6 bs g in
      record {
        source_first = bytes_at six 0 good;
        source_second = bytes_at six 1 good;
        destination_first = bytes_at six 2 good;
        destination_second = bytes_at six 3 good;
        control = bytes_at six 4 good;
        function = bytes_at six 5 good;
        payload = bytes_take n (drop 7 bs) (bytes_drop 7 bs g);
        fits = omega (arith, payload_length, bytes_at bs 6 g);
      }

  parts : take (9 + n) bs ≡ (six ++ (n ∷ payload)) ++ (first ∷ second ∷ [])
  parts =
      let count : 9 + n ≡ 7 + (n + 2) = omega arith in
      let beside : 7 + (n + 1) ≡ 8 + n = omega arith in
      let rest : take (n + 2) (drop 7 bs) ≡ payload ++ (first ∷ second ∷ []) =
      two_more n (drop 7 bs) (simp length-drop (omega arith))
      ∙ ap₂ (λ (x y : ℕ). payload ++ (x ∷ y ∷ [])) (get_or-drop 7 bs n 0) (get_or-drop 7 bs (n + 1) 0 ∙ ap (λ (k : ℕ). get_or bs k 0) beside) in
      ap (λ (k : ℕ). take k bs) count ∙ take-add 7 (n + 2) bs
      ∙ ap₂ (λ (a b : List ℕ). a ++ b) (take-suc bs 6 0 (omega arith)) rest
      ∙ append_assoc six (n ∷ []) (payload ++ (first ∷ second ∷ []))
      ∙ sym (append_assoc six (n ∷ payload) (first ∷ second ∷ []))

  -- all its bytes, if the sum is right
  stands : word first second ≡ checksum (earlier_of six n payload) → start ++ take (9 + n) bs ≡ wire (message_of six payload)
  stands e =
      let sum : first ∷ second ∷ [] ≡ word_bytes (checksum (earlier_of six n payload)) = sym (word_parts first second (bytes_at bs (7 + n) g) (bytes_at bs (8 + n) g)) ∙ ap word_bytes e in
      ap (λ (l : List ℕ). start ++ l) (parts ∙ ap (λ (l : List ℕ). (six ++ (n ∷ payload)) ++ l) sum)
      ∙ ap₂ (λ (l : List ℕ) (k : ℕ). earlier_of l k payload ++ word_bytes (checksum (earlier_of l k payload))) (sym (six_of_lem six (length-take-le 6 bs (omega arith)))) (sym payload_length)

  whole : (at : ℕ) → Borne start bs at (record { event = judged six n payload (word first second); used = at + (9 + n) })
  unfolding judged
  whole at = record { count = 9 + n; used = refl; borne = go (eqb (word first second) (checksum (earlier_of six n payload))) refl; ends = ends_nothing _ }
    where
      go : (t : Bool) → eqb (word first second) (checksum (earlier_of six n payload)) ≡ t
          → BorneOut eversolar (start ++ take (9 + n) bs) (gives (cond t (message (message_of six payload)) (damage 6 (11 + n))))
      go true e = (takes, record { front = []; joins = stands (eqb-true _ _ e) })
      go false e = tt

framed : (at : ℕ) (bs : List ℕ) (p : Settled (Event Message)) → T (are_bytes bs) → frame at bs ≡ some p → Borne start bs at p
unfolding frame
framed at bs p g e =
    in_test (λ o. o ≡ some p) (Borne start bs at p) (ltb (length bs) (9 + get_or bs 6 0)) none _ e
    (λ t n. none_found n)
    (λ t s. subst (Borne start bs at) (same_found s) (whole bs (ltb-false (length bs) (9 + get_or bs 6 0) t) g at))

-- ---- AA directly followed by 55, and what stands before it

one : (bs : List ℕ) → get_or bs 0 0 ≡ second_mark → bs ≡ second_mark ∷ drop 1 bs
one [] x = absurd (omega arith)
one (a ∷ bs) x = ap (λ (k : ℕ). k ∷ bs) x

pub opened : (b : ℕ) (bs : List ℕ) → opens (b ∷ bs) ≡ true → b ∷ bs ≡ start ++ drop 1 bs
opened b bs e =
    let x = both (eqb b first_mark) (eqb (get_or bs 0 0) second_mark) e in
    ap₂ (λ (k : ℕ) (l : List ℕ). k ∷ l) (eqb-true b first_mark x.0) (one bs (eqb-true _ _ x.1))

found : (bs : List ℕ) (at : ℕ) (p : Settled (Event Message)) → T (are_bytes bs) → sought at bs ≡ some p → Borne [] bs at p
unfolding sought
found [] at p g e = none_found e
found (b ∷ bs) at p g e =
    let more = bytes_tail b bs g in
    in_test (λ o. o ≡ some p) (Borne [] (b ∷ bs) at p) (opens (b ∷ bs)) _ _ e
    (λ t s. subst (λ (l : List ℕ). Borne [] l at p) (sym (opened b bs t))
    (bears_on eversolar [] [] refl (bears_on eversolar [] [] refl (bears_at eversolar [] (omega arith) (framed (at + 2) (drop 1 bs) p (bytes_drop 1 bs more) s)))))
    (λ t s. bears_on eversolar [] (b ∷ []) refl (found bs (at + 1) p more s))

pub borne_out : (bs : List ℕ) → T (are_bytes bs) → (p : Settled (Event Message)) → rule tt bs ≡ some p
    → BorneOut eversolar (take p.used bs) (gives p.event) × EndsWith [] (take p.used bs)
borne_out bs g p e = bears_all eversolar [] (found bs 0 p g e)
