-- The machine finds what the rule finds, in every list of bytes.
-- Assumes nothing.
use Prim.Native.Nat.{ℕ, suc, ◌+◌, ◌≤◌, ◌<◌}
use mathlib.Core.Path.{◌≡◌, refl, sym, ap, ◌∙◌, subst}
use mathlib.Core.Bool.{Bool, true, false, cond}
use mathlib.Core.Option.{Option, none, some}
use mathlib.Core.List.{List, [], ◌∷◌, ◌++◌, append_assoc}
use lib.ListN.{length, take, drop, get_or, set, replicate, length-replicate, length-append, take-append-drop}
use lib.Seq.{sets, length-sets, take_at, drop-cons, length-take-le}
use lib.Dec.{eqb, ltb}
use borrow.Author.Tests.{eqb-true, eqb-false, ltb-true, ltb-false}
use native.Mathlib.Numerals.{add-one}
use native.Mathlib.Nat.{add-suc, suc-add, add-zero}
use native.Mathlib.Omega.{arith}
use Rattle.stream.specs.Event.{Event, damage}
use Rattle.stream.specs.Pieces.{Called}
use Rattle.stream.specs.Rule.{Settled}
use Rattle.stream.proofs.CallsComeTo.{Quiet, quiet_nil, quiet_cons}
use Rattle.stream.proofs.LoopScans.{scan_front}
use Rattle.stream.proofs.WrittenIsGiven.{scan_by}
use Rattle.stream.proofs.ListLaws.{sets_front}
use Rattle.stream.proofs.FollowsByBytes.{Finds, finds_end, finds_goes, finds_tells, finds_call, finds_quiet}
use Rattle.fronius.specs.Wire.{Message, mark}
use Rattle.fronius.specs.Rules.{frame, sized, sought, judged}
use Rattle.fronius.specs.Machine.{counting, filling, on, next}
use Rattle.fronius.specs.declared.reader.Reader.{Reader}
use Rattle.fronius.proofs.MachineMoves.{count_more, count_none, size_mark, size_opens, size_bad, fill_more, fill_ends}

-- a state in which no 80 is counted: here reading begins, and goes on after an event
pub record Rests (s : Reader) : Type 0 where
  pub held : List ℕ
  pub full : length held ≡ 130
  pub is : s ≡ counting 0 held

rests : (h : List ℕ) → length h ≡ 130 → Rests (counting 0 h)
rests h f = record { held = h; full = f; is = refl }

-- ---- the body and its checksum

fill_next : (c len : ℕ) (h : List ℕ) (b : ℕ) → c < 3 + len → next (filling c len h) b ≡ on (filling (suc c) len (set h c b))
fill_next c len h b lt = fill_more c len h b lt ∙ ap (λ (n : ℕ). on (filling n len (set h c b))) (add-one c)

fill : (c len : ℕ) (h bs : List ℕ) → c + length bs ≤ 3 + len → Quiet next (filling c len h) bs (filling (c + length bs) len (sets h c bs))
fill c len h [] f = rw add-zero (quiet_nil (filling c len h))
fill c len h (b ∷ bs) f =
    quiet_cons (fill_next c len h b (omega arith)) (rw (add-suc, ← suc-add) (fill (suc c) len (set h c b) bs (omega arith)))

-- bytes that are not all of a body and its checksum
short : (at len : ℕ) (h bs : List ℕ) → length bs < len + 4 → Finds next Rests at none (filling 0 len h) bs
short at len h bs lt = finds_quiet next Rests (fill 0 len h bs (omega arith))

-- bytes that are: w the body, b the checksum, and others after them
whole : (at len : ℕ) (h w : List ℕ) (b : ℕ) (rest : List ℕ) → length w ≡ 3 + len → len ≤ 127 → length h ≡ 130
    → Finds next Rests at (some (record { event = judged len w b; used = at + (len + 4) })) (filling 0 len h) ((w ++ (b ∷ [])) ++ rest)
whole at len h w b rest e small f =
    let held = sets h 0 w in
    let full : length held ≡ 130 = length-sets h 0 w ∙ f in
    let front : held ≡ w ++ drop (length w) h = sets_front w h (omega arith) in
    let body : take (3 + len) held ≡ w = ap (take (3 + len)) front ∙ take_at w (drop (length w) h) (3 + len) e in
    let last = fill_ends (0 + length w) len held b (omega arith) in
    let call = scan_by next (fill 0 len h w (omega arith)) last in
    let count : length (w ++ (b ∷ [])) ≡ len + 4 = simp length-append (omega arith) in
    let found = scan_front next (filling 0 len h) (w ++ (b ∷ [])) rest (judged len (take (3 + len) held) b) (ap (λ (r : Called Reader (Event Message)). r.event) call) ∙ call in
    subst (λ (l : List ℕ). Finds next Rests at (some (record { event = judged len l b; used = at + (len + 4) })) (filling 0 len h) ((w ++ (b ∷ [])) ++ rest)) body
    (subst (λ (n : ℕ). Finds next Rests at (some (record { event = judged len (take (3 + len) held) b; used = at + n })) (filling 0 len h) ((w ++ (b ∷ [])) ++ rest)) count
    (finds_call next Rests found (rests held full)))

split : (n : ℕ) (bs : List ℕ) → n < length bs → bs ≡ (take n bs ++ (get_or bs n 0 ∷ [])) ++ drop (suc n) bs
split n bs lt =
    sym (take-append-drop n bs) ∙ ap (λ (l : List ℕ). take n bs ++ l) (drop-cons bs n 0 lt) ∙ sym (append_assoc (take n bs) (get_or bs n 0 ∷ []) (drop (suc n) bs))

framed : (at len : ℕ) (h bs : List ℕ) → len ≤ 127 → length h ≡ 130 → Finds next Rests at (frame at len bs) (filling 0 len h) bs
unfolding frame
framed at len h bs small f = go (ltb (length bs) (len + 4)) refl
  where
    go : (t : Bool) → ltb (length bs) (len + 4) ≡ t
        → Finds next Rests at (cond t none (some (record { event = judged len (take (len + 3) bs) (get_or bs (len + 3) 0); used = at + (len + 4) }))) (filling 0 len h) bs
    go true e = short at len h bs (ltb-true (length bs) (len + 4) e)
    go false e =
        let long = ltb-false (length bs) (len + 4) e in
        let found = whole at len h (take (len + 3) bs) (get_or bs (len + 3) 0) (drop (suc (len + 3)) bs) (length-take-le (len + 3) bs (omega arith) ∙ omega arith) small f in
        subst (λ (l : List ℕ). Finds next Rests at (some (record { event = judged len (take (len + 3) bs) (get_or bs (len + 3) 0); used = at + (len + 4) })) (filling 0 len h) l) (sym (split (len + 3) bs (omega arith))) found

-- ---- the length, after three 80

length_found : (at : ℕ) (h bs : List ℕ) → length h ≡ 130 → Finds next Rests at (sized at bs) (counting 3 h) bs
unfolding sized
length_found at h [] f = finds_end next Rests at (counting 3 h)
length_found at h (b ∷ bs) f = go (eqb b mark) (ltb mark b) refl refl (length_found (at + 1) h bs f)
  where
    go : (t u : Bool) → eqb b mark ≡ t → ltb mark b ≡ u → Finds next Rests (at + 1) (sized (at + 1) bs) (counting 3 h) bs
        → Finds next Rests at (cond t (sized (at + 1) bs) (cond u (some (record { event = damage 7 4; used = at + 1 })) (frame (at + 1) b bs))) (counting 3 h) (b ∷ bs)
    go true u e d ih = finds_goes next Rests (ap (next (counting 3 h)) (eqb-true b mark e) ∙ size_mark h) ih
    go false true e d ih = finds_tells next Rests (size_bad h b (ltb-true mark b d)) (rests h f)
    go false false e d ih =
        let lt : b < mark = omega (arith, ltb-false mark b d, eqb-false b mark e) in
        finds_goes next Rests (size_opens h b lt) (framed (at + 1) b h bs (omega arith) f)

-- ---- the three 80: where c of them have come, the rule is at the first of those

-- a byte that is no 80 ends every run of them that stands before it
miss : (at b : ℕ) (bs : List ℕ) → eqb b mark ≡ false → sought at (b ∷ bs) ≡ sought (at + 1) bs
unfolding sought
miss at b bs e = rw e

miss_one : (at b : ℕ) (bs : List ℕ) → eqb b mark ≡ false → sought at (mark ∷ b ∷ bs) ≡ sought (at + 1 + 1) bs
unfolding sought
miss_one at b bs e = rw e

miss_two : (at b : ℕ) (bs : List ℕ) → eqb b mark ≡ false → sought at (mark ∷ mark ∷ b ∷ bs) ≡ sought (at + 1 + 1 + 1) bs
unfolding sought
miss_two at b bs e = rw e

abbrev Sought : ℕ → List ℕ → List ℕ → Type 0
Sought at h bs =
    Finds next Rests at (sought at bs) (counting 0 h) bs
    × Finds next Rests (at + 1) (sought at (mark ∷ bs)) (counting 1 h) bs
    × Finds next Rests (at + 1 + 1) (sought at (mark ∷ mark ∷ bs)) (counting 2 h) bs

found_at : {f : Option (Settled (Event Message))} {s : Reader} {bs : List ℕ} {m n : ℕ} → m ≡ n → Finds next Rests m f s bs → Finds next Rests n f s bs
found_at {f} {s} {bs} e r = subst (λ (k : ℕ). Finds next Rests k f s bs) e r

sought_found : (h : List ℕ) → length h ≡ 130 → (bs : List ℕ) (at : ℕ) → Sought at h bs
unfolding sought
sought_found h f [] at = (finds_end next Rests at (counting 0 h), finds_end next Rests (at + 1) (counting 1 h), finds_end next Rests (at + 1 + 1) (counting 2 h))
sought_found h f (b ∷ bs) at = go (eqb b mark) refl (λ k. sought_found h f bs k)
  where
    go : (t : Bool) → eqb b mark ≡ t → ((k : ℕ) → Sought k h bs) → Sought at h (b ∷ bs)
    go true e ih = subst (λ (x : ℕ). Sought at h (x ∷ bs)) (sym (eqb-true b mark e)) (
      finds_goes next Rests (count_more 0 h (omega arith)) (ih at).1,
      finds_goes next Rests (count_more 1 h (omega arith)) (ih at).2,
      finds_goes next Rests (count_more 2 h (omega arith)) (found_at (omega arith) (length_found (at + 3) h bs f)),
    )
    go false e ih =
        let other = eqb-false b mark e in (
          subst (λ (r : Option (Settled (Event Message))). Finds next Rests at r (counting 0 h) (b ∷ bs)) (sym (miss at b bs e))
              (finds_goes next Rests (count_none 0 h b (omega arith) other) (ih (at + 1)).0),
          subst (λ (r : Option (Settled (Event Message))). Finds next Rests (at + 1) r (counting 1 h) (b ∷ bs)) (sym (miss_one at b bs e))
              (finds_goes next Rests (count_none 1 h b (omega arith) other) (ih (at + 1 + 1)).0),
          subst (λ (r : Option (Settled (Event Message))). Finds next Rests (at + 1 + 1) r (counting 2 h) (b ∷ bs)) (sym (miss_two at b bs e))
              (finds_goes next Rests (count_none 2 h b (omega arith) other) (ih (at + 1 + 1 + 1)).0),
        )

pub rule_found : (s : Reader) → Rests s → (bs : List ℕ) → Finds next Rests 0 (sought 0 bs) s bs
rule_found s r bs = subst (λ (t : Reader). Finds next Rests 0 (sought 0 bs) t bs) (sym r.is) (sought_found r.held r.full bs 0).0

pub fresh_rests : Rests (counting 0 (replicate 130 0))
fresh_rests = rests (replicate 130 0) (length-replicate {A = ℕ} 130 0)
