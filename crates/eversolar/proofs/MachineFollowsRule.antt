-- The machine finds what the rule finds, in every list of bytes.
-- Assumes nothing.
use Prim.Native.Nat.{ℕ, zero, suc, ◌+◌, ◌≤◌, ◌<◌}
use mathlib.Core.Path.{◌≡◌, refl, sym, ap, ◌∙◌, subst}
use mathlib.Core.Bool.{Bool, true, false, cond, ◌&&◌}
use mathlib.Core.Option.{Option, none, some}
use mathlib.Core.List.{List, [], ◌∷◌, ◌++◌, append_assoc}
use lib.ListN.{length, take, drop, get_or, set, replicate, length-replicate, length-append, length-drop, take-append-drop}
use lib.Seq.{sets, length-sets, take_at, drop_at, take-append-le, drop-cons, length-take-le, take-add, take-take, get_or-take, get_or-drop}
use lib.Dec.{T, eqb, ltb}
use lib.Pow.{are_bytes}
use borrow.Author.Tests.{eqb-true, ltb-true, ltb-false}
use native.Mathlib.Numerals.{add-one}
use native.Mathlib.Nat.{add-suc, suc-add, add-zero}
use native.Mathlib.Omega.{arith}
use Rattle.stream.specs.Event.{Event}
use Rattle.stream.specs.Pieces.{Called}
use Rattle.stream.specs.Rule.{Settled}
use Rattle.stream.proofs.BytesOfParts.{bytes_head, bytes_tail}
use Rattle.stream.proofs.CallsComeTo.{Quiet, quiet_nil, quiet_cons, quiet_append}
use Rattle.stream.proofs.LoopScans.{scan_front}
use Rattle.stream.proofs.WrittenIsGiven.{scan_by}
use Rattle.stream.proofs.ListLaws.{sets_append, sets_front}
use Rattle.stream.proofs.FollowsByBytes.{Finds, finds_end, finds_goes, finds_call, finds_quiet}
use Rattle.eversolar_words.specs.Words.{word}
use Rattle.eversolar.specs.Wire.{Message, payload_max, first_mark, second_mark}
use Rattle.eversolar.specs.Rules.{frame, sought, judged}
use Rattle.eversolar.specs.Machine.{looking, holding, held_max, looked_of, most, on, tells, next}
use Rattle.eversolar.specs.declared.reader.Reader.{Reader}
use Rattle.eversolar.proofs.StageRanges.{most_lead, most_body}
use Rattle.eversolar.proofs.MachineMoves.{look_on, keep_more, size_comes, body_ends}

-- a state in which no AA is seen: here reading begins, and goes on after an event
pub record Rests (s : Reader) : Type 0 where
  pub held : List ℕ
  pub full : length held ≡ held_max
  pub is : s ≡ looking 0 held

rests : (h : List ℕ) → length h ≡ held_max → Rests (looking 0 h)
rests h f = record { held = h; full = f; is = refl }

-- ---- bytes that are kept

keep_next : (stage c len : ℕ) (h : List ℕ) (b : ℕ) → 2 ≤ stage → c < most stage len → next (holding stage c len h) b ≡ on (holding stage (suc c) len (set h c b))
keep_next stage c len h b s lt = keep_more stage c len h b s lt ∙ ap (λ (n : ℕ). on (holding stage n len (set h c b))) (add-one c)

keep : (stage c len : ℕ) (h bs : List ℕ) → 2 ≤ stage → c + length bs ≤ most stage len → Quiet next (holding stage c len h) bs (holding stage (c + length bs) len (sets h c bs))
keep stage c len h [] s f = rw add-zero (quiet_nil (holding stage c len h))
keep stage c len h (b ∷ bs) s f =
    quiet_cons (keep_next stage c len h b s (omega arith)) (rw (add-suc, ← suc-add) (keep stage (suc c) len (set h c b) bs s (omega arith)))

keep_lead : (h bs : List ℕ) → length bs ≤ 6 → Quiet next (holding 2 0 0 h) bs (holding 2 (0 + length bs) 0 (sets h 0 bs))
keep_lead h bs le = keep 2 0 0 h bs (omega arith) (omega (arith, most_lead 0))

-- six bytes, n, and w after them, as far as it is kept
kept : (h six w : List ℕ) (n : ℕ) → length six ≡ 6 → length w ≤ n + 1 → Quiet next (holding 2 0 0 h) (six ++ (n ∷ w)) (holding 3 (7 + length w) n (sets h 0 (six ++ (n ∷ w))))
kept h six w n s f =
    let first : Quiet next (holding 2 0 0 h) six (holding 2 6 0 (sets h 0 six)) = subst (λ (k : ℕ). Quiet next (holding 2 0 0 h) six (holding 2 k 0 (sets h 0 six))) (omega arith) (keep_lead h six (omega arith)) in
    let rest = keep 3 7 n (set (sets h 0 six) 6 n) w (omega arith) (omega (arith, most_body n)) in
    let at : 0 + length six ≡ 6 = omega arith in
    let same : sets (set (sets h 0 six) 6 n) 7 w ≡ sets h 0 (six ++ (n ∷ w)) = ap (λ (k : ℕ). sets (sets h 0 six) k (n ∷ w)) (sym at) ∙ sets_append h 0 six (n ∷ w) in
    quiet_append first (quiet_cons (size_comes (sets h 0 six) n) (subst (λ (l : List ℕ). Quiet next (holding 3 7 n (set (sets h 0 six) 6 n)) w (holding 3 (7 + length w) n l)) same rest))

-- ---- a frame: w are its data and the first byte of its checksum, y is the second, and others come after them

module _ (h six w : List ℕ) (n : ℕ) (s : length six ≡ 6) (e : length w ≡ n + 1) (small : n ≤ payload_max) (f : length h ≡ held_max) where
  abbrev all : List ℕ
  all = six ++ (n ∷ w)

  abbrev held : List ℕ
  held = sets h 0 all

  long : length all ≡ 8 + n
  long = simp length-append (omega arith)

  held_is : held ≡ six ++ (n ∷ (w ++ drop (length all) h))
  held_is = sets_front all h (omega (arith, long)) ∙ append_assoc six (n ∷ w) (drop (length all) h)

  held_six : take 6 held ≡ six
  held_six = ap (take 6) held_is ∙ take_at six (n ∷ (w ++ drop (length all) h)) 6 s

  held_rest : drop 7 held ≡ w ++ drop (length all) h
  held_rest =
      let on-to : drop 7 held ≡ drop 7 ((six ++ (n ∷ [])) ++ (w ++ drop (length all) h)) = ap (drop 7) (held_is ∙ sym (append_assoc six (n ∷ []) (w ++ drop (length all) h))) in
      on-to ∙ drop_at (six ++ (n ∷ [])) (w ++ drop (length all) h) 7 (simp length-append (omega arith))

  held_data : take n (drop 7 held) ≡ take n w
  held_data = ap (take n) held_rest ∙ take-append-le n w (drop (length all) h) (omega arith)

  held_sum : get_or held (7 + n) 0 ≡ get_or w n 0
  held_sum = sym (get_or-drop 7 held n 0) ∙ ap (λ (l : List ℕ). get_or l n 0) held_rest ∙ sym (get_or-take (n + 1) (w ++ drop (length all) h) n 0 (omega arith)) ∙ ap (λ (l : List ℕ). get_or l n 0) (take_at w (drop (length all) h) (n + 1) e)

  ends : (y : ℕ) → next (holding 3 (7 + length w) n held) y ≡ tells (judged six n (take n w) (word (get_or w n 0) y)) held
  ends y =
      let count : 7 + length w ≡ 8 + n = omega arith in
      ap (λ (c : ℕ). next (holding 3 c n held) y) count ∙ body_ends n held y
      ∙ ap (λ (l : List ℕ). tells (judged l n (take n (drop 7 held)) (word (get_or held (7 + n) 0) y)) held) held_six
      ∙ ap (λ (l : List ℕ). tells (judged six n l (word (get_or held (7 + n) 0) y)) held) held_data
      ∙ ap (λ (x : ℕ). tells (judged six n (take n w) (word x y)) held) held_sum

  whole : (at y : ℕ) (rest : List ℕ)
      → Finds next Rests at (some (record { event = judged six n (take n w) (word (get_or w n 0) y); used = at + (9 + n) })) (holding 2 0 0 h) ((all ++ (y ∷ [])) ++ rest)
  whole at y rest =
      let event = judged six n (take n w) (word (get_or w n 0) y) in
      let call = scan_by next (kept h six w n s (omega arith)) (ends y) in
      let count : length (all ++ (y ∷ [])) ≡ 9 + n = simp length-append (omega arith) in
      let found = scan_front next (holding 2 0 0 h) (all ++ (y ∷ [])) rest event (ap (λ (r : Called Reader (Event Message)). r.event) call) ∙ call in
      subst (λ (k : ℕ). Finds next Rests at (some (record { event = event; used = at + k })) (holding 2 0 0 h) ((all ++ (y ∷ [])) ++ rest)) count
      (finds_call next Rests found (rests held (length-sets h 0 all ∙ f)))

-- bytes that are not all of a frame
short : (at : ℕ) (h bs : List ℕ) → length bs < 9 + get_or bs 6 0 → (t : Bool) → ltb (length bs) 7 ≡ t → Finds next Rests at none (holding 2 0 0 h) bs
short at h bs lt true e = finds_quiet next Rests (keep_lead h bs (omega (arith, ltb-true (length bs) 7 e)))
short at h bs lt false e =
    let long = ltb-false (length bs) 7 e in
    let n = get_or bs 6 0 in
    let split : bs ≡ take 6 bs ++ (n ∷ drop 7 bs) = sym (take-append-drop 6 bs) ∙ ap (λ (l : List ℕ). take 6 bs ++ l) (drop-cons bs 6 0 long) in
    let quiet = kept h (take 6 bs) (drop 7 bs) n (length-take-le 6 bs (omega arith)) (simp length-drop (omega arith)) in
    subst (λ (l : List ℕ). Finds next Rests at none (holding 2 0 0 h) l) (sym split) (finds_quiet next Rests quiet)

-- the bytes of a frame, by their places
parts : (n : ℕ) (bs : List ℕ) → 8 + n < length bs → get_or bs 6 0 ≡ n → bs ≡ ((take 6 bs ++ (n ∷ take (n + 1) (drop 7 bs))) ++ (get_or bs (8 + n) 0 ∷ [])) ++ drop (suc (8 + n)) bs
parts n bs lt e =
    let two : 8 + n ≡ 6 + suc (n + 1) = omega arith in
    let first : take (8 + n) bs ≡ take 6 bs ++ (n ∷ take (n + 1) (drop 7 bs)) =
    ap (λ (k : ℕ). take k bs) two ∙ take-add 6 (suc (n + 1)) bs ∙ ap (λ (l : List ℕ). take 6 bs ++ take (suc (n + 1)) l) (drop-cons bs 6 0 (omega arith))
    ∙ ap (λ (x : ℕ). take 6 bs ++ (x ∷ take (n + 1) (drop 7 bs))) e in
    sym (take-append-drop (8 + n) bs) ∙ ap (λ (l : List ℕ). take (8 + n) bs ++ l) (drop-cons bs (8 + n) 0 lt)
    ∙ sym (append_assoc (take (8 + n) bs) (get_or bs (8 + n) 0 ∷ []) (drop (suc (8 + n)) bs))
    ∙ ap (λ (l : List ℕ). (l ++ (get_or bs (8 + n) 0 ∷ [])) ++ drop (suc (8 + n)) bs) first

framed : (at : ℕ) (h bs : List ℕ) → get_or bs 6 0 ≤ payload_max → length h ≡ held_max → Finds next Rests at (frame at bs) (holding 2 0 0 h) bs
unfolding frame
framed at h bs small f = go (ltb (length bs) (9 + get_or bs 6 0)) refl
  where
    go : (t : Bool) → ltb (length bs) (9 + get_or bs 6 0) ≡ t
        → Finds next Rests at (cond t none (some (record { event = judged (take 6 bs) (get_or bs 6 0) (take (get_or bs 6 0) (drop 7 bs)) (word (get_or bs (7 + get_or bs 6 0) 0) (get_or bs (8 + get_or bs 6 0) 0)); used = at + (9 + get_or bs 6 0) }))) (holding 2 0 0 h) bs
    go true e = short at h bs (ltb-true (length bs) (9 + get_or bs 6 0) e) (ltb (length bs) 7) refl
    go false e =
        let n = get_or bs 6 0 in
        let long = ltb-false (length bs) (9 + n) e in
        let w : List ℕ = take (n + 1) (drop 7 bs) in
        let y = get_or bs (8 + n) 0 in
        let size : length w ≡ n + 1 = length-take-le (n + 1) (drop 7 bs) (simp length-drop (omega arith)) in
        let found = whole h (take 6 bs) w n (length-take-le 6 bs (omega arith)) size small f at y (drop (suc (8 + n)) bs) in
        let payload : take n w ≡ take n (drop 7 bs) = take-take n (n + 1) (drop 7 bs) (omega arith) in
        let low : get_or w n 0 ≡ get_or bs (7 + n) 0 = get_or-take (n + 1) (drop 7 bs) n 0 (omega arith) ∙ get_or-drop 7 bs n 0 in
        subst (λ (l : List ℕ). Finds next Rests at (some (record { event = judged (take 6 bs) n (take n (drop 7 bs)) (word (get_or bs (7 + n) 0) y); used = at + (9 + n) })) (holding 2 0 0 h) l) (sym (parts n bs (omega arith) refl))
        (subst (λ (x : ℕ). Finds next Rests at (some (record { event = judged (take 6 bs) n (take n (drop 7 bs)) (word x y); used = at + (9 + n) })) (holding 2 0 0 h) (((take 6 bs ++ (n ∷ w)) ++ (y ∷ [])) ++ drop (suc (8 + n)) bs)) low
        (subst (λ (l : List ℕ). Finds next Rests at (some (record { event = judged (take 6 bs) n l (word (get_or w n 0) y); used = at + (9 + n) })) (holding 2 0 0 h) (((take 6 bs ++ (n ∷ w)) ++ (y ∷ [])) ++ drop (suc (8 + n)) bs)) payload found))

-- ---- AA directly followed by 55: where AA was the byte before, the rule is at that

byte_at : (i : ℕ) (bs : List ℕ) → T (are_bytes bs) → get_or bs i 0 ≤ payload_max
byte_at i [] g = omega arith
byte_at zero (b ∷ bs) g = omega (arith, bytes_head b bs g)
byte_at (suc i) (b ∷ bs) g = byte_at i bs (bytes_tail b bs g)

-- a byte that is no AA ends what stands before it, unless it is the 55 after an AA
miss : (at b : ℕ) (bs : List ℕ) → eqb b first_mark ≡ false → sought at (b ∷ bs) ≡ sought (at + 1) bs
unfolding sought
miss at b bs e = rw e

miss_one : (at b : ℕ) (bs : List ℕ) → eqb b first_mark ≡ false → eqb b second_mark ≡ false → sought at (first_mark ∷ b ∷ bs) ≡ sought (at + 1 + 1) bs
unfolding sought
miss_one at b bs e d = rw (d, e)

look_mark : (stage : ℕ) (h : List ℕ) → stage < 2 → next (looking stage h) first_mark ≡ on (looking 1 h)
unfolding looked_of
look_mark stage h lt = look_on stage 1 0 0 h first_mark lt (go (eqb stage 1))
  where
    go : (t : Bool) → ◌≡◌ {A = ℕ} (cond (t && false) 2 1) 1
    go true = refl
    go false = refl

look_opens : (h : List ℕ) → next (looking 1 h) second_mark ≡ on (holding 2 0 0 h)
unfolding looked_of
look_opens h = look_on 1 2 0 0 h second_mark (omega arith) refl

look_other : (h : List ℕ) (b : ℕ) → eqb b first_mark ≡ false → next (looking 0 h) b ≡ on (looking 0 h)
unfolding looked_of
look_other h b e = look_on 0 0 0 0 h b (omega arith) (rw e)

look_missed : (h : List ℕ) (b : ℕ) → eqb b first_mark ≡ false → eqb b second_mark ≡ false → next (looking 1 h) b ≡ on (looking 0 h)
unfolding looked_of
look_missed h b e d = look_on 1 0 0 0 h b (omega arith) (rw (d, e))

abbrev Sought : ℕ → List ℕ → List ℕ → Type 0
Sought at h bs = Finds next Rests at (sought at bs) (looking 0 h) bs × Finds next Rests (at + 1) (sought at (first_mark ∷ bs)) (looking 1 h) bs

found_at : {f : Option (Settled (Event Message))} {s : Reader} {bs : List ℕ} {m n : ℕ} → m ≡ n → Finds next Rests m f s bs → Finds next Rests n f s bs
found_at {f} {s} {bs} e r = subst (λ (k : ℕ). Finds next Rests k f s bs) e r

sought_found : (h : List ℕ) → length h ≡ held_max → (bs : List ℕ) → T (are_bytes bs) → (at : ℕ) → Sought at h bs
unfolding sought
sought_found h f [] g at = (finds_end next Rests at (looking 0 h), finds_end next Rests (at + 1) (looking 1 h))
sought_found h f (b ∷ bs) g at = go (eqb b first_mark) (eqb b second_mark) refl refl (λ k. sought_found h f bs (bytes_tail b bs g) k)
  where
    go : (t u : Bool) → eqb b first_mark ≡ t → eqb b second_mark ≡ u → ((k : ℕ) → Sought k h bs) → Sought at h (b ∷ bs)
    go true u e d ih = subst (λ (x : ℕ). Sought at h (x ∷ bs)) (sym (eqb-true b first_mark e)) (
      finds_goes next Rests (look_mark 0 h (omega arith)) (ih at).1,
      finds_goes next Rests (look_mark 1 h (omega arith)) (ih (at + 1)).1,
    )
    go false true e d ih = (
      subst (λ (r : Option (Settled (Event Message))). Finds next Rests at r (looking 0 h) (b ∷ bs)) (sym (miss at b bs e))
          (finds_goes next Rests (look_other h b e) (ih (at + 1)).0),
      subst (λ (x : ℕ). Finds next Rests (at + 1) (sought at (first_mark ∷ x ∷ bs)) (looking 1 h) (x ∷ bs)) (sym (eqb-true b second_mark d))
          (finds_goes next Rests (look_opens h) (found_at (omega arith) (framed (at + 2) h bs (byte_at 6 bs (bytes_tail b bs g)) f))),
    )
    go false false e d ih = (
      subst (λ (r : Option (Settled (Event Message))). Finds next Rests at r (looking 0 h) (b ∷ bs)) (sym (miss at b bs e))
          (finds_goes next Rests (look_other h b e) (ih (at + 1)).0),
      subst (λ (r : Option (Settled (Event Message))). Finds next Rests (at + 1) r (looking 1 h) (b ∷ bs)) (sym (miss_one at b bs e d))
          (finds_goes next Rests (look_missed h b e d) (ih (at + 1 + 1)).0),
    )

pub rule_found : (s : Reader) → Rests s → (bs : List ℕ) → T (are_bytes bs) → Finds next Rests 0 (sought 0 bs) s bs
rule_found s r bs g = subst (λ (t : Reader). Finds next Rests 0 (sought 0 bs) t bs) (sym r.is) (sought_found r.held r.full bs g 0).0

pub fresh_rests : Rests (looking 0 (replicate held_max 0))
fresh_rests = rests (replicate held_max 0) (length-replicate {A = ℕ} held_max 0)
