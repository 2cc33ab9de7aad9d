-- A search over a slice comes to the frame that the rule finds, and what lies there answers the ask.
-- Assumes nothing.
use Rattle.std.specs.Prelude.{Option as Maybe}
use Rattle.std.specs.Bool.{then_some}
use Prim.Native.Nat.{ℕ, suc, ◌+◌, ◌-◌, ◌≤◌, ◌<◌}
use mathlib.Core.Path.{◌≡◌, refl, sym, ap, ◌∙◌, subst}
use mathlib.Core.Bool.{Bool, true, false, cond, ◌&&◌}
use mathlib.Core.Option.{none, some}
use mathlib.Core.List.{List, [], ◌∷◌}
use lib.ListN.{length, take, drop, get_or, length-drop}
use lib.Seq.{drop-cons, drop-drop, get_or-drop, take_all}
use lib.Dec.{eqb}
use borrow.Author.Tests.{le-ltb, lt-ltb, leb-true, leb-false}
use native.Mathlib.Numerals.{add-one}
use native.Mathlib.Nat.{le_refl}
use native.Mathlib.Omega.{arith}
use Rattle.stream.specs.Event.{Event, gives}
use Rattle.stream.specs.Call.{Seen, lent_least}
use Rattle.stream.specs.Slice.{Asked, asked_of, slice_most, retells}
use Rattle.stream.proofs.PromiseOfStep.{shows}
use Rattle.stream.proofs.SlicesAsStreams.{answers_rule}
use Rattle.eversolar_words.specs.Words.{word}
use Rattle.eversolar.specs.Wire.{Message, first_mark, second_mark}
use Rattle.eversolar.specs.Rules.{judged, frame, sought, rule}
use Rattle.eversolar.specs.Reader.{number, told, header}
use Rattle.eversolar.specs.Slice.{known_at, shown, IsAnswerAt}
use Rattle.eversolar.specs.Inside.{Marked, FrameFrom, whole_at, JudgedAt}
use Rattle.eversolar.specs.declared.reader.Header.{Header}
use Rattle.eversolar.specs.declared.reader.Answer.{Answer}
use Rattle.eversolar.proofs.JudgedIsDelivered.{number_told}

-- ---- one turn of the search

-- AA 55 stands at a place
abbrev pub marks : List ℕ → ℕ → Bool
marks s i = eqb (get_or s i 0) first_mark && eqb (get_or s (i + 1) 0) second_mark

second : (s : List ℕ) (i : ℕ) → get_or (drop (suc i) s) 0 0 ≡ get_or s (i + 1) 0
second s i = get_or-drop (suc i) s 0 0 ∙ ap (λ (k : ℕ). get_or s k 0) (omega arith)

pub misses : (s : List ℕ) (i at : ℕ) → i < length s → marks s i ≡ false → sought at (drop i s) ≡ sought (at + 1) (drop (i + 1) s)
unfolding sought
misses s i at lt e = rw (drop-cons s i 0 lt, second s i, e, add-one i)

pub meets : (s : List ℕ) (i at : ℕ) → i < length s → marks s i ≡ true → sought at (drop i s) ≡ frame (at + 2) (drop (i + 2) s)
unfolding sought
meets s i at lt e =
    let two : suc i + 1 ≡ i + 2 = omega arith in
    rw (drop-cons s i 0 lt, second s i, e) (ap (frame (at + 2)) (drop-drop 1 (suc i) s ∙ ap (λ (k : ℕ). drop k s) two))

-- in one byte there is no AA 55
pub ends : (s : List ℕ) (i at : ℕ) → length s ≤ i + 1 → sought at (drop i s) ≡ none
unfolding sought
ends s i at le = go (drop i s) (omega (arith, length-drop i s))
  where
    go : (bs : List ℕ) → length bs ≤ 1 → sought at bs ≡ none
    go [] h = refl
    go (b ∷ []) h = one (eqb b first_mark)
      where
        one : (t : Bool) → cond (t && false) (frame (at + 2) []) none ≡ none
        one true = refl
        one false = refl
    go (b ∷ c ∷ bs) h = absurd (omega arith)

-- ---- what lies behind the AA 55 that it came to

frame_short : (at n : ℕ) (bs : List ℕ) → get_or bs 6 0 ≡ n → length bs < 9 + n → frame at bs ≡ none
unfolding frame
frame_short at n bs e lt = rw (e, lt-ltb (length bs) (9 + n) lt)

frame_whole : (at n : ℕ) (bs : List ℕ) → get_or bs 6 0 ≡ n → 9 + n ≤ length bs
    → frame at bs ≡ some (record { event = judged (take 6 bs) n (take n (drop 7 bs)) (word (get_or bs (7 + n) 0) (get_or bs (8 + n) 0)); used = at + (9 + n) })
unfolding frame
frame_whole at n bs e le = rw (e, le-ltb (length bs) (9 + n) le)

module _ (s : List ℕ) (mark : ℕ) where
  -- the slice from behind AA 55 on, as it is cut there, and the length that it tells
  abbrev pub body : List ℕ
  body = take (length s - (mark + 2)) (drop (mark + 2) s)

  abbrev pub len : ℕ
  len = get_or s (mark + 2 + 6) 0

  is_rest : body ≡ drop (mark + 2) s
  is_rest = take_all (length s - (mark + 2)) (drop (mark + 2) s) (simp length-drop (le_refl _))

  pub body_length : length body ≡ length s - (mark + 2)
  body_length = ap length is_rest ∙ length-drop (mark + 2) s

  -- where the slice ends before the frame does, no frame is found
  pub cut_off : (place : ℕ) → Marked s place mark → length s - mark < 11 + len → sought 0 (drop place s) ≡ none
  cut_off place m lt = m.finds ∙ frame_short (mark - place + 2) len (drop (mark + 2) s) (get_or-drop (mark + 2) s 6 0) (omega (arith, lt, length-drop (mark + 2) s))

  tells_len : get_or body 6 0 ≡ len
  tells_len = ap (λ (l : List ℕ). get_or l 6 0) is_rest ∙ get_or-drop (mark + 2) s 6 0

  module _ (lent : List ℕ) (place : ℕ) (m : Marked s place mark) (fits : length s ≤ slice_most) (inside : place ≤ length s) (room : lent_least ≤ length lent) where
    finds : rule tt (drop place s) ≡ frame (mark - place + 2) body
    finds = m.finds ∙ ap (frame (mark - place + 2)) (sym is_rest)

    -- what is judged is told, with the place after the frame
    pub judged_there : (a : Answer) (later : List ℕ) → 11 + len ≤ length s - mark → JudgedAt len body lent a later → IsAnswerAt s place lent (record { answer = a; place = mark + 11 + len }) later
    judged_there a later whole j =
        let found : Event Message = judged (take 6 body) len (take len (drop 7 body)) (word (get_or body (7 + len) 0) (get_or body (8 + len) 0)) in
        let used = mark - place + 2 + (9 + len) in
        let after : mark + 11 + len ≡ place + used = omega (arith, m.forward) in
        answers_rule rule known_at header (λ v. v.payload) shown s lent later place (record { answer = a; place = mark + 11 + len }) (some (record { event = found; used = used })) fits inside room
        (finds ∙ frame_whole (mark - place + 2) len body tells_len (omega (arith, whole, body_length)))
        (ap {B = Asked Header} (λ (v : Seen (Unit {0}) Header). record { number = v.number; told = v.told; place = v.used }) (shows header tt (number a) (told a) (gives found) (mark + 11 + len) (number_told a) j.tells)
        ∙ ap (λ (k : ℕ). retells header (asked_of (gives found) k)) after)
        j.leaves

-- ---- the first frame, where all of it is there

pub frame_there : (s : List ℕ) (i j : ℕ) (t : Bool) (o : Maybe ℕ) → Marked s i j → t ≡ whole_at s j → o ≡ then_some t j → FrameFrom s i o
frame_there s i j true o m e is = subst (FrameFrom s i) (sym is) (m, leb-true (11 + len s j) (length s - j) (sym e))
frame_there s i j false o m e is = subst (FrameFrom s i) (sym is) (cut_off s j i m (leb-false (11 + len s j) (length s - j) (sym e)))
