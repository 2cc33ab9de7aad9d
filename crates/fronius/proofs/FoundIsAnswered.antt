-- What is found in a slice from a place on is what `answer_at` has to answer and to deliver.
-- Assumes nothing.
use Prim.Native.Nat.{ℕ, ◌+◌, ◌-◌, ◌≤◌, ◌<◌}
use mathlib.Core.Path.{◌≡◌, refl, sym, ap, ◌∙◌, subst}
use mathlib.Core.Option.{Option, none, some}
use mathlib.Core.List.{List}
use lib.ListN.{length, take, drop, get_or, length-drop}
use native.Mathlib.Omega.{arith}
use Rattle.answers.specs.declared.Damage.TheVariants.{WrongLengthByte}
use Rattle.stream.specs.Event.{Event, damage, Told, gives}
use Rattle.stream.specs.Call.{Seen, retold}
use Rattle.stream.specs.Rule.{Settled}
use Rattle.stream.specs.Slice.{Asked, asked_of, retells}
use Rattle.stream.proofs.PromiseOfStep.{shows}
use Rattle.fronius.specs.Wire.{Message, mark}
use Rattle.fronius.specs.Rules.{judged, sized, sought}
use Rattle.fronius.specs.Reader.{number, told, header}
use Rattle.fronius.specs.Slice.{shown}
use Rattle.fronius.specs.Inside.{judged_frame, JudgedAs, given, StartFrom, PastMarks, IsUsedUp, Answered, FrameAt, AnswerFrom}
use Rattle.fronius.specs.declared.reader.Header.{Header}
use Rattle.fronius.specs.declared.reader.Answer.{Answer}
use Rattle.fronius.specs.declared.reader.Answer.TheVariants.{Damaged}
use Rattle.fronius.specs.declared.slice.Found.{Found}
use Rattle.fronius.proofs.JudgedIsDelivered.{number_told, delivers_frame}
use Rattle.fronius.proofs.FoundFromPlace.{sized_past_end, bad_length, frame_cut_off, frame_there}

-- an answer that tells t, with a place, shows t there
shows_at : (a : Answer) (t : Told Message) (place : ℕ) → told a ≡ retold header t → shown (record { answer = a; place = place }) ≡ retells header (asked_of t place)
shows_at a t place e =
    ap {B = Asked Header} (λ (v : Seen (Unit {0}) Header). record { number = v.number; told = v.told; place = v.used })
    (shows header tt (number a) (told a) t place (number_told a) e)

module _ (s : List ℕ) (k : ℕ) (lent : List ℕ) where
  -- what is found from the length on, whatever came before, is answered
  by_found : (o : ℕ → Option (Settled (Event Message))) (r : Found) (later : List ℕ) → ((at : ℕ) → sized at (drop k s) ≡ o at)
      → ((place : ℕ) → place ≤ k → Answered s place lent (o (k - place)) r later) → FrameAt s k lent r later
  by_found o r later e a place le = subst (λ (f : Option (Settled (Event Message))). Answered s place lent f r later) (sym (e (k - place))) (a place le)

  nothing : (r : Found) → IsUsedUp s r → ((at : ℕ) → sized at (drop k s) ≡ none) → FrameAt s k lent r lent
  nothing r u e = by_found (λ at. none) r lent e (λ place le. (ap shown u, refl))

  pub answers_end : (r : Found) → IsUsedUp s r → length s ≤ k → FrameAt s k lent r lent
  answers_end r u le = nothing r u (λ at. sized_past_end s at k le)

  pub answers_bad_length : k < length s → mark < get_or s k 0 → FrameAt s k lent (record { answer = Damaged WrongLengthByte 4; place = k + 1 }) lent
  answers_bad_length lt h =
      by_found (λ at. some (record { event = damage 7 4; used = at + 1 })) (record { answer = Damaged WrongLengthByte 4; place = k + 1 }) lent (λ at. bad_length s k lt at h)
      (λ place le. let at : k + 1 ≡ place + (k - place + 1) = omega arith in (ap (λ (p : ℕ). asked_of (gives (damage 7 4)) p) at, refl))

  pub answers_cut_off : (r : Found) → IsUsedUp s r → k < length s → get_or s k 0 < mark → length s - (k + 1) ≤ 3 + get_or s k 0 → FrameAt s k lent r lent
  answers_cut_off r u lt h c = nothing r u (λ at. frame_cut_off s k lt at h c)

  -- of a frame that is there, `held` being what stands behind its length
  pub answers_frame : (held later : List ℕ) (a : Answer) → k < length s → get_or s k 0 < mark → 3 + get_or s k 0 < length s - (k + 1) → held ≡ drop (k + 1) s
      → JudgedAs (judged_frame (get_or s k 0) (get_or s (k + 1 + (3 + get_or s k 0)) 0) held) a → later ≡ given a held lent
      → FrameAt s k lent (record { answer = a; place = k + 1 + (3 + get_or s k 0) + 1 }) later
  answers_frame held later a lt h c is e l =
      let n = get_or s k 0 in
      let sum = get_or s (k + 1 + (3 + n)) 0 in
      let bs = drop (k + 1) s in
      let event : Event Message = judged n (take (3 + n) bs) sum in
      let judged-as : JudgedAs (judged_frame n sum bs) a = subst (λ (b : List ℕ). JudgedAs (judged_frame n sum b) a) is e in
      let delivered-by = delivers_frame n sum bs lent a (omega arith) (simp length-drop (omega arith)) judged-as in
      by_found (λ at. some (record { event = event; used = at + 1 + (n + 4) })) (record { answer = a; place = k + 1 + (3 + n) + 1 }) later (λ at. frame_there s k lt at h c)
      (λ place le.
      let at : k + 1 + (3 + n) + 1 ≡ place + (k - place + 1 + (n + 4)) = omega arith in
      (shows_at a (gives event) (k + 1 + (3 + n) + 1) judged-as ∙ ap (λ (p : ℕ). retells header (asked_of (gives event) p)) at, l ∙ ap (λ (b : List ℕ). given a b lent) is ∙ delivered-by.2))

-- from a place on: the start, the 80s behind it, and what stands from the length on
pub answers_from : (s lent later : List ℕ) (place start k : ℕ) (r : Found) → StartFrom s place start → PastMarks s (start + 3) k → FrameAt s k lent r later → AnswerFrom s place lent r later
answers_from s lent later place start k r x y a =
    let all : start - place + 3 + (k - (start + 3)) ≡ k - place = omega (arith, x.forward, y.forward) in
    let same : sought 0 (drop place s) ≡ sized (k - place) (drop k s) = x.found ∙ y.found (start - place + 3) ∙ ap (λ (n : ℕ). sized n (drop k s)) all in
    subst (λ (f : Option (Settled (Event Message))). Answered s place lent f r later) (sym same) (a place (omega (arith, x.forward, y.forward)))
