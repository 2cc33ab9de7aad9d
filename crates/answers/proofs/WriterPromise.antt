-- What the promise of a writer gives: its three ends, that it is one, and what it says of the frame.
-- Assumes nothing.
use Rattle.std.specs.Prelude.{Ok, Err}
use Prim.Native.Nat.{ℕ, ◌≤◌, ◌<◌}
use mathlib.Core.Path.{◌≡◌, refl, sym, ◌∙◌}
use mathlib.Core.Bool.{Bool, true, false, cond}
use mathlib.Core.Option.{Option, none, some}
use mathlib.Core.List.{List, [], ◌∷◌, ◌++◌}
use lib.ListN.{length, take, drop}
use lib.Seq.{take-append_seam}
use lib.Dec.{ltb}
use borrow.Author.Tests.{lt-ltb, le-ltb}
use native.Mathlib.Omega.{arith}
use Rattle.numbers.proofs.Alike.{zero_is_one}
use Rattle.answers.specs.Answer.{Answer, answer}
use Rattle.answers.specs.Refusal as Refusal
use Rattle.answers.specs.Written.{length_of, writing, Writes}
use Rattle.answers.specs.declared.Refusal.TheVariants.{TooLong, NoRoom}
use Rattle.answers.specs.Written.{Written}
use Rattle.answers.proofs.NumbersHaveCases.{refusal_above, written_alike}

-- ---- the three ends of a writer

pub writes_too_long : (frame lent : List ℕ) → Writes true frame lent (Err TooLong) lent
unfolding writing
writes_too_long frame lent = (refl, refl)

pub writes_no_room : (frame lent : List ℕ) → length lent < length frame → Writes false frame lent (Err NoRoom) lent
unfolding writing
writes_no_room frame lent h = (rw (lt-ltb (length lent) (length frame) h), rw (lt-ltb (length lent) (length frame) h))

pub writes_done : (frame lent : List ℕ) → length frame ≤ length lent → Writes false frame lent (Ok (length frame)) (frame ++ drop (length frame) lent)
unfolding writing
writes_done frame lent h = (rw (le-ltb (length lent) (length frame) h), rw (le-ltb (length lent) (length frame) h))

-- ---- two results that it allows are one

pub writes_one : (too_long : Bool) (frame lent a b : List ℕ) (v w : Written) → Writes too_long frame lent v a → Writes too_long frame lent w b → (v ≡ w) × (a ≡ b)
writes_one too_long frame lent a b v w x y = (written_alike v w (x.0 ∙ sym y.0), x.1 ∙ sym y.1)

-- ---- a length told is the frame's, and the frame stands at the front; else nothing was written

some_same : {m n : ℕ} → ◌≡◌ {A = Option ℕ} (some m) (some n) → m ≡ n
some_same e = cc

none_some : {A : Type 0} {n : ℕ} → ◌≡◌ {A = Option ℕ} none (some n) → A
none_some e = zero_is_one cc

refused_done : {A : Type 0} (why n : ℕ) → 8 ≤ why → {m : ℕ} → answer 0 (m ∷ []) ≡ answer why (n ∷ []) → A
refused_done why n h e = let z : 0 ≡ why = cc in absurd (omega arith)

done_refused : {A : Type 0} (why n : ℕ) → 8 ≤ why → {m : ℕ} → answer why (n ∷ []) ≡ answer 0 (m ∷ []) → A
done_refused why n h e = let z : why ≡ 0 = cc in absurd (omega arith)

-- by its two tests
abbrev ends : Bool → Bool → List ℕ → List ℕ → Answer × List ℕ
ends t u frame lent = cond t (Refusal.refused 1 TooLong, lent) (cond u (Refusal.refused 1 NoRoom, lent) (answer 0 (length frame ∷ []), frame ++ drop (length frame) lent))

pub writes_frame : (too_long : Bool) (frame lent later : List ℕ) (w : Written) (n : ℕ) → Writes too_long frame lent w later → length_of w ≡ some n
    → (take n later ≡ frame) × (n ≡ length frame)
unfolding writing
writes_frame too_long frame lent later (Err why) n x e = none_some e
writes_frame too_long frame lent later (Ok m) n x e = go too_long (ltb (length lent) (length frame)) x.0 x.1
  where
    go : (t u : Bool)
        → answer 0 (m ∷ []) ≡ (ends t u frame lent).0
        → later ≡ (ends t u frame lent).1
        → (take n later ≡ frame) × (n ≡ length frame)
    go true u p q = refused_done 8 0 (omega arith) p
    go false true p q = refused_done 9 0 (omega arith) p
    go false false p q =
        let same : m ≡ length frame = cc in
        let is : n ≡ length frame = sym (some_same e) ∙ same in
        (rw (is, q) (take-append_seam frame (drop (length frame) lent)), is)

pub writes_nothing : (too_long : Bool) (frame lent later : List ℕ) (w : Written) → Writes too_long frame lent w later → length_of w ≡ none → later ≡ lent
unfolding writing
writes_nothing too_long frame lent later (Ok m) x e = none_some (sym e)
writes_nothing too_long frame lent later (Err why) x e = go too_long (ltb (length lent) (length frame)) x.0 x.1
  where
    go : (t u : Bool)
        → Refusal.refused 1 why ≡ (ends t u frame lent).0
        → later ≡ (ends t u frame lent).1
        → later ≡ lent
    go true u p q = q
    go false true p q = q
    go false false p q = done_refused (Refusal.number why) 0 (refusal_above why) p
