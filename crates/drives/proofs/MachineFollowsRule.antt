-- The machine finds what the rule finds, in every list of bytes.
-- Assumes nothing.
use Prim.Native.Nat.{ℕ, min, ◌+◌, ◌<◌}
use mathlib.Core.Path.{◌≡◌, refl, sym, ap, ap₂, ◌∙◌, subst}
use mathlib.Core.Bool.{Bool, true, false}
use mathlib.Core.List.{List, [], ◌∷◌, ◌++◌}
use lib.ListN.{length, take, set, replicate, length-replicate}
use lib.Dec.{eqb, ltb}
use borrow.Author.Tests.{eqb-true, eqb-false, ltb-true, ltb-false, le-leb, lt-leb}
use native.Mathlib.Nat.{lt_of_not-le}
use native.Mathlib.Decide.{dec_le}
use native.Mathlib.Omega.{arith}
use Rattle.numbers.proofs.TestLaws.{by_test}
use Rattle.stream.proofs.FollowsByBytes.{Finds, finds_end, finds_goes, finds_tells}
use Rattle.stream.proofs.HeldAndCounted.{Holds, holds_none, holds_kept, holds_over, holds_all, holds_too_many}
use Rattle.drives.specs.Wire.{eot, opens, frame_least, frame_most}
use Rattle.drives.specs.Rules.{sized, judged, frame_length, judge, within, sought}
use Rattle.drives.specs.Machine.{held_max, count_max, looking, inside, closed, next}
use Rattle.drives.specs.declared.reader.Reader.{Reader}
use Rattle.drives.proofs.MachineMoves.{look_opens, look_skips, closes, keeps, overflows}
use Rattle.drives.proofs.StageRanges.{not_looking}
use Rattle.drives.proofs.FrameLimits.{longest}

-- a state in which no frame is open: here reading begins, and goes on after an event
pub record Rests (s : Reader) : Type 0 where
  pub held : List ℕ
  pub full : length held ≡ held_max
  pub is : s ≡ looking held

pub rests : (h : List ℕ) → length h ≡ held_max → Rests (looking h)
rests h f = record { held = h; full = f; is = refl }

-- what is counted and held, where `came` has come since the opening byte
abbrev pub Tracks : ℕ → List ℕ → List ℕ → Type 0
Tracks = Holds held_max count_max

pub room : held_max < count_max
room = omega arith

-- ---- at EOT: what was held is the whole frame, or the frame is too long, and is judged by its length alone

too_long : (o n : ℕ) → held_max + 2 < n → sized o n ≡ false
unfolding sized
too_long o n lt = rw (le-leb frame_least n (omega arith), lt-leb n (frame_most o) (omega (arith, longest o)))

pub judged_too_long : (o n : ℕ) (a b : List ℕ) → held_max + 2 < n → judged o n a ≡ judged o n b
unfolding judged
judged_too_long o n a b lt = rw (too_long o n lt)

closed_judged : (o c : ℕ) (h came : List ℕ) → Tracks c h came → closed o c h ≡ judge o came
closed_judged o c h came t =
    let n : c + 2 ≡ frame_length came = omega (arith, t.counted) in
    elim (dec_le (length came) held_max) [
      | yes k ↦ ap₂ (judged o) n (holds_all held_max count_max room c h came k t).1
      | no k ↦ (
          let lt = holds_too_many held_max count_max room c h came (lt_of_not-le k) t in
          judged_too_long o (c + 2) (take c h) came (omega arith) ∙ ap (λ (i : ℕ). judged o i came) n)
    ]

-- ---- a frame behind its opening byte, and what stands before that

pub framed : (o : ℕ) → (o ≡ 0 → ⊥) → (bs : List ℕ) (c : ℕ) (h came : List ℕ) → Tracks c h came → (at : ℕ) → Finds next Rests at (within at o came bs) (inside o c h) bs
unfolding within
framed o opened [] c h came t at = finds_end next Rests at (inside o c h)
framed o opened (b ∷ bs) c h came t at =
    by_test (λ f. Finds next Rests at f (inside o c h) (b ∷ bs)) (eqb b eot)
    (λ e. let is : b ≡ eot = eqb-true b eot e in
    rw (is, ← closed_judged o c h came t) (finds_tells next Rests (closes o opened c h) (rests h t.wide)))
    (λ e. by_room (ltb c held_max) refl (eqb-false b eot e) (λ c' h' t'. framed o opened bs c' h' (came ++ (b ∷ [])) t' (at + 1)))
  where
    by_room : (u : Bool) → ltb c held_max ≡ u → (b ≡ eot → ⊥)
        → ((c' : ℕ) (h' : List ℕ) → Tracks c' h' (came ++ (b ∷ [])) → Finds next Rests (at + 1) (within (at + 1) o (came ++ (b ∷ [])) bs) (inside o c' h') bs)
        → Finds next Rests at (within (at + 1) o (came ++ (b ∷ [])) bs) (inside o c h) (b ∷ bs)
    by_room true u other ih =
        let lt = ltb-true c held_max u in
        finds_goes next Rests (keeps o opened c h b other lt) (ih (c + 1) (set h c b) (holds_kept held_max count_max room c h came b lt t))
    by_room false u other ih =
        let le = ltb-false c held_max u in
        finds_goes next Rests (overflows o opened c h b other le) (ih (min (c + 1) count_max) h (holds_over held_max count_max room c h came b le t))

sought_found : (h : List ℕ) → length h ≡ held_max → (bs : List ℕ) (at : ℕ) → Finds next Rests at (sought at bs) (looking h) bs
unfolding sought
sought_found h f [] at = finds_end next Rests at (looking h)
sought_found h f (b ∷ bs) at =
    by_test (λ r. Finds next Rests at r (looking h) (b ∷ bs)) (opens b)
    (λ e. finds_goes next Rests (look_opens h b e) (framed b (not_looking b e) bs 0 h [] (holds_none held_max count_max room h f) (at + 1)))
    (λ e. finds_goes next Rests (look_skips h b e) (sought_found h f bs (at + 1)))

pub rule_found : (s : Reader) → Rests s → (bs : List ℕ) → Finds next Rests 0 (sought 0 bs) s bs
rule_found s r bs = subst (λ (t : Reader). Finds next Rests 0 (sought 0 bs) t bs) (sym r.is) (sought_found r.held r.full bs 0)

pub fresh_rests : Rests (looking (replicate held_max 0))
fresh_rests = rests (replicate held_max 0) (length-replicate {A = ℕ} held_max 0)
