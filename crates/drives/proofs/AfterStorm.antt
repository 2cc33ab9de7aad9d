-- An EOT ends whatever a storm left open: the first message behind it may be lost, and no other.
-- Assumes nothing.
use Prim.Native.Nat.{ℕ, min, ◌+◌}
use mathlib.Core.Path.{◌≡◌, refl, sym, ap, ap₂, ◌∙◌, subst}
use mathlib.Core.Bool.{Bool, true, false, ◌&&◌}
use mathlib.Core.List.{List, [], ◌∷◌, ◌++◌}
use lib.ListN.{length, set, length-append}
use lib.Dec.{eqb, ltb}
use borrow.Author.Tests.{eqb-true, eqb-false, ltb-true, ltb-false}
use native.Mathlib.Nat.{zero-add}
use native.Mathlib.Omega.{arith}
use Rattle.numbers.proofs.TestLaws.{both}
use Rattle.answers.specs.Answer.{need}
use Rattle.stream.specs.Event.{Event, message, damage}
use Rattle.stream.specs.Pieces.{scan}
use Rattle.stream.specs.Storm.{itself, damaged}
use Rattle.stream.proofs.CallsComeTo.{after}
use Rattle.stream.proofs.HeldAndCounted.{holds_none, holds_kept, holds_over, holds_some}
use Rattle.stream.proofs.FamilyFacts as Found
use Rattle.stream.proofs.Demands.{found_reads, reads_at_rest}
use Rattle.stream.proofs.AfterStorm as Storm
use Rattle.stream.proofs.AfterStorm.{Closes}
use Rattle.drives.specs.Wire.{Message, Takes, opens, eot, is_hex, all_hex, is_letter, proper, checksum, hex_digit, frame_most, between, wire}
use Rattle.drives.specs.Rules.{sized, agrees, judged, frame_length, within, sought}
use Rattle.drives.specs.Machine.{held_max, count_max, looking, inside, next}
use Rattle.drives.specs.Reader.{in_range}
use Rattle.drives.specs.Demands.{drives, request, stray, NotAfterStorm, AllButFirst}
use Rattle.drives.specs.declared.reader.Reader.{Reader}
use Rattle.drives.proofs.MachineMoves.{look_opens, look_skips, closes, keeps, overflows}
use Rattle.drives.proofs.StageRanges.{Range, looks, reads, range_of, not_looking}
use Rattle.drives.proofs.CharacterSets.{opens_not_eot, opens_not_hex, opens_not_letter}
use Rattle.drives.proofs.MachineFollowsRule.{Rests, rests, Tracks, room, framed}
use Rattle.drives.proofs.FoundAtEot.{found, within_characters}
use Rattle.drives.proofs.WrittenIsRead.{no_eot}
use Rattle.drives.proofs.FamilyFacts.{facts}

-- ---- an opening byte among the characters of a frame: it is a damage

and_false : (a : Bool) → (a && false) ≡ false
and_false true = refl
and_false false = refl

not_all_hex : (x w : List ℕ) (b : ℕ) → opens b ≡ true → all_hex (x ++ (b ∷ w)) ≡ false
not_all_hex [] w b e = rw (opens_not_hex b e)
not_all_hex (a ∷ x) w b e = rw (not_all_hex x w b e) (and_false (is_hex a))

not_proper : (x w : List ℕ) (b : ℕ) → opens b ≡ true → proper (x ++ (b ∷ w)) ≡ false
unfolding proper
not_proper [] w b e = rw (opens_not_hex b e)
not_proper (a ∷ []) w b e = rw (opens_not_hex b e) (and_false (is_hex a))
not_proper (a ∷ c ∷ []) w b e = rw (opens_not_letter b e, and_false (is_hex c)) (and_false (is_hex a))
not_proper (a ∷ c ∷ d ∷ x) w b e = rw (not_all_hex x w b e, and_false (is_letter d), and_false (is_hex c)) (and_false (is_hex a))

damage_by : (t : Bool) (n : ℕ) → (what : ℕ) × (◌≡◌ {A = Event Message} (need t (damage 3 n) (damage 21 n)) (damage what n))
damage_by true n = (21, refl)
damage_by false n = (3, refl)

judged_damage : (o n : ℕ) (cs : List ℕ) → proper cs ≡ false → (what : ℕ) × (judged o n cs ≡ damage what n)
unfolding judged
judged_damage o n cs e = rw e (damage_by (sized o n) n)

-- ---- where a storm may leave the reader: no frame is open, or one of which these characters came

data Left (s : Reader) : Type 0 where
  at_rest : Rests s → Left s
  in_frame : (o c : ℕ) (h came : List ℕ) → opens o ≡ true → Tracks c h came → s ≡ inside o c h → Left s

left_looking : (h : List ℕ) → length h ≡ held_max → (b : ℕ) → Left (next (looking h) b).state
left_looking h w b = go (opens b) refl
  where
    go : (t : Bool) → opens b ≡ t → Left (next (looking h) b).state
    go true e = rw (look_opens h b e) (in_frame b 0 h [] e (holds_none held_max count_max room h w) refl)
    go false e = rw (look_skips h b e) (at_rest (rests h w))

left_inside : (o c : ℕ) (h came : List ℕ) → opens o ≡ true → Tracks c h came → (b : ℕ) → Left (next (inside o c h) b).state
left_inside o c h came e t b = go (eqb b eot) (ltb c held_max) refl refl
  where
    open_still : o ≡ 0 → ⊥
    open_still = not_looking o e

    go : (p q : Bool) → eqb b eot ≡ p → ltb c held_max ≡ q → Left (next (inside o c h) b).state
    go true q f g = let is : b ≡ eot = eqb-true b eot f in rw (is, closes o open_still c h) (at_rest (rests h t.wide))
    go false true f g =
        let lt = ltb-true c held_max g in
        rw (keeps o open_still c h b (eqb-false b eot f) lt) (in_frame o (c + 1) (set h c b) (came ++ (b ∷ [])) e (holds_kept held_max count_max room c h came b lt t) refl)
    go false false f g =
        let le = ltb-false c held_max g in
        rw (overflows o open_still c h b (eqb-false b eot f) le) (in_frame o (min (c + 1) count_max) h (came ++ (b ∷ [])) e (holds_over held_max count_max room c h came b le t) refl)

left_next : (s : Reader) (b : ℕ) → Left s → Left (next s b).state
left_next s b (at_rest r) = subst (λ (t : Reader). Left (next t b).state) (sym r.is) (left_looking r.held r.full b)
left_next s b (in_frame o c h came e t is) = subst (λ (u : Reader). Left (next u b).state) (sym is) (left_inside o c h came e t b)

left_after : (bs : List ℕ) (s : Reader) → Left s → Left (after next s bs)
left_after [] s l = l
left_after (b ∷ bs) s l = left_after bs (next s b).state (left_next s b l)

left_whole : (s : Reader) → length s.held ≡ held_max → in_range s ≡ true → Left s
left_whole s w r = go (range_of s.stage s.count r)
  where
    go : Range s.stage s.count → Left s
    go (looks p q) = at_rest (record { held = s.held; full = w; is = λ i. record { held = s.held; stage = p i; count = q i } })
    go (reads p q) =
        let came = holds_some held_max count_max room s.count s.held w q in
        in_frame s.stage s.count s.held came.0 p came.1 refl

-- ---- the first message behind it

-- in a frame its opening byte is one more character, and its EOT ends the frame
ends_frame : (o c : ℕ) (h came : List ℕ) → opens o ≡ true → Tracks c h came → (m : Message) → Takes m → Closes drives facts (inside o c h) m
unfolding facts
ends_frame o c h came e t m k =
    let cs = m.opening ∷ between m in
    let all = came ++ cs in
    let inner = opens_not_eot m.opening k.opening in
    let j = judged_damage o (frame_length all) all (not_proper came (between m) m.opening k.opening) in
    let f = framed o (not_looking o e) (wire m) c h came t 0 in
    let n : 0 + length cs + 1 ≡ length (wire m) = omega (arith, length-append (between m) (eot ∷ [])) in
    let finds = within_characters cs (inner, no_eot m k) 0 o came [] in
    record {
      event = damage j.0 (frame_length all);
      is = λ at. damaged j.0 (frame_length all);
      reads =
          found_reads next (inside o c h) (wire m) (damage j.0 (frame_length all))
          (ap (Found.found (scan next (inside o c h) (wire m)).event) (sym (zero-add (scan next (inside o c h) (wire m)).used))
          ∙ sym f.finds ∙ finds ∙ ap₂ found j.1 n)
          (λ x p. (tt, f.rests x p));
    }

first_closes : (s : Reader) → Left s → (m : Message) → Takes m → Closes drives facts s m
unfolding facts
first_closes s (at_rest r) m k = record { event = message m; is = λ at. itself; reads = reads_at_rest drives facts s (tt, r) m k }
first_closes s (in_frame o c h came e t is) m k = subst (λ (u : Reader). Closes drives facts u m) (sym is) (ends_frame o c h came e t m k)

pub all_but_first : AllButFirst
unfolding facts
all_but_first s h =
    let k = both (eqb (length s.held) held_max) (in_range s) h in
    let l = left_whole s (eqb-true (length s.held) held_max k.0) k.1 in
    Storm.all_but_first drives facts s k.1 (λ storm. first_closes (after next s storm) (left_after storm s l))

-- ---- and it is lost where an opening byte stands before it

taken : Takes request
unfolding opens proper is_hex is_letter frame_most
taken = record { opening = refl; proper = refl; fits = omega arith }

pub not_after_storm : NotAfterStorm
unfolding opens proper is_hex is_letter frame_most checksum hex_digit sized agrees judged within sought
not_after_storm = record {
  takes = taken;
  swallowed = Storm.swallowed drives facts stray request _ tt taken (refl, ((21, 13, refl), tt));
  fails = Storm.not_after_storm drives facts stray request tt taken (Storm.swallowed drives facts stray request 1 tt taken (refl, ((21, 13, refl), tt)));
}
