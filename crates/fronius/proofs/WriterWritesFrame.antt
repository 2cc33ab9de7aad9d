-- What the writer's stores make of the lent buffer: a frame, and then what was there.
-- Assumes nothing.
use Rattle.std.specs.Prelude.{Ok, Err}
use Prim.Native.Nat.{ℕ, suc, ◌+◌, ◌-◌, ◌≤◌, ◌<◌}
use mathlib.Core.Path.{◌≡◌, sym, ap, ◌∙◌, subst}
use mathlib.Core.Bool.{false}
use mathlib.Core.List.{List, [], ◌∷◌, ◌++◌, append_assoc}
use lib.ListN.{length, take, drop, set, length-append, length-drop}
use lib.Seq.{sets, sets-eq, drop-drop, take_all, take-append_seam}
use borrow.Rule.Slice.PartMut.{put_mid}
use borrow.Author.Tests.{lt-ltb, le-ltb}
use native.Mathlib.Omega.{arith}
use Rattle.answers.specs.Written.{Writes}
use Rattle.answers.specs.declared.Refusal.TheVariants.{TooLong, NoRoom}
use Rattle.answers.proofs.WriterPromise.{writes_too_long, writes_no_room, writes_done}
use Rattle.stream.proofs.ListLaws.{sets_append, sets_front}
use Rattle.fronius.specs.Wire.{Message, payload_max, checksum, body, wire}
use Rattle.fronius.specs.Writer.{IsWritten}
use Rattle.fronius.specs.Inside.{lead}

pub wire_length : (m : Message) → length (wire m) ≡ length m.payload + 8
wire_length m = simp length-append (omega arith)

-- a part of as many elements, copied whole, is stores from its first place on
pub put_copied : (l m src : List ℕ) (at k : ℕ) → k ≡ length src → at + length src ≤ length l → m ≡ src → put_mid at k l m ≡ sets l at src
put_copied l m src at k n room e = rw (n, e, drop-drop) (sym (append_assoc (take at l) src (drop (at + length src) l)) ∙ sym (sets-eq src l at room))

-- the three ends of the writer

module _ (d n c : ℕ) (bs lent : List ℕ) where
  abbrev M : Message
  M = record { device = d; number = n; command = c; payload = bs }

  pub too_long : payload_max < length bs → IsWritten d n c bs lent (Err TooLong) lent
  too_long h = rw (lt-ltb payload_max (length bs) h) (writes_too_long (wire M) lent)

  pub no_room : length bs ≤ payload_max → length lent < 7 + length bs + 1 → IsWritten d n c bs lent (Err NoRoom) lent
  no_room h r = rw (le-ltb payload_max (length bs) h) (writes_no_room (wire M) lent (omega (arith, wire_length M)))

  pub done : (count : ℕ) (later : List ℕ) → length bs ≤ payload_max → count ≡ 7 + length bs + 1 → 7 + length bs + 1 ≤ length lent
      → later ≡ wire M ++ drop (length (wire M)) lent → IsWritten d n c bs lent (Ok count) later
  done count later h is r e =
      let all : length (wire M) ≡ count = omega (arith, wire_length M) in
      rw (le-ltb payload_max (length bs) h)
      (subst (λ (l : List ℕ). Writes false (wire M) lent (Ok count) l) (sym e)
      (subst (λ (k : ℕ). Writes false (wire M) lent (Ok k) (wire M ++ drop (length (wire M)) lent)) all
      (writes_done (wire M) lent (omega (arith, wire_length M)))))

  -- lead and data in front of the rest
  abbrev H : List ℕ
  H = lead (length bs) d n c

  laid : 7 + length bs + 1 ≤ length lent → sets (sets lent 0 H) 7 bs ≡ (H ++ bs) ++ drop (length (H ++ bs)) lent
  laid r = sets_append lent 0 H bs ∙ sets_front (H ++ bs) lent (omega arith)

  -- what the sum is taken of
  pub summed : (k : List ℕ) → k ≡ sets (sets lent 0 H) 7 bs → 7 + length bs + 1 ≤ length lent → take (3 + length bs) (take (length k - 4) (drop 4 k)) ≡ body M
  summed k e r =
      let whole : take (length k - 4) (drop 4 k) ≡ drop 4 k = take_all (length k - 4) (drop 4 k) (simp length-drop (omega arith)) in
      let three : 3 + length bs ≡ suc (suc (suc (length bs))) = omega arith in
      rw (whole, e, laid r, three) (ap (λ (x : List ℕ). d ∷ n ∷ c ∷ x) (take-append_seam bs (drop (length (H ++ bs)) lent)))

  -- and the sum behind them
  pub framed : (k : List ℕ) (w : ℕ) → k ≡ sets (sets lent 0 H) 7 bs → w ≡ checksum (length bs ∷ body M) → 7 + length bs + 1 ≤ length lent
      → set k (7 + length bs) w ≡ wire M ++ drop (length (wire M)) lent
  framed k w e s r =
      let at : 7 + length bs ≡ 0 + length (H ++ bs) = omega arith in
      rw (e, s, at)
      (ap (λ (l : List ℕ). sets l (0 + length (H ++ bs)) (checksum (length bs ∷ body M) ∷ [])) (sets_append lent 0 H bs)
      ∙ sets_append lent 0 (H ++ bs) (checksum (length bs ∷ body M) ∷ []) ∙ sets_front (wire M) lent (omega (arith, wire_length M)))
