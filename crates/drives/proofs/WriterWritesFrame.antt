-- What the writer's stores make of the lent buffer: a frame, and then what was there.
-- Assumes nothing.
use Rattle.std.specs.Prelude.{Ok, Err}
use Prim.Native.Nat.{ℕ, suc, ◌+◌, ◌-◌, ◌≤◌, ◌<◌}
use mathlib.Core.Path.{◌≡◌, refl, sym, ap, ◌∙◌, subst}
use mathlib.Core.Bool.{true, false}
use mathlib.Core.List.{List, [], ◌∷◌, ◌++◌, append_assoc}
use lib.ListN.{length, take, drop, length-append}
use lib.Seq.{sets, take-append_seam}
use borrow.Author.Tests.{lt-ltb, le-ltb}
use native.Mathlib.Omega.{arith}
use Rattle.answers.specs.Written.{Writes}
use Rattle.answers.specs.declared.Refusal.TheVariants.{TooLong, WrongCharacter, NoRoom}
use Rattle.answers.proofs.WriterPromise.{writes_no_room, writes_done}
use Rattle.stream.proofs.ListLaws.{sets_append, sets_front}
use Rattle.drives.specs.Wire.{Message, eot, frame_least, frame_most, covered, checksum, sum_of, wire}
use Rattle.drives.specs.Writer.{in_sets, framing, WritesMessage}
use Rattle.drives.specs.Inside.{lead, ending}

-- what a message's frame has in all
abbrev pub size : Message → ℕ
size m = frame_least + length m.payload

pub wire_length : (m : Message) → length (wire m) ≡ size m
wire_length m = simp length-append (omega arith)

-- all that stands before the data
abbrev pub head : Message → List ℕ
head m = lead m.opening m.station_first m.station_second m.letter

module _ (m : Message) (lent : List ℕ) where
  -- the four ends of the writer

  pub too_long : frame_most m.opening < size m → WritesMessage m lent (Err TooLong) lent
  unfolding framing
  too_long h = rw (lt-ltb (frame_most m.opening) (size m) h) (refl, refl)

  pub outside : size m ≤ frame_most m.opening → in_sets m ≡ false → WritesMessage m lent (Err WrongCharacter) lent
  unfolding framing
  outside h e = rw (le-ltb (frame_most m.opening) (size m) h, e) (refl, refl)

  pub no_room : size m ≤ frame_most m.opening → in_sets m ≡ true → length lent < size m → WritesMessage m lent (Err NoRoom) lent
  unfolding framing
  no_room h e r = rw (le-ltb (frame_most m.opening) (size m) h, e) (writes_no_room (wire m) lent (omega (arith, wire_length m)))

  pub done : (count : ℕ) (later : List ℕ) → size m ≤ frame_most m.opening → in_sets m ≡ true → size m ≤ length lent → count ≡ size m
      → later ≡ wire m ++ drop (length (wire m)) lent → WritesMessage m lent (Ok count) later
  unfolding framing
  done count later h e r is f =
      let all : length (wire m) ≡ count = omega (arith, wire_length m) in
      rw (le-ltb (frame_most m.opening) (size m) h, e)
      (subst (λ (l : List ℕ). Writes false (wire m) lent (Ok count) l) (sym f)
      (subst (λ (n : ℕ). Writes false (wire m) lent (Ok n) (wire m ++ drop (length (wire m)) lent)) all
      (writes_done (wire m) lent (omega (arith, wire_length m)))))

  -- what is stored before the sum is taken
  abbrev pub laid : List ℕ
  laid = sets (sets lent 0 (head m)) (length (head m)) m.payload

  -- what the sum is taken of
  pub summed : size m ≤ length lent → take (length (head m) + length m.payload - 1) (drop 1 laid) ≡ covered m
  summed r =
      let all = head m ++ m.payload in
      let three : length (head m) + length m.payload - 1 ≡ suc (suc (suc (length m.payload))) = omega arith in
      rw (sets_append lent 0 (head m) m.payload, sets_front all lent (omega arith), three)
      (ap (λ (l : List ℕ). m.station_first ∷ m.station_second ∷ m.letter ∷ l) (take-append_seam m.payload (drop (length all) lent)))

  -- the sum and EOT behind them make the frame
  pub framed : size m ≤ length lent → sets laid (length (head m) + length m.payload) (ending (checksum (covered m))) ≡ wire m ++ drop (length (wire m)) lent
  framed r =
      let all = head m ++ m.payload in
      let behind = ending (checksum (covered m)) in
      let at : length (head m) + length m.payload ≡ 0 + length all = omega arith in
      let whole : all ++ behind ≡ wire m = ap (λ (l : List ℕ). m.opening ∷ l) (sym (append_assoc (covered m) (sum_of (covered m)) (eot ∷ []))) in
      rw at
      (ap (λ (l : List ℕ). sets l (0 + length all) behind) (sets_append lent 0 (head m) m.payload)
      ∙ sets_append lent 0 all behind
      ∙ ap (λ (l : List ℕ). sets lent 0 l) whole
      ∙ sets_front (wire m) lent (omega (arith, wire_length m)))
