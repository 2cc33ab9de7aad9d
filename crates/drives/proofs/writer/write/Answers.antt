-- `writer::write`: lead, data, sum and EOT, one behind the other, are the frame.
use native.Mathlib.Omega.{arith}
use Prim.Native.Nat.{ℕ, ◌+◌, ◌-◌, ◌≤◌}
use mathlib.Core.Path.{◌≡◌, sym, ◌∙◌, ap, ap₂}
use mathlib.Core.List.{List, [], ◌∷◌, ◌++◌, append_assoc}
use lib.ListN.{length, take, drop}
use lib.Seq.{drop-drop, sets, sets-eq, length-sets}
use borrow.Rule.Slice.PartMut.{put_mid}
use Rattle.stream.proofs.ListLaws.{sets_front}
use Rattle.drives.specs.Wire.{Message, eot, covered, checksum}
use Rattle.drives.specs.Inside.{ending}
use Rattle.drives.proofs.WriterWritesFrame.{size, too_long, outside, no_room, done, head, laid, summed, framed}
use Rattle.drives.proofs.writer.write.Goals as goal

-- a part of l from `at` on, as long as what is stored there
put_whole : (l src : List ℕ) (at : ℕ) → at + length src ≤ length l → put_mid at (at + length src - at) l src ≡ sets l at src
put_whole l src at room =
    let n : at + length src - at ≡ length src = omega arith in
    rw (n, drop-drop) (sym (append_assoc (take at l) src (drop (at + length src) l)) ∙ sym (sets-eq src l at room))

-- what is to be written
abbrev message : (opening first second letter : ℕ) → List ℕ → Message
message opening first second letter payload = record {
  opening = opening;
  station_first = first;
  station_second = second;
  letter = letter;
  payload = payload;
}

pub returns-then-frame_most-length : goal.returns-then-frame_most-length
returns-then-frame_most-length c =
    let a = c.args in
    let m = message a.opening a.station_first a.station_second a.letter a.payload.now in
    too_long m a.lent.now (omega (arith, c.if-frame_most-length.true, c.frame_most.ensures))

pub returns-then-not-in_sets : goal.returns-then-not-in_sets
returns-then-not-in_sets c =
    let a = c.args in
    let m = message a.opening a.station_first a.station_second a.letter a.payload.now in
    outside m a.lent.now (omega (arith, c.if-frame_most-length.false, c.frame_most.ensures)) (sym c.in_sets.ensures ∙ c.if-not-in_sets.true)

pub returns-then-lent-length : goal.returns-then-lent-length
returns-then-lent-length c =
    let a = c.args in
    let m = message a.opening a.station_first a.station_second a.letter a.payload.now in
    no_room m a.lent.now (omega (arith, c.if-frame_most-length.false, c.frame_most.ensures)) (sym c.in_sets.ensures ∙ c.if-not-in_sets.false) (omega (arith, c.if-lent-length.true))

-- after the first copy the lead stands at the front,
headed : (m : Message) (lent copied : List ℕ) → size m ≤ length lent → copied ≡ head m → copied ++ drop 4 lent ≡ sets lent 0 (head m)
headed m lent copied room copy = ap (λ (l : List ℕ). l ++ drop 4 lent) copy ∙ sym (sets_front (head m) lent (omega arith))

-- after the second the data behind it,
stored : (m : Message) (lent before copied : List ℕ) → size m ≤ length lent → before ≡ sets lent 0 (head m) → copied ≡ m.payload
    → put_mid 4 (4 + length m.payload - 4) before copied ≡ laid m lent
stored m lent before copied room put copy =
    let same : length before ≡ length lent = ap length put ∙ length-sets lent 0 (head m) in
    rw copy (put_whole before m.payload 4 (omega arith)) ∙ ap (λ (l : List ℕ). sets l 4 m.payload) put

-- and after the third the sum and EOT
ended : (m : Message) (lent before copied : List ℕ) (sum : ℕ) → size m ≤ length lent → before ≡ laid m lent → copied ≡ ending sum
    → put_mid (4 + length m.payload) (7 + length m.payload - (4 + length m.payload)) before copied ≡ sets (laid m lent) (4 + length m.payload) (ending sum)
ended m lent before copied sum room put copy =
    let last = 4 + length m.payload in
    let three : 7 + length m.payload - last ≡ last + 3 - last = omega arith in
    let same : length before ≡ length lent = ap length put ∙ length-sets (sets lent 0 (head m)) 4 m.payload ∙ length-sets lent 0 (head m) in
    ap (put_mid last (7 + length m.payload - last) before) copy
    ∙ ap (λ (k : ℕ). put_mid last k before (ending sum)) three
    ∙ put_whole before (ending sum) last (omega arith)
    ∙ ap (λ (l : List ℕ). sets l last (ending sum)) put

pub returns : goal.returns
returns c =
    let a = c.args in
    let m = message a.opening a.station_first a.station_second a.letter a.payload.now in
    let l = a.lent.now in
    let room : size m ≤ length l = omega (arith, c.if-lent-length.false) in
    let sum = c.checksum_of-sum.result in
    let lead = headed m l c.copy_from_slice.new.self room c.copy_from_slice.ensures.after in
    let laid_down = stored m l _ c.copy_from_slice-2.new.self room lead c.copy_from_slice-2.ensures.after in
    let behind : c.copy_from_slice-3.new.self ≡ ending sum =
    c.copy_from_slice-3.ensures.after ∙ ap₂ (λ (x y : ℕ). x ∷ y ∷ eot ∷ []) c.digit.ensures c.digit-2.ensures in
    let summed_up : sum ≡ checksum (covered m) =
    c.checksum_of-sum.ensures
    ∙ ap (λ (b : List ℕ). checksum (take (4 + length m.payload - 1) (drop 1 b))) laid_down
    ∙ ap checksum (summed m l room) in
    done m l _ _ (omega (arith, c.if-frame_most-length.false, c.frame_most.ensures)) (sym c.in_sets.ensures ∙ c.if-not-in_sets.false) room (omega arith)
    (ended m l _ c.copy_from_slice-3.new.self sum room laid_down behind
    ∙ ap (λ (s : ℕ). sets (laid m l) (4 + length m.payload) (ending s)) summed_up
    ∙ framed m l room)
