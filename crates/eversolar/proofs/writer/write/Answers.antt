use Prim.Native.Nat.{ℕ, ◌+◌, ◌-◌, ◌≤◌}
use mathlib.Core.Path.{◌≡◌, refl, sym, ◌∙◌, ap}
use mathlib.Core.List.{List, ◌++◌}
use lib.ListN.{length, drop}
use lib.Seq.{sets, sets-eq, length-sets}
use borrow.Rule.Slice.PartMut.{put_mid}
use native.Mathlib.Omega.{arith}
use Rattle.eversolar_words.specs.Words.{word_bytes}
use Rattle.eversolar.specs.Wire.{Message, checksum}
use Rattle.eversolar.proofs.CopiedIn.{put}
use Rattle.eversolar.proofs.WriterWritesFrame.{too_long, no_room, done, first, all_summed, framed}
use Rattle.eversolar.proofs.writer.write.Goals as goal

abbrev msg : (a b c d e f : ℕ) → List ℕ → Message
msg a b c d e f payload = record {
  source_first = a;
  source_second = b;
  destination_first = c;
  destination_second = d;
  control = e;
  function = f;
  payload = payload;
}

pub returns-then-n-gt-PAYLOAD : goal.returns-then-n-gt-PAYLOAD
returns-then-n-gt-PAYLOAD c =
    let a = c.args in
    too_long (msg a.source_first a.source_second a.destination_first a.destination_second a.control a.function a.payload.now) a.lent.now (omega arith)

pub returns-then-lent-length : goal.returns-then-lent-length
returns-then-lent-length c =
    let a = c.args in
    no_room (msg a.source_first a.source_second a.destination_first a.destination_second a.control a.function a.payload.now) a.lent.now (omega arith) (omega arith)

pub returns : goal.returns
returns c =
    let a = c.args in
    let m = msg a.source_first a.source_second a.destination_first a.destination_second a.control a.function a.payload.now in
    let lent = a.lent.now in
    let n = length a.payload.now in
    let headed : List ℕ = c.copy_from_slice.new.self ++ drop 9 lent in
    let room : 9 + n + 2 ≤ length lent = omega arith in
    let led : headed ≡ sets lent 0 (first m lent) = ap (λ (l : List ℕ). l ++ drop 9 lent) c.copy_from_slice.ensures.after ∙ sym (sets-eq (first m lent) lent 0 (omega arith)) in
    let same : length headed ≡ length lent = ap length led ∙ length-sets lent 0 (first m lent) in
    let held : List ℕ = put_mid 9 (9 + n - 9) headed c.copy_from_slice-2.new.self in
    let stored : held ≡ sets (sets lent 0 (first m lent)) 9 a.payload.now =
    put headed c.copy_from_slice-2.new.self a.payload.now 9 n refl (omega arith) c.copy_from_slice-2.ensures.after
    ∙ ap (λ (l : List ℕ). sets l 9 a.payload.now) led in
    let sum = c.checksum_of-sum.ensures ∙ ap checksum (all_summed m lent held stored room) in
    done m lent _ _ (omega arith) (omega arith) room
    (framed m lent held c.bytes_of-pair.result.first c.bytes_of-pair.result.second stored (c.bytes_of-pair.ensures ∙ ap word_bytes sum) room)
