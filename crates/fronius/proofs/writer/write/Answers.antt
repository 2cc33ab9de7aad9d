-- `writer::write`: lead, data and checksum, one behind the other, are the frame.
use Rattle.std.proofs.Common.{◌≡◌, ℕ, ◌+◌, ◌-◌, ◌≤◌, ◌∷◌, List, length, ap, ◌∙◌, arith}
use lib.Seq.{sets, length-sets}
use borrow.Rule.Slice.PartMut.{put_mid}
use Rattle.fronius.specs.Wire.{checksum}
use Rattle.fronius.specs.Inside.{lead}
use Rattle.fronius.proofs.WriterWritesFrame.{too_long, no_room, done, summed, framed, put_copied}
use Rattle.fronius.proofs.writer.write.Goals as goal

pub returns-then-n-gt-PAYLOAD : goal.returns-then-n-gt-PAYLOAD
returns-then-n-gt-PAYLOAD c =
    let a = c.args in
    too_long a.device a.number a.command a.payload.now a.lent.now c.if-n-gt-PAYLOAD.true

pub returns-then-lent-length : goal.returns-then-lent-length
returns-then-lent-length c =
    let a = c.args in
    no_room a.device a.number a.command a.payload.now a.lent.now c.if-n-gt-PAYLOAD.false (omega arith)

pub returns : goal.returns
returns c =
    let a = c.args in
    let n = length a.payload.now in
    let room : 7 + n + 1 ≤ length a.lent.now = omega arith in
    let head = c.put_lead.new.lent in
    let first = lead n a.device a.number a.command in
    let put : head ≡ sets a.lent.now 0 first = c.put_lead.ensures in
    let same : length head ≡ length a.lent.now = ap length put ∙ length-sets a.lent.now 0 first in
    let held = put_mid 7 (7 + n - 7) head c.copy_from_slice.new.self in
    let stored : held ≡ sets (sets a.lent.now 0 first) 7 a.payload.now =
    put_copied head c.copy_from_slice.new.self a.payload.now 7 (7 + n - 7) (omega arith) (omega arith) c.copy_from_slice.ensures.after
    ∙ ap (λ (l : List ℕ). sets l 7 a.payload.now) put
    in
    let summed_up = c.checksum_of-sum.ensures ∙ ap (λ (l : List ℕ). checksum (n ∷ l)) (summed a.device a.number a.command a.payload.now a.lent.now held stored room) in
    done a.device a.number a.command a.payload.now a.lent.now _ _ c.if-n-gt-PAYLOAD.false (omega arith) room
    (framed a.device a.number a.command a.payload.now a.lent.now held c.checksum_of-sum.result stored summed_up room)
