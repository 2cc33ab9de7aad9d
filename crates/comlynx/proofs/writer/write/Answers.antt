use Prim.Native.Nat.{ℕ, ◌+◌, ◌≤◌}
use mathlib.Core.Path.{◌≡◌, sym, ◌∙◌, subst}
use mathlib.Core.List.{List, [], ◌∷◌}
use lib.ListN.{length}
use native.Mathlib.Omega.{arith}
use Rattle.comlynx_checksum.specs.Checksum.{sent}
use Rattle.comlynx.specs.Wire.{covered, stuffed}
use Rattle.comlynx.proofs.StoresMakeFrame.{framed_length}
use Rattle.comlynx.proofs.WriterWritesFrame.{asked, no_room, done, too_long}
use Rattle.comlynx.proofs.writer.write.Goals as goal
use Rattle.comlynx.proofs.writer.write.Goals.{After-stuffed_len-3}

-- from where the length is known: the two checksum bytes, and what they are
abbrev last : After-stuffed_len-3 → List ℕ
last c = let d = c.sent_of-due.result in d.low ∷ d.high ∷ []

last_is : (c : After-stuffed_len-3)
    → (let a = c.args in last c ≡ sent (covered (record { source = a.source; destination = a.destination; kind = a.kind; payload = a.payload.now })))
last_is c =
    let a = c.args in
    asked a.source a.destination a.kind a.payload.now a.lent.now c.lead_of-first.result c.of_both-sum.result c.sent_of-due.result c.lead_of-first.ensures c.of_both-sum.ensures c.sent_of-due.ensures

-- the length that was worked out
length_is : (c : After-stuffed_len-3)
    → c.stuffed_len.result + c.stuffed_len-2.result + c.stuffed_len-3.result + 2
    ≡ length (stuffed c.lead_of-first.result) + length (stuffed c.args.payload.now) + length (stuffed (last c)) + 2
length_is c = omega (arith, c.stuffed_len.ensures.0, c.stuffed_len-2.ensures.0, c.stuffed_len-3.ensures.0)

pub returns-then-n-gt-PAYLOAD : goal.returns-then-n-gt-PAYLOAD
returns-then-n-gt-PAYLOAD c =
    let a = c.args in
    too_long a.source a.destination a.kind a.payload.now a.lent.now (omega arith)

pub returns-then-lent-length : goal.returns-then-lent-length
returns-then-lent-length c =
    let b = (goal.at.returns-then-lent-length c).After-stuffed_len-3 in
    let a = c.args in
    no_room a.source a.destination a.kind a.payload.now a.lent.now c.lead_of-first.result (last b) c.lead_of-first.ensures (last_is b) c.if-n-gt-PAYLOAD.false (omega (arith, c.if-lent-length.true, length_is b))

pub put_frame-requires : goal.put_frame-requires
put_frame-requires c =
    let b = (goal.at.put_frame-requires c).After-stuffed_len-3 in
    subst (λ (n : ℕ). n ≤ length c.args.lent.now) (length_is b ∙ sym (framed_length c.lead_of-first.result c.args.payload.now (last b))) c.if-lent-length.false

pub returns : goal.returns
returns c =
    let b = (goal.at.returns c).After-stuffed_len-3 in
    let a = c.args in
    done a.source a.destination a.kind a.payload.now a.lent.now c.lead_of-first.result (last b) c.lead_of-first.ensures (last_is b) _ _ c.if-n-gt-PAYLOAD.false (length_is b) c.if-lent-length.false c.put_frame.ensures
