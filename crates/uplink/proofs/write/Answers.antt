-- `write` meets its promise. Assumes nothing.
use native.Mathlib.Omega.{arith}
use Prim.Native.Nat.{◌+◌, ◌≤◌}
use mathlib.Core.Path.{◌≡◌, sym, ◌∙◌}
use mathlib.Core.Bool.{true, and-false}
use lib.ListN.{length}
use Rattle.uplink.specs.Packet.{takes, lead_length}
use Rattle.uplink.proofs.PacketTests.{version_none, version_some, takes_count, not_taken, no_room, is_written, packet_put}
use Rattle.uplink.proofs.write.Goals.{In-Some-true}
use Rattle.uplink.proofs.write.Goals as goal

taken : (c : In-Some-true) → takes c.args.port (length c.args.piece.now) ≡ true
taken c = simp ((version_some c.args.port c.in-Some-true.version (sym c.version_of.ensures ∙ c.in-Some-true.is-0)).1, sym c.in-Some-true.ensures')

pub returns-in_default : goal.returns-in_default
returns-in_default c =
    let a = c.args in
    not_taken a.port a.piece.now a.lent.now (simp (sym c.in_default.ensures', and-false))

pub returns-in_default-2 : goal.returns-in_default-2
returns-in_default-2 c =
    let a = c.args in
    not_taken a.port a.piece.now a.lent.now (simp (version_none a.port (sym c.version_of.ensures ∙ c.in_default.is-0)))

pub returns-then-lent-used : goal.returns-then-lent-used
returns-then-lent-used c =
    let a = c.args in
    no_room a.port a.piece.now a.lent.now (taken (goal.at.returns-then-lent-used c).In-Some-true) (omega arith)

pub overflow_cast-count : goal.overflow_cast-count
overflow_cast-count c =
    let a = c.args in
    let count = takes_count a.port (length a.piece.now) (taken (goal.at.overflow_cast-count c).In-Some-true) in
    omega arith

pub returns : goal.returns
returns c =
    let a = c.args in
    let room : lead_length + length a.piece.now ≤ length a.lent.now = omega arith in
    is_written a.port a.piece.now a.lent.now _ (taken (goal.at.returns c).In-Some-true) room
    (packet_put c.in-Some-true.version a.port a.piece.now a.lent.now c.put_lead.new.lent c.copy_from_slice.new.self room (version_some a.port c.in-Some-true.version (sym c.version_of.ensures ∙ c.in-Some-true.is-0)).0 c.put_lead.ensures c.copy_from_slice.ensures.after)
