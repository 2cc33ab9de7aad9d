-- `read` meets its promise: what each test told, and each return by the tests that led to it. Assumes nothing.
-- the bytes lent, where the first test held
use native.Mathlib.Omega.{arith}
use mathlib.Core.Path.{◌≡◌, sym, ap, ◌∙◌}
use mathlib.Core.Bool.{true, ◌&&◌}
use Rattle.uplink.specs.Packet.{carried, marked, known, version_in, port_in}
use Rattle.uplink.proofs.PacketTests.{Head, carried_count, is_short, not_marked, not_known, not_carried, is_cut, is_packet, version_is}
use Rattle.uplink.proofs.read.Goals.{Else-not-marked, Else-not-known, After-counted, Else-not-eq-counted}
use Rattle.uplink.proofs.read.Goals as goal

-- The tests that held, each at the place behind it.
begins : (c : Else-not-marked) → marked c.args.s.now ≡ true
begins c = sym c.marked.ensures ∙ c.if-not-marked.false

version_told : (c : Else-not-known) → c.known.result ≡ known (version_in c.args.s.now)
version_told c = c.known.ensures ∙ ap known c.from_be_bytes-version.ensures

sound : (c : Else-not-known) → Head c.args.s.now
sound c =
    record {
      long = omega arith;
      begins = sym c.marked.ensures ∙ c.if-not-marked.false;
      knows = sym (version_told c) ∙ c.if-not-known.false;
    }

carried_told : (c : After-counted) → (c.eq.result && c.counted.result) ≡ carried c.args.s.now
unfolding carried
carried_told c =
    let s = c.args.s.now in
    let k : known (version_in s) ≡ true = sym (version_told (goal.at-After-counted c).Else-not-known) ∙ c.if-not-known.false in
    simp (c.eq.ensures, c.version_of.ensures, c.from_be_bytes-version.ensures, version_is (port_in s) (version_in s) k, c.counted.ensures, c.from-n.ensures)

pub returns-then-s-lt-LEAD : goal.returns-then-s-lt-LEAD
returns-then-s-lt-LEAD c = is_short c.args.s.now (omega arith)

pub returns-then-not-marked : goal.returns-then-not-marked
returns-then-not-marked c = not_marked c.args.s.now (omega arith) (sym c.marked.ensures ∙ c.if-not-marked.true)

pub returns-then-not-known : goal.returns-then-not-known
returns-then-not-known c =
    not_known c.args.s.now (omega arith) (begins (goal.at.returns-then-not-known c).Else-not-marked)
    (sym (c.known.ensures ∙ ap known c.from_be_bytes-version.ensures) ∙ c.if-not-known.true)

pub returns-then-not-eq-counted : goal.returns-then-not-eq-counted
returns-then-not-eq-counted c =
    let at = goal.at.returns-then-not-eq-counted c in
    not_carried c.args.s.now (sound at.Else-not-known) (sym (carried_told at.After-counted) ∙ c.if-not-eq-counted.true)

pub overflow_add-used : goal.overflow_add-used
overflow_add-used c =
    let at = goal.at.overflow_add-used c in
    let count = carried_count c.args.s.now (sym (carried_told at.After-counted) ∙ c.if-not-eq-counted.false) in
    omega (arith, c.from-n.ensures)

pub returns-then-s-used : goal.returns-then-s-used
returns-then-s-used c =
    let at = goal.at.returns-then-s-used c in
    is_cut c.args.s.now (sound at.Else-not-known) (sym (carried_told at.After-counted) ∙ c.if-not-eq-counted.false) (omega arith)

pub returns : goal.returns
returns c =
    let at = goal.at.returns c in
    is_packet c.args.s.now _ (sound at.Else-not-known) (sym (carried_told at.After-counted) ∙ c.if-not-eq-counted.false) (omega arith) (omega arith)
