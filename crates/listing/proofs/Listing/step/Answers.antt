-- `Listing::step` meets its promise: each return is what its tests say.
-- Assumes nothing.
use native.Mathlib.Omega.{arith}
use Prim.Native.Nat.{ℕ, ◌+◌, ◌-◌}
use mathlib.Core.Path.{◌≡◌, refl, sym, ap, ◌∙◌, subst}
use mathlib.Core.Bool.{true, false}
use mathlib.Core.List.{List}
use Rattle.std.specs.Prelude.{Ok}
use lib.ListN.{length, take, drop}
use Rattle.answers.specs.declared.Refusal.TheVariants.{NoRoom, Spoilt}
use Rattle.uplink.specs.Packet.{lead_length, IsRead}
use Rattle.uplink.specs.Demands.{Within}
use Rattle.uplink.proofs.Demands.{fits}
use Rattle.listing.specs.Steps.{unmoved, taking, in_range, made}
use Rattle.listing.specs.Inside.{took}
use Rattle.listing.proofs.StepMakes.{CanTake, packet, fits as counts-fit, in_counts, same_made, nothing, line_long, drained_few, drain_refused, drain_taken, out_of_range, no_room, no_input, too_many, one_packet, refused_packet}
use Rattle.listing.proofs.Listing.step.Goals.{Else-not-in_range, In-Ok}
use Rattle.listing.proofs.Listing.step.Goals as goal

-- the listing was found in range
counted : (c : Else-not-in_range) → in_range c.args.self ≡ true
counted c = sym (c.in_range.ensures c.args.self.ports) ∙ c.if-not-in_range.false

-- ---- a packet that was received

abbrev piece_of : In-Ok → List ℕ
piece_of c = take (c.in-Ok.packet.used - lead_length) (drop lead_length c.args.input.now)

received : (c : In-Ok) → IsRead c.args.input.now (Ok c.in-Ok.packet)
received c = subst (IsRead c.args.input.now) c.in-Ok.is c.read.ensures

within : (c : In-Ok) → Within c.args.input.now c.in-Ok.packet.port c.in-Ok.packet.count c.in-Ok.packet.used
within c = fits c.args.input.now (Ok c.in-Ok.packet) c.in-Ok.packet.port c.in-Ok.packet.count c.in-Ok.packet.used (received c) refl

can_take : (c : In-Ok) → CanTake c.args.self (length (piece_of c)) (length c.args.out.now)
can_take c =
    let l = c.args.self in
    let p = c.in-Ok.packet in
    let w = within c in
    let long = line_long c.args.input.now p.port p.count p.used w in
    let is_counted : in_range l ≡ true = sym (c.in_range.ensures l.ports) ∙ c.if-not-in_range.false in
    let counts = in_counts l is_counted in
    record {
      counts = is_counted;
      packets = omega (arith, counts.0, c.if-self-eq-PACKETS_MAX.false);
      some = omega (arith, long, w.some);
      most = omega (arith, long, w.most);
      lent = omega (arith, c.if-out-lt-ROOM.false);
    }

on_port : (c : In-Ok) → taking c.args.self (packet c.in-Ok.packet.port (piece_of c)) ≡ made c.args.self c.args.input.now c.args.ended (length c.args.out.now)
on_port c =
    let a = c.args in
    let p = c.in-Ok.packet in
    let can = can_take c in
    one_packet a.self a.input.now a.ended (length a.out.now) can.counts can.lent c.if-input-eq0.false c.if-self-eq-PACKETS_MAX.false p.port p.count p.used (received c)

-- ---- the needs, in the order of the code

pub returns-then-not-in_range : goal.returns-then-not-in_range
returns-then-not-in_range c =
    let a = c.args in
    let out : in_range a.self ≡ false = sym (c.in_range.ensures a.self.ports) ∙ c.if-not-in_range.true in
    same_made a.self a.out.now a.out.now c.refused.result (out_of_range a.self a.input.now a.ended (length a.out.now) out)
    (nothing a.self (unmoved Spoilt a.self) a.out.now c.refused.result refl refl c.refused.ensures)

pub returns-then-out-lt-ROOM : goal.returns-then-out-lt-ROOM
returns-then-out-lt-ROOM c =
    let a = c.args in
    let r = c.refused-then-out-lt-ROOM in
    let can = counted (goal.at.returns-then-out-lt-ROOM c).Else-not-in_range in
    same_made a.self a.out.now a.out.now r.result (no_room a.self a.input.now a.ended (length a.out.now) can (omega arith))
    (nothing a.self (unmoved NoRoom a.self) a.out.now r.result refl refl r.ensures)

pub returns-then-input-eq0 : goal.returns-then-input-eq0
returns-then-input-eq0 c =
    let a = c.args in
    let r = c.at_end in
    let can = counted (goal.at.returns-then-input-eq0 c).Else-not-in_range in
    same_made a.self a.out.now r.new.out r.result
    (no_input a.self a.input.now a.ended (length a.out.now) can (omega arith) c.if-input-eq0.true) r.ensures

pub returns-then-self-eq-PACKETS_MAX : goal.returns-then-self-eq-PACKETS_MAX
returns-then-self-eq-PACKETS_MAX c =
    let a = c.args in
    let r = c.over in
    let can = counted (goal.at.returns-then-self-eq-PACKETS_MAX c).Else-not-in_range in
    same_made a.self a.out.now r.new.out r.result
    (too_many a.self a.input.now a.ended (length a.out.now) can (omega arith) c.if-input-eq0.false c.if-self-eq-PACKETS_MAX.true) r.ensures

pub slice_bounds-piece-count : goal.slice_bounds-piece-count
slice_bounds-piece-count c = omega (arith, (within (goal.at.slice_bounds-piece-count c).In-Ok).uses)

pub slice_bounds-piece-start : goal.slice_bounds-piece-start
slice_bounds-piece-start c = omega (arith, (within (goal.at.slice_bounds-piece-start c).In-Ok).uses)

pub slice_bounds-piece-end : goal.slice_bounds-piece-end
slice_bounds-piece-end c = omega (arith, (within (goal.at.slice_bounds-piece-end c).In-Ok).there)

pub drain_on-requires : goal.drain_on-requires
drain_on-requires c =
    let k = (goal.at.drain_on-requires c).In-Ok in
    let t = can_take k in
    let w = within k in
    (omega (arith, w.first), omega (arith, w.last), t.some, t.most, t.lent)

pub overflow_add-self : goal.overflow_add-self
overflow_add-self c = omega (arith, (can_take (goal.at.overflow_add-self c).In-Ok).packets)

pub overflow_add-self-in-Ok-drain_on : goal.overflow_add-self-in-Ok-drain_on
overflow_add-self-in-Ok-drain_on c =
    let k = (goal.at.overflow_add-self-in-Ok-drain_on c).In-Ok in
    (counts-fit c.args.self (can_take k) (drained_few c.drain_on.ensures c.in-Ok-drain_on.is)).0

pub overflow_add-self-in-Ok-drain_on-2 : goal.overflow_add-self-in-Ok-drain_on-2
overflow_add-self-in-Ok-drain_on-2 c =
    let k = (goal.at.overflow_add-self-in-Ok-drain_on-2 c).In-Ok in
    (counts-fit c.args.self (can_take k) (drained_few c.drain_on.ensures c.in-Ok-drain_on.is)).1

pub returns-in-Ok-drain_on : goal.returns-in-Ok-drain_on
returns-in-Ok-drain_on c =
    let k = (goal.at.returns-in-Ok-drain_on c).In-Ok in
    let a = c.args in
    let d = c.drain_on in
    let long : c.in-Ok.packet.used ≡ lead_length + length (piece_of k) = omega (arith, line_long a.input.now k.in-Ok.packet.port k.in-Ok.packet.count k.in-Ok.packet.used (within k), (within k).uses) in
    same_made a.self a.out.now d.new.out c.taken.result (on_port k)
    (drain_taken a.self k.in-Ok.packet.port (piece_of k) a.out.now d.new.out d.new.ports d.result c.taken.result d.ensures c.in-Ok-drain_on.d c.in-Ok-drain_on.is (can_take k) (c.taken.ensures ∙ ap (λ (n : ℕ). took d.new.ports (a.self.packets + 1) (a.self.messages + c.in-Ok-drain_on.d.messages) (a.self.damages + c.in-Ok-drain_on.d.damages) n c.in-Ok-drain_on.d.wrote) long))

pub returns-in-Err-drain_on : goal.returns-in-Err-drain_on
returns-in-Err-drain_on c =
    let k = (goal.at.returns-in-Err-drain_on c).In-Ok in
    let a = c.args in
    let d = c.drain_on in
    same_made a.self a.out.now d.new.out c.refused-in-Err-drain_on.result (on_port k)
    (drain_refused a.self k.in-Ok.packet.port (piece_of k) a.out.now d.new.out d.new.ports d.result c.refused-in-Err-drain_on.result d.ensures c.in-Err-drain_on.why c.in-Err-drain_on.is c.refused-in-Err-drain_on.ensures)

-- a packet that is refused

pub returns-in-Err : goal.returns-in-Err
returns-in-Err c =
    let a = c.args in
    let r = c.no_packet in
    let can = counted (goal.at.returns-in-Err c).Else-not-in_range in
    same_made a.self a.out.now r.new.out r.result
    (refused_packet a.self a.input.now a.ended (length a.out.now) can (omega (arith, c.if-out-lt-ROOM.false)) c.if-input-eq0.false c.if-self-eq-PACKETS_MAX.false c.in-Err.why
    (subst (IsRead a.input.now) c.in-Err.is c.read.ensures)) r.ensures
