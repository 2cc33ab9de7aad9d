-- all of it has room
use Prim.Native.Nat.{◌+◌, ◌≤◌}
use mathlib.Core.Path.{◌≡◌, ◌∙◌}
use lib.ListN.{length, set, length-set}
use native.Mathlib.Omega.{arith}
use Rattle.comlynx.specs.Wire.{flag, stuffed}
use Rattle.comlynx.proofs.StoresMakeFrame.{stored_length, framed_length, frame_stored}
use Rattle.comlynx.proofs.writer.put_frame.Goals as goal
use Rattle.comlynx.proofs.writer.put_frame.Goals.{Start, After-put_stuffed-a, After-put_stuffed-b, After-put_stuffed-c}

fits : (c : Start) → length (stuffed c.args.first.now) + length (stuffed c.args.payload.now) + length (stuffed c.args.last.now) + 2 ≤ length c.args.lent.now
fits c = omega (arith, framed_length c.args.first.now c.args.payload.now c.args.last.now)

-- the buffer's length after each part
long₁ : (c : After-put_stuffed-a) → length c.put_stuffed-a.new.lent ≡ length c.args.lent.now
long₁ c =
    let a = c.args in
    stored_length a.first.now 1 (set a.lent.now 0 flag) c.put_stuffed-a.result c.put_stuffed-a.new.lent c.put_stuffed-a.ensures ∙ length-set a.lent.now 0 flag

long₂ : (c : After-put_stuffed-b) → length c.put_stuffed-b.new.lent ≡ length c.put_stuffed-a.new.lent
long₂ c = stored_length c.args.payload.now c.put_stuffed-a.result c.put_stuffed-a.new.lent c.put_stuffed-b.result c.put_stuffed-b.new.lent c.put_stuffed-b.ensures

long₃ : (c : After-put_stuffed-c) → length c.put_stuffed-c.new.lent ≡ length c.put_stuffed-b.new.lent
long₃ c = stored_length c.args.last.now c.put_stuffed-b.result c.put_stuffed-b.new.lent c.put_stuffed-c.result c.put_stuffed-c.new.lent c.put_stuffed-c.ensures

pub put_stuffed-a-requires : goal.put_stuffed-a-requires
put_stuffed-a-requires c = simp length-set (omega (arith, fits (goal.at.put_stuffed-a-requires c).Start))

pub put_stuffed-b-requires : goal.put_stuffed-b-requires
put_stuffed-b-requires c =
    let g = goal.at.put_stuffed-b-requires c in
    omega (arith, fits g.Start, long₁ g.After-put_stuffed-a, c.put_stuffed-a.ensures.0)

pub put_stuffed-c-requires : goal.put_stuffed-c-requires
put_stuffed-c-requires c =
    let g = goal.at.put_stuffed-c-requires c in
    omega (arith, fits g.Start, long₁ g.After-put_stuffed-a, long₂ g.After-put_stuffed-b, c.put_stuffed-a.ensures.0, c.put_stuffed-b.ensures.0)

pub bounds-lent-c : goal.bounds-lent-c
bounds-lent-c c =
    let g = goal.at.bounds-lent-c c in
    omega (arith, fits g.Start, long₁ g.After-put_stuffed-a, long₂ g.After-put_stuffed-b, long₃ g.After-put_stuffed-c, c.put_stuffed-a.ensures.0, c.put_stuffed-b.ensures.0, c.put_stuffed-c.ensures.0)

pub returns : goal.returns
returns c =
    let a = c.args in
    frame_stored a.first.now a.payload.now a.last.now a.lent.now c.put_stuffed-a.result c.put_stuffed-b.result c.put_stuffed-c.result
    c.put_stuffed-a.new.lent c.put_stuffed-b.new.lent c.put_stuffed-c.new.lent c.put_stuffed-a.ensures c.put_stuffed-b.ensures c.put_stuffed-c.ensures
