-- `message_0_2_1` meets its promise: by its test, and by the law of the fields put one behind the other.
use native.Mathlib.Omega.{arith}
use Prim.Native.Nat.{◌≤◌}
use lib.ListN.{length}
use lib.Dec.{ltb}
use mathlib.Core.Path.{◌≡◌, sym, ◌∙◌}
use mathlib.Core.Bool.{Bool, ◌||◌}
use mathlib.Core.List.{[], ◌∷◌}
use Rattle.listing_text.specs.Lines.{Shown, shown, too_long}
use Rattle.listing_text.specs.Inside.{width_of, line_length}
use Rattle.listing_text.proofs.FieldLengths.{message_length}
use Rattle.listing_text.proofs.MessageWrites.{line_join, message_refused, message_fits, has_room}
use Rattle.listing_text.proofs.message_0_2_1.Goals.{After-is_refused, Else-is_refused}
use Rattle.listing_text.proofs.message_0_2_1.Goals as goal

abbrev given : After-is_refused → Shown
given s = shown [] (s.args.to1 ∷ s.args.to2 ∷ []) (s.args.code ∷ []) s.args.payload.now

-- the test
tested : (c : After-is_refused) (b : Bool) → c.is_refused.result ≡ b
    → (too_long (given c) || ltb (length c.args.lent.now) (message_length c.args.port (given c))) ≡ b
unfolding width_of
tested c b is = sym c.is_refused.ensures ∙ is

-- where it is not refused, the line fits
room : (c : Else-is_refused) → line_length c.args.port 7 (length c.args.payload.now) ≤ length c.args.lent.now
room c =
    let a = c.args in
    has_room a.port 7 (length a.payload.now) (length a.lent.now) c.is_refused.ensures c.if-is_refused.false

pub returns-then-is_refused : goal.returns-then-is_refused
returns-then-is_refused c =
    let s = (goal.at.returns-then-is_refused c).After-is_refused in
    rw c.refusal.ensures (message_refused s.args.port (given s) s.args.lent.now (tested s _ c.if-is_refused.true))

pub put_0_2-p-requires : goal.put_0_2-p-requires
put_0_2-p-requires c = omega (arith, room (goal.at.put_0_2-p-requires c).Else-is_refused)

pub put_one-q-requires : goal.put_one-q-requires
put_one-q-requires c = omega (arith, room (goal.at.put_one-q-requires c).Else-is_refused)

pub put_field-requires : goal.put_field-requires
put_field-requires c = omega (arith, room (goal.at.put_field-requires c).Else-is_refused)

pub returns : goal.returns
returns c =
    let s = (goal.at.returns c).After-is_refused in
    let lent = c.args.lent.now in
    let p = c.put_0_2-p in
    let q = c.put_one-q in
    let f = c.put_field in
    message_fits c.args.port (given s) lent f.new.lent f.result (tested s _ c.if-is_refused.false)
    (line_join c.args.port (given s) lent p.new.lent q.new.lent f.new.lent p.result q.result f.result p.ensures.put q.ensures.put f.ensures.put)
