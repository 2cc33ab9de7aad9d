-- `put_field` meets its promise: `-` or the digits, and a byte behind them.
use native.Mathlib.Omega.{arith}
use mathlib.Core.Path.{ap}
use lib.ListN.{length}
use Rattle.listing_text.specs.Lines.{hex}
use Rattle.listing_text.proofs.FieldLengths.{hex_length, field_length, field_none, field_some, width_some}
use Rattle.listing_text.proofs.PutsJoin.{and}
use Rattle.listing_text.proofs.hex.put_field.Goals as goal

pub put_none-requires : goal.put_none-requires
put_none-requires c =
    let a = c.args in
    omega (arith, field_length a.bytes.now, ap length (field_none a.bytes.now c.if-bytes-eq0.true))

pub returns-then-bytes-eq0 : goal.returns-then-bytes-eq0
returns-then-bytes-eq0 c =
    let i = c in
    let a = i.args in
    let r = c.put_none in
    let e = field_none a.bytes.now i.if-bytes-eq0.true in
    record { put = rw e r.ensures.put; value = omega (arith, r.ensures.value, field_length a.bytes.now, ap length e) }

pub put_all-p-requires : goal.put_all-p-requires
put_all-p-requires c = omega (arith, width_some (length c.args.bytes.now) c.if-bytes-eq0.false)

pub bounds-lent-p : goal.bounds-lent-p
bounds-lent-p c =
    let a = c.args in
    omega (arith, width_some (length a.bytes.now) c.if-bytes-eq0.false, c.put_all-p.ensures.0, hex_length a.bytes.now)

pub overflow_add-result : goal.overflow_add-result
overflow_add-result c =
    let a = c.args in
    omega (arith, width_some (length a.bytes.now) c.if-bytes-eq0.false, c.put_all-p.ensures.0, hex_length a.bytes.now)

pub returns : goal.returns
returns c =
    let a = c.args in
    let r = c.put_all-p in
    let some = c.if-bytes-eq0.false in record { put = rw (field_some a.bytes.now some) (and a.lent.now r.new.lent (hex a.bytes.now) a.at r.result a.after r.ensures); value = omega (arith, width_some (length a.bytes.now) some, r.ensures.0, hex_length a.bytes.now) }
