-- `put_all` meets its promise: the digits of one part behind those of the other.
use native.Mathlib.Omega.{arith}
use Prim.Native.Nat.{ℕ, ◌-◌, ◌*◌, ◌/◌}
use mathlib.Core.Path.{◌≡◌, sym}
use mathlib.Core.List.{List}
use lib.ListN.{length, take, drop, length-drop}
use lib.Seq.{length-take-le, take_all}
use Rattle.listing_text.specs.Lines.{hex}
use Rattle.listing_text.proofs.FieldLengths.{hex_length, hex_parts}
use Rattle.listing_text.proofs.PutsJoin.{then}
use Rattle.listing_text.proofs.hex.put_all.Goals as goal

abbrev eights : List ℕ → ℕ
eights bs = length bs / 8 * 8

first : (bs : List ℕ) → length (take (eights bs) bs) ≡ eights bs
first bs = length-take-le (eights bs) bs (omega arith)

rest : (bs : List ℕ) → take (length bs - eights bs) (drop (eights bs) bs) ≡ drop (eights bs) bs
rest bs = take_all (length bs - eights bs) (drop (eights bs) bs) (omega (arith, length-drop (eights bs) bs))

pub slice_bounds-put_hex-end : goal.slice_bounds-put_hex-end
slice_bounds-put_hex-end c = sym (first c.args.bytes.now)

pub put_hex-p-requires : goal.put_hex-p-requires
put_hex-p-requires c = omega (arith, first c.args.bytes.now)

pub put_few-requires : goal.put_few-requires
put_few-requires c =
    let bs = c.args.bytes.now in
    omega (arith, c.put_hex-p.ensures.0, hex_length (take (eights bs) bs), first bs, length-drop (eights bs) bs, rest bs)

pub returns : goal.returns
returns c =
    let a = c.args in
    let bs = a.bytes.now in
    let q = c.put_few in
    let left = rw (rest bs) at q.ensures in
    let both = then a.lent.now c.put_hex-p.new.lent q.new.lent (hex (take (eights bs) bs)) (hex (drop (eights bs) bs)) a.at c.put_hex-p.result q.result c.put_hex-p.ensures left in
    rw (hex_parts (eights bs) bs) at both
