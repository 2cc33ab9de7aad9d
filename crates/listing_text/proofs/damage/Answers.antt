-- `damage` meets its promise: by its one test.
use native.Mathlib.Omega.{arith}
use mathlib.Core.List.{[], ◌∷◌, ◌++◌}
use Rattle.answers.proofs.WriterPromise.{writes_no_room}
use Rattle.listing_text.specs.Lines.{decimal, damage_line}
use Rattle.listing_text.proofs.FieldLengths.{damage_length, damage_text}
use Rattle.listing_text.proofs.PutsJoin.{then, written}
use Rattle.listing_text.proofs.damage.Goals as goal

pub returns-then-lent-places : goal.returns-then-lent-places
returns-then-lent-places c =
    let a = c.args in
    writes_no_room (damage_line a.port a.number a.lost) a.lent.now
    (omega (arith, damage_length a.port a.number a.lost, c.places.ensures.value, c.places-2.ensures.value, c.places-3.ensures.value))

pub put_number-q-requires : goal.put_number-q-requires
put_number-q-requires c = omega (arith, c.put_number-p.ensures.value)

pub put_number-requires : goal.put_number-requires
put_number-requires c = omega (arith, c.put_number-p.ensures.value, c.put_number-q.ensures.value)

pub returns : goal.returns
returns c =
    let e = c in
    let a = e.args in
    let l = a.lent.now in
    let p = c.put_number-p in
    let q = c.put_number-q in
    let r = c.put_number in
    let P = decimal a.port ++ (32 ∷ []) in
    let N = decimal a.number ++ (32 ∷ []) in
    let L = decimal a.lost ++ (10 ∷ []) in
    let one = then l p.new.lent q.new.lent P N 0 p.result q.result p.ensures.put q.ensures.put in
    let two = then l q.new.lent r.new.lent (P ++ N) L 0 q.result r.result one r.ensures.put in
    written l r.new.lent ((P ++ N) ++ L) (damage_line a.port a.number a.lost) r.result (damage_text a.port a.number a.lost)
    (omega (arith, damage_length a.port a.number a.lost, e.places.ensures.value, e.places-2.ensures.value, e.places-3.ensures.value)) two
