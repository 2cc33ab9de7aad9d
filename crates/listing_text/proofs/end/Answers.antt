-- `end` meets its promise: by its one test.
use native.Mathlib.Omega.{arith}
use mathlib.Core.Path.{refl}
use mathlib.Core.List.{[], ◌∷◌, ◌++◌}
use Rattle.answers.proofs.WriterPromise.{writes_no_room}
use Rattle.listing_text.specs.Lines.{decimal, end_word, end_line}
use Rattle.listing_text.proofs.FieldLengths.{end_length, end_text}
use Rattle.listing_text.proofs.PutsJoin.{copied, then, written}
use Rattle.listing_text.proofs.end.Goals as goal

pub returns-then-lent-places : goal.returns-then-lent-places
returns-then-lent-places c =
    let a = c.args in
    writes_no_room (end_line a.messages a.damages) a.lent.now
    (omega (arith, end_length a.messages a.damages, c.places.ensures.value, c.places-2.ensures.value))

pub put_number-requires : goal.put_number-requires
put_number-requires c = omega (arith, c.put_number-p.ensures.value)

pub returns : goal.returns
returns c =
    let e = c in
    let a = e.args in
    let l = a.lent.now in
    let w = c.copy_from_slice in
    let p = c.put_number-p in
    let q = c.put_number in
    let W = end_word ++ (32 ∷ []) in
    let M = decimal a.messages ++ (32 ∷ []) in
    let D = decimal a.damages ++ (10 ∷ []) in
    let word = copied l w.new.self W (omega arith) w.ensures.after in
    let one = then l _ p.new.lent W M 0 4 p.result (refl, word) p.ensures.put in
    let two = then l p.new.lent q.new.lent (W ++ M) D 0 p.result q.result one q.ensures.put in
    written l q.new.lent ((W ++ M) ++ D) (end_line a.messages a.damages) q.result (end_text a.messages a.damages)
    (omega (arith, end_length a.messages a.damages, e.places.ensures.value, e.places-2.ensures.value)) two
