-- `stop` meets its promise: by its one test.
use native.Mathlib.Omega.{arith}
use mathlib.Core.Path.{refl}
use mathlib.Core.List.{[], ◌∷◌, ◌++◌}
use Rattle.answers.proofs.WriterPromise.{writes_no_room}
use Rattle.listing_text.specs.Lines.{decimal, stop_word, stop_line}
use Rattle.listing_text.proofs.FieldLengths.{stop_length}
use Rattle.listing_text.proofs.PutsJoin.{copied, then, written}
use Rattle.listing_text.proofs.stop.Goals as goal

pub returns-then-lent-places : goal.returns-then-lent-places
returns-then-lent-places c =
    let a = c.args in
    writes_no_room (stop_line a.number) a.lent.now (omega (arith, stop_length a.number, c.places.ensures.value))

pub returns : goal.returns
returns c =
    let e = c in
    let a = e.args in
    let l = a.lent.now in
    let w = c.copy_from_slice in
    let p = c.put_number in
    let W = stop_word ++ (32 ∷ []) in
    let N = decimal a.number ++ (10 ∷ []) in
    let word = copied l w.new.self W (omega arith) w.ensures.after in
    let put = then l _ p.new.lent W N 0 5 p.result (refl, word) p.ensures.put in
    written l p.new.lent (W ++ N) (stop_line a.number) p.result refl (omega (arith, stop_length a.number, e.places.ensures.value)) put
