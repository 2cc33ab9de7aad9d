use native.Mathlib.Omega.{arith}
use Prim.Native.Nat.{ℕ}
use mathlib.Core.Path.{sym, ap, ◌∙◌}
use mathlib.Core.List.{List}
use lib.ListN.{length-set, drop_of_length-le}
use lib.Seq.{sets}
use Rattle.listing_text.specs.Lines.{hex}
use Rattle.listing_text.proofs.FieldLengths.{hex_length}
use Rattle.listing_text.proofs.PutsJoin.{two}
use Rattle.listing_text.proofs.hex.put_hex.Goals as goal

pub loop-b-preserved : goal.loop-b-preserved
loop-b-preserved c =
    let a = c.args in
    let l = c.loop-b in (
      omega (arith, l.invariant.0),
      simp length-set l.invariant.1,
      rw (c.high.ensures, c.low.ensures) (two a.bytes.now l.lent l.b-index l.p c.loop-b-test.true ∙ l.invariant.2),
    )

pub returns : goal.returns
returns c =
    let a = c.args in
    let l = c.loop-b in
    let none = drop_of_length-le a.bytes.now {i = l.b-index} c.loop-b-test.false in
    (omega (arith, l.invariant.0, hex_length a.bytes.now), ap (λ (t : List ℕ). sets l.lent l.p (hex t)) (sym none) ∙ l.invariant.2)
