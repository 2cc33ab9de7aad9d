-- `fronius_meaning::measured::thousandths` meets its contract: a refusal is that of the parts, and the product of the parts is the rule's.
use Rattle.std.proofs.Common.{◌≡◌, ℕ, ◌^◌, Err, ℤ, pos, ◌*ℤ◌, w64, sym, ap, ◌∙◌, rules}
use mir.ValLaws.{to_z-of_z}
use borrow.Author.Rules.{sfits_of}
use Rattle.answers.specs.Refusal.{refused_as}
use Rattle.fronius_meaning.specs.Measured.{tens_of, value_of, told, tells, thousandths_of}
use Rattle.fronius_meaning.specs.declared.measured.Parts.{Parts}
use Rattle.fronius_meaning.proofs.TestsInOrder.{refused_by, given_by, taken, kept}
use Rattle.fronius_meaning.proofs.measured.thousandths.Goals as goal

-- a product whose factors are known
made : {r x v : ℤ} {k m : ℕ} → r ≡ x *ℤ pos (10 ^ k) → x ≡ v → k ≡ m → tells 0 r ≡ tells 0 (v *ℤ pos (10 ^ m))
made e f g = rw (e, f, g)

pub returns-in_err-parts : goal.returns-in_err-parts
unfolding thousandths_of
returns-in_err-parts c =
    let e : c.from_residual.result ≡ Err c.in_err-parts.field-0.0 = search rules in
    ap told e ∙ sym (refused_by c.args.payload.now (refused_as tells (pos 0)) _ c.in_err-parts.field-0.0 (sym c.in_err-parts.was ∙ c.parts_of.ensures))

pub returns : goal.returns
unfolding thousandths_of
returns c =
    let s = c.args.payload.now in
    let p = c.in_ok-parts.parts in
    let h = sym c.in_ok-parts.was ∙ c.parts_of.ensures in
    let t = taken s p h in
    made (to_z-of_z w64 _ (sfits_of c.times_ten_to.type_inv) ∙ c.times_ten_to.ensures)
    (to_z-of_z w64 _ (sfits_of c.value.type_inv) ∙ c.value.ensures.0 ∙ ap (λ (q : Parts). value_of c.args.signed q.word) t.0)
    (c.tens.ensures.0 ∙ ap tens_of (kept p.exponent t.1 t.2) ∙ ap (λ (q : Parts). tens_of q.exponent) t.0)
    ∙ sym (given_by s (refused_as tells (pos 0)) _ p h)
