-- `fronius_meaning::reading::reading_of` meets its contract: device and command first, then a refusal is that of the parts, and the reading
-- carries the double of the parts.
use Rattle.std.proofs.Common.{◌≡◌, ℕ, List, Some, None, Err, sym, ap, ◌∙◌, rules, arith}
use borrow.Author.Tests.{eq-eqb}
use Rattle.answers.specs.Refusal.{refused_as}
use Rattle.fronius_meaning.specs.Measured.{word_of, exponent_byte, exponent_of, tested}
use Rattle.fronius_meaning.specs.Reading.{kind_of, maker, makers, double_of, reading_of, told, tells, Told}
use Rattle.fronius_meaning.specs.declared.measured.Parts.{Parts}
use Rattle.fronius_meaning.specs.declared.reading.Kind.{Kind}
use Rattle.fronius_meaning.specs.declared.reading.Reading.{Reading}
use Rattle.fronius_meaning.proofs.TestsInOrder.{refused_by, given_by, taken, kept}
use Rattle.fronius_meaning.proofs.reading.reading_of.Goals as goal

given : Kind → List ℕ → Told
given kind s = tells 0 (Some (maker kind (double_of (word_of s) (exponent_of (exponent_byte s)))))

-- for a command that measures something the tests of a measured value are left
asked : (device command : ℕ) (s : List ℕ) (kind : Kind) → device ≡ 1 → makers (Some kind) ≡ kind_of command
    → reading_of device command s ≡ tested s (refused_as tells None) (given kind s)
unfolding reading_of given
asked device command s kind d k = rw (eq-eqb device 1 d, sym k)

pub returns-in_err-parts : goal.returns-in_err-parts
returns-in_err-parts c =
    let a = c.args in
    let s = a.payload.now in
    let e : c.from_residual.result ≡ Err c.in_err-parts.field-0.0 = search rules in
    ap told e
    ∙ sym (asked a.device a.command s c.in-Some.kind (omega arith) c.in-Some.ensures
    ∙ refused_by s (refused_as tells None) _ c.in_err-parts.field-0.0 (sym c.in_err-parts.was ∙ c.parts_of.ensures))

pub returns : goal.returns
unfolding given
returns c =
    let a = c.args in
    let s = a.payload.now in
    let p = c.in_ok-parts.parts in
    let kind = c.in-Some.kind in
    let h = sym c.in_ok-parts.was ∙ c.parts_of.ensures in
    let t = taken s p h in
    ap (λ (r : Reading). tells 0 (Some r))
    (c.reading.ensures
    ∙ ap (maker kind) (c.double.ensures ∙ ap (double_of p.word) (kept p.exponent t.1 t.2) ∙ ap (λ (q : Parts). double_of q.word q.exponent) t.0))
    ∙ sym (asked a.device a.command s kind (omega arith) c.in-Some.ensures ∙ given_by s (refused_as tells None) _ p h)
