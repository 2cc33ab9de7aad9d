use Rattle.drives.specs.Wire.{eot}
use Rattle.drives.specs.Machine.{held_max}
use Rattle.drives.specs.Inside.{Filled}
use Rattle.drives.proofs.FillScans.{filled_none, filled_more}
use native.Mathlib.Omega.{arith}
use Prim.Native.Nat.{ℕ, ◌+◌, ◌-◌, ◌≤◌, ◌<◌}
use mathlib.Core.Path.{◌≡◌, sym, ◌∙◌, ap, subst}
use mathlib.Core.List.{List}
use lib.ListN.{length, take, drop, get_or, set, length-take, length-drop}
use lib.Seq.{get_or-take, get_or-drop}
use Rattle.drives.proofs.reader.fill.Goals as goal

-- one more of at most `most` bytes behind `from`
more : (count from most n : ℕ) (held piece now : List ℕ) → n < length (take most (drop from piece)) → from + most ≤ length piece → count + most ≤ held_max
    → (get_or (take most (drop from piece)) n 0 ≡ eot → ⊥) → Filled count held piece from (from + n) now
    → Filled count held piece from (from + (n + 1)) (set now (count + n) (get_or (take most (drop from piece)) n 0))
more count from most n held piece now lt there room other f =
    let within : n < most = omega (arith, length-take most (drop from piece)) in
    let same : get_or (take most (drop from piece)) n 0 ≡ get_or piece (from + n) 0 = get_or-take most (drop from piece) n 0 within ∙ get_or-drop from piece n 0 in
    let next : from + n + 1 ≡ from + (n + 1) = omega arith in
    subst (λ (l : List ℕ). Filled count held piece from (from + (n + 1)) l) (ap (set now (count + n)) (sym same))
    (subst (λ (j : ℕ). Filled count held piece from j (set now (count + n) (get_or piece (from + n) 0))) next
    (filled_more count held piece from (count + n) (from + n) now (omega arith) f (omega arith) (omega arith) (λ e. other (same ∙ e))))

pub loop-n-init : goal.loop-n-init
loop-n-init c =
    let a = c.args in
    let none : a.from ≡ a.from + 0 = omega arith in
    subst (λ (j : ℕ). Filled a.count a.held.now a.piece.now a.from j a.held.now) none (filled_none a.count a.held.now a.piece.now a.from (omega arith) (omega arith))

pub returns-then-b-eq-EOT : goal.returns-then-b-eq-EOT
returns-then-b-eq-EOT c = c.loop-n.invariant

pub loop-n-preserved : goal.loop-n-preserved
loop-n-preserved c =
    let a = c.args in
    more a.count a.from (a.from + c.min.result - a.from) c.loop-n.n a.held.now a.piece.now c.loop-n.held c.loop-n-test.true (omega (arith, c.min.ensures)) (omega (arith, c.min.ensures))
    c.if-b-eq-EOT.false c.loop-n.invariant

pub returns : goal.returns
returns c =
    let a = c.args in
    let all : a.from + c.loop-n.n ≡ a.from + c.min.result =
    omega (arith, c.min.ensures, c.loop-n.auto.n-end, c.loop-n-test.false, length-take (a.from + c.min.result - a.from) (drop a.from a.piece.now), length-drop a.from a.piece.now) in
    subst (λ (j : ℕ). Filled a.count a.held.now a.piece.now a.from j c.loop-n.held) all c.loop-n.invariant
