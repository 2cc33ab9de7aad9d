use mathlib.Core.Path.{◌≡◌, sym, ap, ◌∙◌}
use mathlib.Core.Bool.{Bool}
use mathlib.Core.List.{[]}
use lib.ListN.{drop}
use Rattle.comlynx.specs.Rules.{within, rule}
use Rattle.comlynx.proofs.FlagsSearched.{before_searched}
use Prim.Native.Nat.{ℕ, ◌-◌}
use native.Mathlib.Omega.{arith}
use Rattle.comlynx.proofs.slice.opened.Goals as goal

-- where a flag was just seen the stretch begins at the place
pub returns-then-after_flag : goal.returns-then-after_flag
returns-then-after_flag c =
    let a = c.args in
    let e : 0 ≡ a.place - a.place = omega arith in
    (omega arith, omega arith, ap (λ (known : Bool). rule known (drop a.place a.slice.now)) (sym c.after_flag.ensures ∙ c.if-after_flag.true) ∙ ap (λ (n : ℕ). within n [] (drop a.place a.slice.now)) e)

pub returns : goal.returns
returns c =
    let k = c in
    let a = k.args in
    let f = c.byte_from.ensures in
    (f.0.0, f.0.1, ap (λ (known : Bool). rule known (drop a.place a.slice.now)) (sym k.after_flag.ensures ∙ k.if-after_flag.false) ∙ before_searched a.slice.now a.place c.byte_from.result f)
