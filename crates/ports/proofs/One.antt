-- For each public call: two results, and two later contents of what was lent, that its promise allows are one.
-- Assumes nothing.
use Prim.Native.Nat.{ℕ}
use mathlib.Core.Path.{◌≡◌, sym, ap, ◌∙◌}
use mathlib.Core.Option.{Option, none, some}
use mathlib.Core.List.{List}
use Rattle.ports.specs.Ports.{Seat, row_of, seat_at, stepped, StepsOn, IsFresh, IsStep}
use Rattle.ports.specs.declared.Ports.{Ports}
use Rattle.ports.specs.declared.Step.{Step}
use Rattle.ports.proofs.EveryRow.{facts_of, whole}

pub fresh_one : (r s : Ports) → IsFresh r → IsFresh s → r ≡ s
fresh_one r s x y = whole r s (λ seat. x seat ∙ sym (y seat))

on_one : (on : Option Seat) (ports : Ports) (piece lent a b : List ℕ) (q r : Step) → StepsOn on ports piece lent q a → StepsOn on ports piece lent r b → (q ≡ r) × (a ≡ b)
on_one none ports piece lent a b q r x y = (x.0 ∙ sym y.0, x.1 ∙ sym y.1)
on_one (some seat) ports piece lent a b q r x y =
    let same = (facts_of seat).one ((row_of seat).get ports) piece lent a b x.0 y.0 x.1 y.1 in
    (x.2 ∙ ap (stepped seat ports) same.0 ∙ sym y.2, same.1)

pub step_one : (ports : Ports) (port : ℕ) (piece lent a b : List ℕ) (q r : Step) → IsStep ports port piece lent q a → IsStep ports port piece lent r b → (q ≡ r) × (a ≡ b)
step_one ports port = on_one (seat_at port) ports
