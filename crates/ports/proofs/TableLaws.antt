-- The laws of the table of ports, by its rows.
-- Assumes nothing.
use Prim.Native.Nat.{ℕ, ◌+◌, ◌≤◌}
use mathlib.Core.Path.{◌≡◌, refl, sym, ap, ap₂, ◌∙◌}
use mathlib.Core.Logic.{◌⊎◌, inl, inr}
use mathlib.Core.Bool.{Bool, true, false}
use mathlib.Core.Option.{none, some}
use mathlib.Core.List.{List, [], ◌∷◌}
use lib.Dec.{eqb}
use borrow.Author.Tests.{ne_eqb, eqb-true, eqb-false}
use native.Mathlib.Omega.{arith}
use Rattle.numbers.proofs.Alike.{zero_is_one}
use Rattle.ports.specs.Ports.{Seat, seats, port_most, sum_over, row_of, seat_among, seat_at}
use Rattle.ports.specs.declared.Ports.{Ports}
use Rattle.ports.specs.declared.Step.{Step}
use Rattle.ports.specs.declared.Answer.{Answer}
use Rattle.ports.proofs.EveryRow.{facts_of, ported}

pub seat_at_lem : (seat : Seat) {port : ℕ} → port ≡ (row_of seat).port → seat_at port ≡ some seat
seat_at_lem seat e = ap seat_at e ∙ (facts_of seat).own_seat

-- two rows are one, or they are not
pub some_one : {a b : Seat} → some a ≡ some b → a ≡ b
some_one e = cc

pub same_port : (a b : Seat) → (row_of a).port ≡ (row_of b).port → a ≡ b
same_port a b e = some_one (sym (facts_of a).own_seat ∙ ap seat_at e ∙ (facts_of b).own_seat)

pub same_seat : (a b : Seat) → (a ≡ b) ⊎ (a ≡ b → ⊥)
same_seat a b = decide (eqb (row_of a).port (row_of b).port) refl
  where
    decide : (t : Bool) → eqb (row_of a).port (row_of b).port ≡ t → (a ≡ b) ⊎ (a ≡ b → ⊥)
    decide true e = inl (same_port a b (eqb-true (row_of a).port (row_of b).port e))
    decide false e = inr (λ same. eqb-false (row_of a).port (row_of b).port e (ap (λ (l : Seat). (row_of l).port) same))

pub other_port : (a b : Seat) → (a ≡ b → ⊥) → eqb (row_of a).port (row_of b).port ≡ false
other_port a b n = ne_eqb (row_of a).port (row_of b).port (λ e. n (same_port a b e))

-- no row has the port
none_among : (ls : List Seat) (port : ℕ) → ((seat : Seat) → port ≡ (row_of seat).port → ⊥) → seat_among ls port ≡ none
none_among [] port out = refl
none_among (l ∷ ls) port out = rw (ne_eqb port (row_of l).port (out l)) (none_among ls port out)

pub no_seat : (port : ℕ) → ((seat : Seat) → port ≡ (row_of seat).port → ⊥) → seat_at port ≡ none
unfolding seat_at
no_seat port out = none_among seats port out

pub no_none : (seat : Seat) → some seat ≡ none → ⊥
no_none seat e = zero_is_one cc

pub outside : (port : ℕ) → ((1 ≤ port) × (port ≤ port_most) → ⊥) → seat_at port ≡ none
outside port out = no_seat port (λ seat e. out (omega (arith, (facts_of seat).span.0), omega (arith, (facts_of seat).span.1)))

pub within : (port : ℕ) → (1 ≤ port) × (port ≤ port_most) → seat_at port ≡ none → ⊥
within port inside e = let found = ported port inside.0 inside.1 in no_none found.0 (sym (seat_at_lem found.0 (sym found.1)) ∙ e)

pub answered : (ports : Ports) (used : ℕ) {a b : Answer} → a ≡ b
    → ◌≡◌ {A = Step} (record { ports = ports; answer = a; used = used }) (record { ports = ports; answer = b; used = used })
answered ports used e = ap {B = Step} (λ (v : Answer). record { ports = ports; answer = v; used = used }) e

-- ---- sums over rows

pub sums_alike : (ls : List Seat) (f g : Seat → ℕ) → ((seat : Seat) → f seat ≡ g seat) → sum_over ls f ≡ sum_over ls g
sums_alike [] f g same = refl
sums_alike (l ∷ ls) f g same = ap₂ ◌+◌ (same l) (sums_alike ls f g same)

pub sums_to_none : (ls : List Seat) (f : Seat → ℕ) → ((seat : Seat) → f seat ≡ 0) → sum_over ls f ≡ 0
sums_to_none [] f none-there = refl
sums_to_none (l ∷ ls) f none-there = let more = sums_to_none ls f none-there in omega (arith, none-there l)
