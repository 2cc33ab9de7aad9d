-- For each public call: two results, and two later contents of what was lent, that its promise allows are one.
-- Assumes nothing.
use mathlib.Core.Path.{◌≡◌, sym, ap, ◌∙◌}
use mathlib.Core.Bool.{Bool}
use mathlib.Core.List.{List}
use Prim.Native.Nat.{ℕ}
use Rattle.ports.specs.declared.Ports.{Ports}
use Rattle.ports.proofs.One as Table
use Rattle.listing.specs.Steps.{IsFresh, IsStep}
use Rattle.listing.specs.declared.Listing.{Listing}
use Rattle.listing.specs.declared.Listed.{Listed}

pub fresh_one : (r s : Listing) → IsFresh r → IsFresh s → r ≡ s
fresh_one r s x y =
    ap {B = Listing} (λ (ps : Ports). record { ports = ps; packets = r.packets; messages = r.messages; damages = r.damages }) (Table.fresh_one r.ports s.ports x.readers y.readers)
    ∙ ap {B = Listing} (λ (n : ℕ). record { ports = s.ports; packets = n; messages = r.messages; damages = r.damages }) (x.packets ∙ sym y.packets)
    ∙ ap {B = Listing} (λ (n : ℕ). record { ports = s.ports; packets = s.packets; messages = n; damages = r.damages }) (x.messages ∙ sym y.messages)
    ∙ ap {B = Listing} (λ (n : ℕ). record { ports = s.ports; packets = s.packets; messages = s.messages; damages = n }) (x.damages ∙ sym y.damages)

pub step_one : (l : Listing) (input : List ℕ) (ended : Bool) (lent a b : List ℕ) (q r : Listed) → IsStep l input ended lent q a → IsStep l input ended lent r b → (q ≡ r) × (a ≡ b)
step_one l input ended lent a b q r x y = (x.0 ∙ sym y.0, x.1 ∙ sym y.1)
