-- Entries one after another: their lines and their counts.
-- Assumes nothing.
use Prim.Native.Nat.{ℕ, ◌+◌}
use mathlib.Core.Path.{◌≡◌, refl, sym, ap, ◌∙◌}
use mathlib.Core.List.{List, [], ◌∷◌, ◌++◌, append_assoc}
use native.Mathlib.Omega.{arith}
use Rattle.listing.specs.Entries.{Entry, entry_line, lines_of, messages_in, damages_in}

pub lines_append : (a b : List Entry) → lines_of (a ++ b) ≡ lines_of a ++ lines_of b
lines_append [] b = refl
lines_append (e ∷ a) b =
    ap (λ (t : List ℕ). entry_line e.port e.event ++ t) (lines_append a b) ∙ sym (append_assoc (entry_line e.port e.event) (lines_of a) (lines_of b))

pub messages_append : (a b : List Entry) → messages_in (a ++ b) ≡ messages_in a + messages_in b
messages_append [] b = omega arith
messages_append (e ∷ a) b = omega (arith, messages_append a b)

pub damages_append : (a b : List Entry) → damages_in (a ++ b) ≡ damages_in a + damages_in b
damages_append [] b = omega arith
damages_append (e ∷ a) b = omega (arith, damages_append a b)
