-- A list by its rule, `tabulate`: what stands at a place of it. So one computation over all entries gives the rule at each.
-- Assumes nothing.
use mathlib.Core.Path.{◌≡◌, ◌∙◌, ap, sym}
use Prim.Native.Nat.{ℕ, zero, suc, ◌+◌, ◌<◌}
use native.Mathlib.Nat.{add-zero, zero-add, add-suc, suc-add, le_of_suc-le-suc, not-suc-le-zero}
use lib.ListN.{get_or}
use Rattle.comlynx_checksum.specs.Table.{tabulate}

at_from : (g : ℕ → ℕ) (i n k : ℕ) → k < n → get_or (tabulate g i n) k 0 ≡ g (i + k)
unfolding tabulate
at_from g i zero k h = absurd (not-suc-le-zero h)
at_from g i (suc n) zero h = ap g (sym (add-zero i))
at_from g i (suc n) (suc k) h = at_from g (suc i) n k (le_of_suc-le-suc h) ∙ ap g (suc-add i k ∙ sym (add-suc i k))

pub get_d_tabulate : (g : ℕ → ℕ) (n k : ℕ) → k < n → get_or (tabulate g 0 n) k 0 ≡ g k
get_d_tabulate g n k h = at_from g 0 n k h ∙ ap g (zero-add k)
