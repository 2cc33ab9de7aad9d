-- The 256 entries as a list, by the rule. No public promise cites this, so it need not be read.
-- Assumes nothing.
use Rattle.std.specs.Prelude.{ℕ, zero, suc, List, [], ◌∷◌}
use Rattle.comlynx_checksum.specs.Checksum.{entry}

-- the values of g at i, i + 1, .., n of them
unfoldable pub tabulate : (ℕ → ℕ) → ℕ → ℕ → List ℕ
tabulate g i zero = []
tabulate g i (suc n) = g i ∷ tabulate g (suc i) n

unfoldable pub checksum_table : List ℕ
checksum_table = tabulate entry 0 256
