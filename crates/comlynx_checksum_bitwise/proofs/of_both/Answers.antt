-- `comlynx_checksum_bitwise::of_both` meets its contract: over the first bytes, and on from there over the second.
use Prim.Native.Nat.{ℕ}
use mathlib.Core.Path.{◌∙◌, sym, ap}
use Rattle.comlynx_checksum.specs.Checksum.{checksum_from}
use Rattle.comlynx_checksum.proofs.ChecksumByBytes.{of_append}
use Rattle.comlynx_checksum_bitwise.proofs.of_both.Goals as goal

pub returns : goal.returns
returns c =
    let a = c.args in
    c.more.ensures ∙ ap (λ (f : ℕ). checksum_from f a.second.now) c.of.ensures
    ∙ sym (of_append a.first.now a.second.now)
