-- `comlynx_checksum::of_both` meets its contract: the loop over the first bytes, and on from there over the second.
use Prim.Native.Nat.{ℕ}
use mathlib.Core.Path.{◌∙◌, sym, ap}
use Rattle.comlynx_checksum.specs.Checksum.{checksum_of, checksum_from}
use Rattle.comlynx_checksum.proofs.ChecksumByBytes.{of_append}
use Rattle.comlynx_checksum.proofs.of_both.Goals as goal

pub returns : goal.returns
unfolding checksum_of
returns c =
    let a = c.args in
    c.run.ensures ∙ ap (λ (f : ℕ). checksum_from f a.second.now) c.run-after.ensures
    ∙ sym (of_append a.first.now a.second.now)
