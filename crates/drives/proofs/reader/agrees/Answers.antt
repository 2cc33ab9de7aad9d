-- `reader::agrees`: the sum over the held characters is that over those that came.
use Rattle.drives.specs.Wire.{checksum, hex_digit}
use Rattle.drives.specs.Rules.{agrees}
use native.Mathlib.Nat.{sub-zero}
use native.Mathlib.Omega.{arith}
use Prim.Native.Nat.{ℕ, ◌+◌, ◌-◌, ◌/◌, ◌%◌, ◌≤◌}
use mathlib.Core.Path.{◌≡◌, ap, ◌∙◌}
use mathlib.Core.Bool.{◌&&◌}
use mathlib.Core.List.{List}
use lib.ListN.{length, take, get_or}
use lib.Seq.{get_or-take, length-take-le, take-take}
use lib.Dec.{eqb}
use Rattle.drives.proofs.reader.agrees.Goals as goal

-- of the held characters the first `count` came
held_agrees : (count : ℕ) (held : List ℕ) → 2 ≤ count → count ≤ length held
    → (let k = count - 2 in
    let sum = checksum (take k held) in
    eqb (get_or held k 0) (hex_digit (sum / 16)) && eqb (get_or held (k + 1) 0) (hex_digit (sum % 16)) ≡ agrees (take count held))
unfolding agrees
held_agrees count held h room =
    rw (
      length-take-le count held room,
      take-take (count - 2) count held (omega arith),
      get_or-take count held (count - 2) 0 (omega arith),
      get_or-take count held (count - 2 + 1) 0 (omega arith),
    )

pub returns : goal.returns
returns c =
    let sum = c in
    let a = sum.args in
    let is : sum.checksum_of-sum.result ≡ checksum (take (a.count - 2) a.held.now) =
    sum.checksum_of-sum.ensures ∙ ap (λ (k : ℕ). checksum (take k a.held.now)) (sub-zero (a.count - 2)) in
    rw (c.digit.ensures, c.digit-2.ensures, is)
    (held_agrees a.count a.held.now (omega arith) (omega arith))
