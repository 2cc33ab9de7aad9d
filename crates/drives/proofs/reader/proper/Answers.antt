-- `reader::proper`: what is tested of the held characters is what the sets ask of those that came.
use Rattle.drives.specs.Wire.{is_hex, all_hex, is_letter, proper}
use Rattle.drives.proofs.JudgedIsDelivered.{behind_letter}
use native.Mathlib.Omega.{arith}
use Prim.Native.Nat.{ℕ, ◌-◌, ◌≤◌}
use mathlib.Core.Path.{◌≡◌}
use mathlib.Core.Bool.{◌&&◌, and_assoc}
use mathlib.Core.List.{List}
use lib.ListN.{take, drop, get_or}
use lib.Seq.{get_or-take}
use Rattle.drives.proofs.reader.proper.Goals as goal

-- of the held characters the first `count` came
held_proper : (count : ℕ) (held : List ℕ) → 3 ≤ count
    → ((is_hex (get_or held 0 0) && is_hex (get_or held 1 0)) && is_letter (get_or held 2 0)) && all_hex (take (count - 3) (drop 3 held)) ≡ proper (take count held)
unfolding proper
held_proper count held h =
    rw (get_or-take count held 0 0 (omega arith), get_or-take count held 1 0 (omega arith), get_or-take count held 2 0 (omega arith), behind_letter count held h)
    (simp and_assoc)

pub returns : goal.returns
returns c =
    let all = c in
    let a = all.args in
    rw (c.is_hex.ensures, c.is_hex-2.ensures, c.is_letter.ensures, all.all_hex-rest.ensures)
    (held_proper a.count a.held.now (omega arith))
