-- What the program relies on of the header; and why it ends.
-- Assumes nothing.
use Rattle.std.specs.Prelude.{Ok}
use Prim.Native.Nat.{ℕ, ◌+◌, ◌*◌, ◌-◌, ◌≤◌}
use mathlib.Core.Path.{◌≡◌, ap, ◌∙◌}
use mathlib.Core.Bool.{Bool, true, false}
use mathlib.Core.List.{List, ◌++◌}
use lib.ListN.{length, drop}
use native.Mathlib.Omega.{arith}
use Rattle.std.specs.Result.{result_unwrap_or}
use Rattle.answers.specs.Written.{Written}
use Rattle.answers.proofs.WriterPromise.{writes_done, writes_one}
use Rattle.listing_text.specs.Lines.{title_line, IsTitle}
use Rattle.uplink.specs.Packet.{lead_length, piece_max}
use Rattle.listing.specs.Steps.{packets_max, room_least}
use Rattle.listing.specs.Inside.{Put}

-- ---- the header

pub started : (lent later : List ℕ) (w : Written) (n : ℕ) → IsTitle lent w later → room_least ≤ length lent → n ≡ result_unwrap_or w 0 → Put title_line lent n later
started lent later w n st room e =
    let one = writes_one false title_line lent later (title_line ++ drop (length title_line) lent) w (Ok (length title_line)) st (writes_done title_line lent (omega (arith, room))) in
    (e ∙ ap (λ (v : Written). result_unwrap_or v 0) one.0, one.1)

-- ---- why it ends: packets are counted, and a read that is not the last brings bytes, of which none is waited for once a packet is at hand

abbrev awaits : Bool → ℕ
awaits false = 1
awaits true = 0

abbrev pub left : (count hand : ℕ) → Bool → ℕ
left count hand ended = (packets_max - count) * 1000 + (lead_length + piece_max - hand) + awaits ended
