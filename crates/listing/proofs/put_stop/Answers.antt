-- `put_stop` meets its promise: where something stops, there is room.
use native.Mathlib.Omega.{arith}
use mathlib.Core.Path.{refl}
use mathlib.Core.Bool.{false}
use Rattle.listing_text.specs.Lines.{stop_line}
use Rattle.listing_text.proofs.LineLengths.{stop_most_lem}
use Rattle.answers.specs.Refusal.{number}
use Rattle.listing.proofs.DrainReadsPiece.{put_line}
use Rattle.listing.proofs.put_stop.Goals as goal

pub returns-in-Some : goal.returns-in-Some
returns-in-Some c =
    let a = c.args in
    let s = c.stop in
    let n = number c.in-Some.why in
    let most = stop_most_lem n (omega (arith, c.number.ensures)) in
    let put = put_line false (stop_line n) a.out.now s.new.lent s.result c.unwrap_or.result (rw c.number.ensures at s.ensures) refl (omega arith) c.unwrap_or.ensures in
    rw c.in-Some.is (record { put = put; upper_bound = omega (arith, put.0) })
