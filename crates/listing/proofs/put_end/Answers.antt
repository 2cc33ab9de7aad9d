-- `put_end` meets its promise: there is room.
use native.Mathlib.Omega.{arith}
use mathlib.Core.Path.{refl}
use mathlib.Core.Bool.{false}
use Rattle.listing_text.specs.Lines.{end_line}
use Rattle.listing_text.proofs.LineLengths.{end_most_lem}
use Rattle.listing.proofs.DrainReadsPiece.{put_line}
use Rattle.listing.proofs.put_end.Goals as goal

pub returns : goal.returns
returns c =
    let a = c.args in
    let e = c.end in
    let most = end_most_lem a.messages a.damages (omega arith) (omega arith) in
    let put = put_line false (end_line a.messages a.damages) a.out.now e.new.lent e.result c.unwrap_or.result e.ensures refl (omega arith) c.unwrap_or.ensures in
    record { put = put; upper_bound = omega (arith, put.0) }
