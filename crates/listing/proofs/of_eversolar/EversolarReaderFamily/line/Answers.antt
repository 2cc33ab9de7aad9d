-- The line of a message is written where there is room.
use native.Mathlib.Omega.{arith}
use lib.ListN.{length-take}
use Rattle.eversolar.specs.Reader.{join}
use Rattle.listing_text.specs.Lines.{Shown, too_long, message_line}
use Rattle.listing_text.proofs.LineLengths.{not_too_long}
use Rattle.listing.specs.Entries.{show_eversolar}
use Rattle.listing.proofs.DrainReadsPiece.{put_line}
use Rattle.listing.proofs.of_eversolar.EversolarReaderFamily.line.Goals as goal

pub returns : goal.returns
returns c =
    let given : Shown = show_eversolar (join c.args.header c.args.payload.now) in
    let short = not_too_long given (omega arith) (omega arith) (omega arith) (simp length-take (omega (arith, c.requires.0))) in
    put_line (too_long given) (message_line c.args.port given) c.args.out.now _ c.message_2_2_2.result _ c.message_2_2_2.ensures short c.requires.2 c.unwrap_or.ensures
