-- `damage_line`: the line of a damage is written where there is room.
use mathlib.Core.Path.{refl}
use mathlib.Core.Bool.{false}
use Rattle.answers.specs.Damage as DamageNumber
use Rattle.listing_text.specs.Lines.{damage_line}
use Rattle.listing.proofs.DrainReadsPiece.{put_line}
use Rattle.listing.proofs.drain.damage_line.Goals as goal

pub returns : goal.returns
returns c =
    let a = c.args in
    put_line false (damage_line a.port (DamageNumber.number a.what) a.lost) a.out.now _ c.damage.result _ (rw c.number.ensures at c.damage.ensures) refl c.requires c.unwrap_or.ensures
