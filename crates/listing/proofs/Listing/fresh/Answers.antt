-- `Listing::fresh` meets its promise: the readers are fresh.
use mathlib.Core.Path.{refl}
use Rattle.listing.proofs.Listing.fresh.Goals as goal

pub returns : goal.returns
returns c = record { readers = c.fresh-ports.ensures; packets = refl; messages = refl; damages = refl }
