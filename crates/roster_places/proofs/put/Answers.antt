-- `put` meets its promise: the store and the copy make the bytes of the place.
use native.Mathlib.Omega.{arith}
use Rattle.roster_places.proofs.PlacesGathered.{put_there}
use Rattle.roster_places.proofs.put.Goals as goal

pub returns : goal.returns
returns c =
    put_there c.args.all.now c.copy_from_slice.new.self c.args.k _ c.args.place (omega arith) c.requires (omega arith) (omega arith) c.copy_from_slice.ensures.after
