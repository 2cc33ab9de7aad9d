-- `put` meets its promise: the store and the copy make the bytes of the place.
use native.Mathlib.Omega.{arith}
use Rattle.roster.proofs.PlacesInBytes.{place_put}
use Rattle.roster.proofs.put.Goals as goal

pub returns : goal.returns
returns c =
    place_put
    c.args.roster.now
    c.copy_from_slice.new.self
    c.args.k
    _
    (record { mark = c.args.mark; serial = c.args.serial.now })
    c.requires.0
    c.requires.1
    c.requires.2
    (omega arith)
    c.copy_from_slice.ensures.after
