-- `give_sound` meets its promise: there, full, or new.
use Rattle.roster.specs.Roster.{used_by, free}
use Rattle.roster.proofs.SearchSteps.{found_within}
use Rattle.roster.proofs.CallEnds.{give_kept, give_full, give_new}
use Rattle.roster.proofs.give_sound.Goals as goal

pub address_of-requires : goal.address_of-requires
address_of-requires c = found_within (used_by c.args.serial.now) c.args.roster.now 0 c.in-Some.k c.requires.0 c.in-Some.ensures

pub returns-in-Some : goal.returns-in-Some
returns-in-Some c = rw c.address_of.ensures (give_kept c.args.roster.now c.args.serial.now c.in-Some.k c.in-Some.ensures)

pub returns-in_default-lowest_free : goal.returns-in_default-lowest_free
returns-in_default-lowest_free c = give_full c.args.roster.now c.args.serial.now c.in_default.ensures c.in_default-lowest_free.ensures

pub put-requires : goal.put-requires
put-requires c = (c.requires.0, found_within free c.args.roster.now 0 c.in-Some-lowest_free.lowest c.requires.0 c.in-Some-lowest_free.ensures, c.requires.1)

pub address_of-requires-2 : goal.address_of-requires-2
address_of-requires-2 c = found_within free c.args.roster.now 0 c.in-Some-lowest_free.lowest c.requires.0 c.in-Some-lowest_free.ensures

pub returns : goal.returns
returns c =
    rw c.address_of-2.ensures (give_new c.args.roster.now c.args.serial.now c.in-Some-lowest_free.lowest _ c.in_default.ensures c.in-Some-lowest_free.ensures c.put.ensures)
