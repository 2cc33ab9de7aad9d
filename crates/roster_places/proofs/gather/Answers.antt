use mathlib.Core.Path.{refl, ◌≡◌, ◌∙◌, ap}
use native.Mathlib.Omega.{arith}
use lib.ListN.{length, set}
use Rattle.std.proofs.lemmas.List.{get_or_default}
use Rattle.roster.specs.Roster.{places, free_place}
use Rattle.roster.specs.Bytes.{places_of}
use Rattle.roster.proofs.PlacesInBytes.{count_places}
use Rattle.roster_places.proofs.BytesDecide.{miscounted}
use Rattle.roster_places.proofs.PlacesGathered.{agree_more, agree_all}
use Rattle.roster_places.proofs.gather.Goals as goal

pub returns-then-ps-ne-PLACES : goal.returns-then-ps-ne-PLACES
returns-then-ps-ne-PLACES c = (refl, miscounted c.args.ps.now c.if-ps-ne-PLACES.true)

pub loop-k-preserved : goal.loop-k-preserved
loop-k-preserved c =
    let count : length (places_of c.loop-k.all) ≡ places = count_places places c.loop-k.all c.loop-k.invariant.0 in
    let same = agree_more c.args.ps.now (places_of c.loop-k.all) (places_of c.put.new.all) free_place c.loop-k.k (omega arith) (c.put.ensures ∙ ap (set (places_of c.loop-k.all) c.loop-k.k) (get_or_default c.args.ps.now c.loop-k.k _ free_place (omega arith))) c.loop-k.invariant.1 in
    (omega arith, same)

pub returns : goal.returns
returns c = (c.loop-k.invariant.0, agree_all c.args.ps.now c.loop-k.all free_place c.loop-k.k c.loop-k.invariant.0 (omega arith) c.loop-k.invariant.1 c.if-ps-ne-PLACES.false)
