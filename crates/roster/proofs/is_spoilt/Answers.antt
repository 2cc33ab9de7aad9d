use Prim.Native.Nat.{ℕ, suc, ◌≤◌}
use mathlib.Core.Bool.{not, ◌&&◌, Bool}
use mathlib.Core.Path.{sym, ◌∙◌, ap}
use native.Mathlib.Numerals.{add-one}
use native.Mathlib.Omega.{arith}
use lib.ListN.{drop_of_length-le, length, drop}
use Rattle.roster.specs.Roster.{places}
use Rattle.roster.specs.Roster as Roster
use Rattle.roster.specs.Bytes.{places_of}
use Rattle.roster.proofs.PlacesInBytes.{count_places}
use Rattle.roster.proofs.SoundTest.{sound_from, other_size, this_size}
use Rattle.roster.proofs.is_spoilt.Goals as goal

pub returns-then-roster-ne-ROSTER_SIZE : goal.returns-then-roster-ne-ROSTER_SIZE
returns-then-roster-ne-ROSTER_SIZE c = sym (other_size c.args.roster.now c.if-roster-ne-ROSTER_SIZE.true)

pub returns-then-not-place_sound : goal.returns-then-not-place_sound
returns-then-not-place_sound c =
    let b = c.args.roster.now in
    sym (this_size b c.if-roster-ne-ROSTER_SIZE.false ∙ ap not (c.loop-k.invariant ∙ sound_from b c.loop-k.k c.if-roster-ne-ROSTER_SIZE.false c.loop-k-test.true ∙ ap (λ (t : Bool). t && Roster.sound (drop (suc c.loop-k.k) (places_of b))) (sym c.place_sound.ensures ∙ c.if-not-place_sound.true)))

pub loop-k-preserved : goal.loop-k-preserved
loop-k-preserved c =
    let b = c.args.roster.now in
    c.loop-k.invariant
    ∙ sound_from b c.loop-k.k c.if-roster-ne-ROSTER_SIZE.false c.loop-k-test.true
    ∙ ap (λ (t : Bool). t && Roster.sound (drop (suc c.loop-k.k) (places_of b))) (sym c.place_sound.ensures ∙ c.if-not-place_sound.false)
    ∙ ap (λ (n : ℕ). Roster.sound (drop n (places_of b))) (sym (add-one c.loop-k.k))

pub returns : goal.returns
returns c =
    let b = c.args.roster.now in
    let nothing : length (places_of b) ≤ c.loop-k.k = omega (arith, count_places places b c.if-roster-ne-ROSTER_SIZE.false, c.loop-k-test.false) in
    sym (this_size b c.if-roster-ne-ROSTER_SIZE.false ∙ ap not (c.loop-k.invariant ∙ ap Roster.sound (drop_of_length-le (places_of b) nothing)))
