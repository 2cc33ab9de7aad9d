-- `place_sound` meets its promise: by the mark.
use Prim.Native.Nat.{ℕ, ◌+◌}
use mathlib.Core.List.{List}
use mathlib.Core.Path.{◌∙◌, ap, subst}
use Rattle.roster.specs.Roster.{used_by, free_place}
use Rattle.roster.specs.Bytes.{places_of}
use Rattle.roster.specs.Inside.{FirstFrom}
use Rattle.numbers.specs.Lists as Lists
use Rattle.roster.proofs.SearchSteps.{serial_there}
use Rattle.roster.proofs.SoundTest.{sound_used, sound_neither, sound_free}
use Rattle.roster.proofs.place_sound.Goals as goal

pub returns-then-mark-eq-USED : goal.returns-then-mark-eq-USED
returns-then-mark-eq-USED c =
    let b : List ℕ = c.args.roster.now in
    let k : ℕ = c.args.k in
    let found = subst (λ (t : List ℕ). FirstFrom (used_by t) (places_of b) (k + 1) c.user.result) (serial_there b k) c.user.ensures in
    sound_used b k c.requires.0 c.requires.1 c.if-mark-eq-USED.true c.user.result c.is_none.result found c.is_none.ensures

pub returns-then-mark-ne-FREE : goal.returns-then-mark-ne-FREE
returns-then-mark-ne-FREE c = sound_neither c.args.roster.now c.args.k c.requires.0 c.requires.1 c.if-mark-eq-USED.false c.if-mark-ne-FREE.true

pub returns : goal.returns
returns c =
    let b : List ℕ = c.args.roster.now in
    let k : ℕ = c.args.k in
    c.same.ensures
    ∙ ap (λ (t : List ℕ). Lists.same t free_place.serial) (serial_there b k)
    ∙ sound_free b k c.requires.0 c.requires.1 c.if-mark-ne-FREE.false
