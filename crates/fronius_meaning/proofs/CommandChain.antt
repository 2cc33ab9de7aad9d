-- The seven tests of a command, as a chain.
-- Assumes nothing.
use mathlib.Core.Path.{◌≡◌, ap}
use mathlib.Core.Bool.{Bool, true, false, cond}
use Rattle.std.proofs.Common.{Option, Some, None}
use lib.Ieee.{Float}
use Rattle.numbers.proofs.Alike.{zero_is_one}
use Rattle.fronius_meaning.specs.Reading.{carried}
use Rattle.fronius_meaning.specs.Demands.{double_in}
use Rattle.fronius_meaning.specs.declared.reading.Reading.{Reading}
use Rattle.fronius_meaning.specs.declared.reading.Reading.TheVariants.{Power, Energy, Voltage, Current, Frequency, Minutes, Money}

abbrev pub chain : Bool → Bool → Bool → Bool → Bool → Bool → Bool → Option (Float → Reading)
chain w e a v f m o =
    cond w (Some Power)
    (cond e (Some Energy)
    (cond a (Some Current)
    (cond v (Some Voltage)
    (cond f (Some Frequency)
    (cond m (Some Minutes)
    (cond o (Some Money)
    None))))))

same : (q r : Reading) → Some q ≡ Some r → double_in r ≡ double_in q
same q r h =
    let p : r ≡ q = cc in
    ap double_in p

none_is_not_some : (r : Reading) → None ≡ Some r → ⊥
none_is_not_some r h =
    zero_is_one cc

-- whatever it finds carries the double that it was given
pub carries : (w e a v f m o : Bool) (x : Float) (r : Reading) → carried (chain w e a v f m o) x ≡ Some r → double_in r ≡ x
carries true e a v f m o x r h = same (Power x) r h
carries false true a v f m o x r h = same (Energy x) r h
carries false false true v f m o x r h = same (Current x) r h
carries false false false true f m o x r h = same (Voltage x) r h
carries false false false false true m o x r h = same (Frequency x) r h
carries false false false false false true o x r h = same (Minutes x) r h
carries false false false false false false true x r h = same (Money x) r h
carries false false false false false false false x r h = absurd (none_is_not_some r h)
