-- Reading ComLynx, with no machine: from the bytes that remain, and whether a flag was just seen, the first message or damage, and the bytes used
-- up to and with the flag that settles it.
use Rattle.std.specs.Prelude.{ℕ, min, ◌+◌, ◌-◌, Bool, true, false, cond, ◌&&◌, List, [], ◌∷◌, ◌++◌, length, get_or, eqb, leb}
use Rattle.std.proofs.Math.Option.{Option, none, some}
use Rattle.answers.specs.Answer.{need}
use Rattle.comlynx_checksum.specs.Checksum.{agrees}
use Rattle.stream.specs.Event.{Event, message, damage}
use Rattle.stream.specs.Rule.{Settled}
use Rattle.comlynx.specs.Wire.{Message, body_least, body_max, message_of, flag, escape, flag_pair, escape_pair}

-- ---- one whole stretch, the bytes between two successive flags

-- b in front of the bytes, if there are any
abbrev pub with_first : ℕ → Option (List ℕ) → Option (List ℕ)
with_first b none = none
with_first b (some bs) = some (b ∷ bs)

-- the body that the bytes of a stretch stand for; none where a 7D is not followed inside the stretch by 5E or 5D.
-- The first argument says whether a 7D stands right before the bytes
abbrev pub unstuffed : Bool → List ℕ → Option (List ℕ)
unstuffed false [] = some []
unstuffed true [] = none
unstuffed false (b ∷ bs) = cond (eqb b escape) (unstuffed true bs) (with_first b (unstuffed false bs))
unstuffed true (b ∷ bs) =
    cond (eqb b flag_pair) (with_first flag (unstuffed false bs))
    (cond (eqb b escape_pair) (with_first escape (unstuffed false bs)) none)

-- it has 10 to 265 bytes
abbrev pub sized : ℕ → Bool
sized n = leb body_least n && leb n body_max

-- it begins FF 03
abbrev pub begins : List ℕ → Bool
begins bs = eqb (get_or bs 0 0) 0xFF && eqb (get_or bs 1 0) 0x03

-- what the body bs of n bytes comes to, `right` saying whether its checksum agrees: 10 to 265 bytes, else 3; it begins FF 03, else 4;
-- size equals its length less 10, else 5; the checksum agrees, else 6. A damage loses the stretch, `lost` bytes
unfoldable pub judged : (lost n : ℕ) → Bool → List ℕ → Event Message
judged lost n right bs =
    need (sized n) (damage 3 lost)
    (need (begins bs) (damage 4 lost)
    (need (eqb (get_or bs 6 0) (n - body_least)) (damage 5 lost)
    (need right (damage 6 lost)
    (message (message_of bs)))))

-- before all these: every 7D is followed inside the stretch by 5E or 5D, else 2
abbrev pub judged_body : (lost : ℕ) → Option (List ℕ) → Event Message
judged_body lost none = damage 2 lost
judged_body lost (some bs) = judged lost (length bs) (agrees bs) bs

-- what is lost with a damage: the bytes between the two flags, as they were sent, 65,535 standing for that or more (document 02, Req 09)
abbrev pub lost_max : ℕ
lost_max = 65535

abbrev pub lost_of : List ℕ → ℕ
lost_of stretch = min (length stretch) lost_max

unfoldable pub judge : List ℕ → Event Message
judge stretch = judged_body (lost_of stretch) (unstuffed false stretch)

-- ---- one stretch after another, where `at` bytes were used before

-- in a stretch of which `came` has come: the next flag closes it, and opens the one after it; an empty one gives nothing
unfoldable pub within : ℕ → List ℕ → List ℕ → Option (Settled (Event Message))
within at came [] = none
within at came (b ∷ bs) =
    cond (eqb b flag)
    (cond (eqb (length came) 0) (within (at + 1) [] bs) (some (record { event = judge came; used = at + 1 })))
    (within (at + 1) (came ++ (b ∷ [])) bs)

-- bytes before the first flag are ignored
unfoldable pub before : ℕ → List ℕ → Option (Settled (Event Message))
before at [] = none
before at (b ∷ bs) = cond (eqb b flag) (within (at + 1) [] bs) (before (at + 1) bs)

-- THE RULE, by whether a flag was just seen: at the start none was; after an event its flag was
abbrev pub rule : Bool → List ℕ → Option (Settled (Event Message))
rule false bs = before 0 bs
rule true bs = within 0 [] bs
