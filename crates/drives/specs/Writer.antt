-- What the writer promises.
use Rattle.std.specs.Prelude.{ℕ, ◌+◌, ◌≡◌, Bool, false, cond, ◌&&◌, List, length, ltb}
use Rattle.answers.specs.Answer.{Answer, need}
use Rattle.answers.specs.Refusal.{refused}
use Rattle.answers.specs.Written.{told, writing}
use Rattle.answers.specs.declared.Refusal.TheVariants.{TooLong, WrongCharacter}
use Rattle.answers.specs.Written.{Written}
use Rattle.drives.specs.Wire.{Message, opens, proper, frame_least, frame_most, covered, wire}

-- the frame would be longer than one that its opening byte may open
abbrev pub too_long : Message → Bool
too_long m = ltb (frame_most m.opening) (frame_least + length m.payload)

-- every character is in its set, the opening byte in its own
abbrev pub in_sets : Message → Bool
in_sets m = opens m.opening && proper (covered m)

-- THE WRITER TESTS 8, THEN 21, THEN 9: what is told, and the lent buffer afterwards
unfoldable pub framing : Bool → Bool → List ℕ → List ℕ → Answer × List ℕ
framing long in_sets frame lent =
    cond long (refused 1 TooLong, lent)
    (need in_sets (refused 1 WrongCharacter, lent)
    (writing false frame lent))

abbrev pub WritesMessage : Message → List ℕ → Written → List ℕ → Type 0
WritesMessage m lent w later =
    let after = framing (too_long m) (in_sets m) (wire m) lent in
    (told w ≡ after.0) × (later ≡ after.1)

-- what `write` promises of opening byte, station, letter and data, the lent buffer, its result and the buffer afterwards
abbrev pub IsWritten : ℕ → ℕ → ℕ → ℕ → List ℕ → List ℕ → Written → List ℕ → Type 0
IsWritten opening first second letter payload =
    WritesMessage (record { opening = opening; station_first = first; station_second = second; letter = letter; payload = payload })
