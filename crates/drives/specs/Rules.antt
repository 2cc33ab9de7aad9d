-- Reading drives, with no machine: from the bytes that remain the first message or damage, and the bytes used up to and with its EOT.
use Rattle.std.specs.Prelude.{ℕ, min, ◌+◌, ◌-◌, ◌/◌, ◌%◌, Bool, cond, ◌&&◌, List, [], ◌∷◌, ◌++◌, length, take, get_or, eqb, leb}
use Rattle.std.proofs.Math.Option.{Option, none, some}
use Rattle.answers.specs.Answer.{need}
use Rattle.stream.specs.Event.{Event, message, damage}
use Rattle.stream.specs.Rule.{Settled}
use Rattle.drives.specs.Wire.{Message, opens, eot, proper, frame_least, frame_most, checksum, hex_digit, message_of}

-- ---- one frame of n bytes, cs standing between its opening byte and its EOT

-- it has 7 to 44 bytes, a reply 7 to 39
unfoldable pub sized : ℕ → ℕ → Bool
sized opening n = leb frame_least n && leb n (frame_most opening)

-- its last two characters are the sum of those before them
unfoldable pub agrees : List ℕ → Bool
agrees cs =
    let k = length cs - 2 in
    eqb (get_or cs k 0) (hex_digit (checksum (take k cs) / 16)) && eqb (get_or cs (k + 1) 0) (hex_digit (checksum (take k cs) % 16))

-- what it comes to: a right length, else 3; every character in its set, else 21; the sum agrees, else 6. A damage loses all of it
unfoldable pub judged : (opening n : ℕ) → List ℕ → Event Message
judged opening n cs =
    need (sized opening n) (damage 3 n)
    (need (proper cs) (damage 21 n)
    (need (agrees cs) (damage 6 n)
    (message (message_of opening cs))))

-- a frame's bytes from opening byte through EOT, 65,535 standing for that or more (document 02, Req 09)
abbrev pub lost_max : ℕ
lost_max = 65535

abbrev pub frame_length : List ℕ → ℕ
frame_length cs = min (length cs + 2) lost_max

abbrev pub judge : ℕ → List ℕ → Event Message
judge opening cs = judged opening (frame_length cs) cs

-- ---- one frame after another, where `at` bytes were used before

-- in a frame of which `came` has come since its opening byte: it is judged at its EOT
unfoldable pub within : (at opening : ℕ) → List ℕ → List ℕ → Option (Settled (Event Message))
within at opening came [] = none
within at opening came (b ∷ bs) =
    cond (eqb b eot) (some (record { event = judge opening came; used = at + 1 }))
    (within (at + 1) opening (came ++ (b ∷ [])) bs)

-- bytes before an opening byte are ignored
unfoldable pub sought : ℕ → List ℕ → Option (Settled (Event Message))
sought at [] = none
sought at (b ∷ bs) = cond (opens b) (within (at + 1) b [] bs) (sought (at + 1) bs)

-- THE RULE. Nothing is known of the bytes before: after an EOT an opening byte is looked for
abbrev pub rule : Unit {0} → List ℕ → Option (Settled (Event Message))
rule known bs = sought 0 bs
