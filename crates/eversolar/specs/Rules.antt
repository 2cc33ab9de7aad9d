-- Reading Eversolar, with no machine: from the bytes that remain the first message or damage, and the bytes used up to and with its last.
use Rattle.std.specs.Prelude.{ℕ, ◌+◌, Bool, cond, ◌&&◌, List, [], ◌∷◌, length, take, drop, get_or, eqb, ltb}
use Rattle.std.proofs.Math.Option.{Option, none, some}
use Rattle.answers.specs.Answer.{need}
use Rattle.stream.specs.Event.{Event, message, damage}
use Rattle.stream.specs.Rule.{Settled}
use Rattle.eversolar_words.specs.Words.{word}
use Rattle.eversolar.specs.Wire.{Message, first_mark, second_mark, earlier_of, checksum, message_of}

-- what a frame comes to, by the six bytes, N, the data and the checksum that came: the sum is right, else 6, and the whole
-- frame is lost, 11 plus N
unfoldable pub judged : List ℕ → ℕ → List ℕ → ℕ → Event Message
judged six n payload sum =
    need (eqb sum (checksum (earlier_of six n payload))) (damage 6 (11 + n))
    (message (message_of six payload))

-- where `at` bytes came before, up to and with AA 55: six bytes, N, N data bytes and the checksum, once they are all there
-- (while N is not, it counts as 0, and the checksum is missing)
unfoldable pub frame : ℕ → List ℕ → Option (Settled (Event Message))
frame at bs =
    let n = get_or bs 6 0 in
    cond (ltb (length bs) (9 + n)) none
    (some (record { event = judged (take 6 bs) n (take n (drop 7 bs)) (word (get_or bs (7 + n) 0) (get_or bs (8 + n) 0)); used = at + (9 + n) }))

-- AA directly followed by 55 stands at the front
abbrev pub opens : List ℕ → Bool
opens bs = eqb (get_or bs 0 0) first_mark && eqb (get_or bs 1 0) second_mark

-- the first AA directly followed by 55: the second of two AA may still open a header
unfoldable pub sought : ℕ → List ℕ → Option (Settled (Event Message))
sought at [] = none
sought at (b ∷ bs) = cond (opens (b ∷ bs)) (frame (at + 2) (drop 1 bs)) (sought (at + 1) bs)

-- THE RULE. Nothing is known of the bytes before: after a message or a 6 looking starts afresh
abbrev pub rule : Unit {0} → List ℕ → Option (Settled (Event Message))
rule known bs = sought 0 bs
