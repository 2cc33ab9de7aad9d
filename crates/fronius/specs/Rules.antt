-- Reading Fronius, with no machine: from the bytes that remain the first message or damage, and the bytes used up to and with its last.
use Rattle.std.specs.Prelude.{ℕ, ◌+◌, Bool, cond, ◌&&◌, List, [], ◌∷◌, length, take, drop, get_or, eqb, ltb}
use Rattle.std.proofs.Math.Option.{Option, none, some}
use Rattle.answers.specs.Answer.{need}
use Rattle.stream.specs.Event.{Event, message, damage}
use Rattle.stream.specs.Rule.{Settled}
use Rattle.fronius.specs.Wire.{Message, mark, checksum, message_of}

-- what a frame comes to, by its length, its body and the checksum that came: the sum is right, else 6, and the whole frame is lost, 8 plus N
unfoldable pub judged : ℕ → List ℕ → ℕ → Event Message
judged len bs sum =
    need (eqb sum (checksum (len ∷ bs))) (damage 6 (8 + len))
    (message (message_of bs))

-- where `at` bytes came before, up to and with the length: the body and the checksum, once they are all there
unfoldable pub frame : ℕ → ℕ → List ℕ → Option (Settled (Event Message))
frame at len bs =
    cond (ltb (length bs) (len + 4)) none
    (some (record { event = judged len (take (len + 3) bs) (get_or bs (len + 3) 0); used = at + (len + 4) }))

-- after three successive 80 comes the length: a further 80 there is taken as part of the start; 81 to FF is 7,
-- and 4 bytes are lost, whatever 80s came before
unfoldable pub sized : ℕ → List ℕ → Option (Settled (Event Message))
sized at [] = none
sized at (b ∷ bs) =
    cond (eqb b mark) (sized (at + 1) bs)
    (cond (ltb mark b) (some (record { event = damage 7 4; used = at + 1 })) (frame (at + 1) b bs))

-- three successive 80 stand at the front
abbrev pub starts : List ℕ → Bool
starts bs = eqb (get_or bs 0 0) mark && (eqb (get_or bs 1 0) mark && eqb (get_or bs 2 0) mark)

-- the first three successive 80
unfoldable pub sought : ℕ → List ℕ → Option (Settled (Event Message))
sought at [] = none
sought at (b ∷ bs) = cond (starts (b ∷ bs)) (sized (at + 3) (drop 2 bs)) (sought (at + 1) bs)

-- THE RULE. Nothing is known of the bytes before: after a message, a 6 or a 7 the three are counted afresh
abbrev pub rule : Unit {0} → List ℕ → Option (Settled (Event Message))
rule known bs = sought 0 bs
