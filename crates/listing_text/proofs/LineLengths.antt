-- What a caller counts on: how long each line is at most, and what a call leaves where there is room.
-- Assumes nothing.
use Rattle.std.specs.Prelude.{Ok}
use Prim.Native.Nat.{ℕ, ◌+◌, ◌*◌, ◌≤◌, ◌<◌}
use mathlib.Core.Path.{◌≡◌, refl}
use mathlib.Core.Bool.{Bool, false}
use mathlib.Core.List.{List, ◌++◌}
use lib.ListN.{length, drop}
use borrow.Author.Tests.{le-ltb}
use native.Mathlib.Omega.{arith}
use Rattle.answers.specs.Written.{Writes}
use Rattle.answers.specs.Written.{Written}
use Rattle.answers.proofs.WriterPromise.{writes_one, writes_done}
use Rattle.listing_text.specs.Lines.{decimal, title_line, Shown, message_line, damage_line, stop_line, end_line, field_max, too_long}
use Rattle.listing_text.proofs.FieldLengths.{width_most, decimal_8, decimal_10, decimal_64, message_length_lem, damage_length, stop_length, end_length}

-- ---- lengths

pub title_length : length title_line ≡ 30
title_length = refl

-- of a port of 8 bits
pub message_most : (port : ℕ) (m : Shown) → port < 256
    → length (message_line port m) ≤ 14 + 2 * (length m.from + length m.to + length m.code + length m.payload)
message_most port m h =
    omega
    (arith, message_length_lem port m, decimal_8 port h, width_most (length m.from), width_most (length m.to), width_most (length m.code), width_most (length m.payload))

-- of a port of one digit and a number of 8 bits
pub damage_most : (port number lost : ℕ) → port < 10 → number < 256 → length (damage_line port number lost) ≤ 7 + length (decimal lost)
damage_most port number lost h k = omega (arith, damage_length port number lost, decimal_10 port h, decimal_8 number k)

pub stop_most_lem : (number : ℕ) → number < 256 → length (stop_line number) ≤ 9
stop_most_lem number h = omega (arith, stop_length number, decimal_8 number h)

pub end_most_lem : (messages damages : ℕ) → messages < 18446744073709551616 → damages < 18446744073709551616 → length (end_line messages damages) ≤ 46
end_most_lem messages damages h k = omega (arith, end_length messages damages, decimal_64 messages h, decimal_64 damages k)

-- ---- where there is room

-- four lists, none of them too long
pub not_too_long : (m : Shown) → length m.from ≤ field_max → length m.to ≤ field_max → length m.code ≤ field_max → length m.payload ≤ field_max → too_long m ≡ false
not_too_long m f t c b =
    rw (le-ltb field_max (length m.from) f, le-ltb field_max (length m.to) t, le-ltb field_max (length m.code) c, le-ltb field_max (length m.payload) b)

-- the line stands at the front, and its length is told: of every call here, each promise being `Writes` of its line
pub line_written : (long : Bool) (line lent later : List ℕ) (w : Written) → Writes long line lent w later → long ≡ false → length line ≤ length lent
    → (w ≡ Ok (length line)) × (later ≡ line ++ drop (length line) lent)
line_written long line lent later w x e room =
    writes_one false line lent later (line ++ drop (length line) lent) w (Ok (length line)) (rw e at x) (writes_done line lent room)
