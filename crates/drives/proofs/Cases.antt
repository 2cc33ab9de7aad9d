-- The cases, by computation.
-- Assumes nothing.
use Prim.Native.Nat.{ℕ}
use mathlib.Core.Path.{◌≡◌, refl, ap}
use native.Mathlib.Omega.{arith}
use Rattle.answers.specs.Written.{writing}
use Rattle.stream.specs.Event.{Event}
use Rattle.drives.specs.Wire.{Message, opens, is_hex, is_letter, proper, frame_most, checksum, hex_digit}
use Rattle.drives.specs.Rules.{sized, agrees, judged, frame_length, within, sought}
use Rattle.drives.specs.Machine.{in_range, advance_of, moved, next}
use Rattle.drives.specs.Writer.{framing}
use Rattle.drives.specs.Cases.{PageWritten, PageRead, PageByReader, MostOfRequest, MostOfReply, Least, MostLost, MostCounted, Openings, Ends, Letters, HexInStation, HexInData, HexInSum, WrongSum, CutSum, Order, InnerOpening, Before, PageByWriter, MostWritten, OrderOfRefusals}

pub page_written : PageWritten
unfolding checksum hex_digit
page_written = refl

pub page_read : PageRead
unfolding opens is_hex is_letter proper frame_most checksum hex_digit sized agrees judged within sought
page_read = refl

pub page_by_reader : PageByReader
unfolding opens is_hex is_letter proper frame_most checksum hex_digit sized agrees judged in_range advance_of moved next
page_by_reader = refl

pub most_of_request : MostOfRequest
unfolding opens is_hex is_letter proper frame_most checksum hex_digit sized agrees judged within sought
most_of_request = (refl, refl)

pub most_of_reply : MostOfReply
unfolding opens is_hex is_letter proper frame_most checksum hex_digit sized agrees judged within sought
most_of_reply = (refl, refl, refl, refl, refl)

pub least : Least
unfolding opens is_hex is_letter proper frame_most checksum hex_digit sized agrees judged within sought
least = (refl, refl, refl, refl, refl, refl, refl)

pub most_lost : MostLost
unfolding frame_most sized judged
most_lost = (
  λ cs e. let n : frame_length cs ≡ 65534 = omega arith in ap {B = Event Message} (λ (k : ℕ). judged 0x05 k cs) n,
  λ cs h. let n : frame_length cs ≡ 65535 = omega arith in ap {B = Event Message} (λ (k : ℕ). judged 0x05 k cs) n,
)

pub most_counted : MostCounted
unfolding opens in_range
most_counted = (refl, refl, refl, refl)

pub openings : Openings
unfolding opens is_hex is_letter proper frame_most checksum hex_digit sized agrees judged within sought
openings = refl

pub ends : Ends
unfolding opens is_hex is_letter proper frame_most checksum hex_digit sized agrees judged within sought
ends = refl

pub letters : Letters
unfolding opens is_hex is_letter proper frame_most checksum hex_digit sized agrees judged within sought
letters = refl

pub hex_in_station : HexInStation
unfolding opens is_hex is_letter proper frame_most checksum hex_digit sized agrees judged within sought
hex_in_station = (refl, refl)

pub hex_in_data : HexInData
unfolding opens is_hex is_letter proper frame_most checksum hex_digit sized agrees judged within sought
hex_in_data = (refl, refl)

pub hex_in_sum : HexInSum
unfolding opens is_hex is_letter proper frame_most checksum hex_digit sized agrees judged within sought
hex_in_sum = (refl, refl)

pub wrong_sum : WrongSum
unfolding opens is_hex is_letter proper frame_most checksum hex_digit sized agrees judged within sought
wrong_sum = (refl, refl, refl)

pub cut_sum : CutSum
unfolding opens is_hex is_letter proper frame_most checksum hex_digit sized agrees judged within sought
cut_sum = refl

pub order : Order
unfolding opens is_hex is_letter proper frame_most checksum hex_digit sized agrees judged within sought
order = (refl, refl, refl, refl)

pub inner_opening : InnerOpening
unfolding opens is_hex is_letter proper frame_most checksum hex_digit sized agrees judged within sought in_range advance_of moved next
inner_opening = (refl, refl)

pub before : Before
unfolding opens is_hex is_letter proper frame_most checksum hex_digit sized agrees judged within sought
before = (refl, refl)

pub page_by_writer : PageByWriter
unfolding opens is_hex is_letter proper frame_most checksum hex_digit framing writing
page_by_writer = λ w later x. x

pub most_written : MostWritten
unfolding opens is_hex is_letter proper frame_most checksum hex_digit framing writing
most_written = (λ w later x. x, λ w later x. x, λ w later x. x, λ w later x. x, λ w later x. x)

pub order_of_refusals : OrderOfRefusals
unfolding opens is_hex is_letter proper frame_most checksum hex_digit framing writing
order_of_refusals = (λ w later x. x, λ w later x. x, λ w later x. x, λ w later x. x)
