-- What is demanded of a listing: that the calls make it, and what it says of the messages that were written.
use Rattle.std.specs.Prelude.{ℕ, ◌+◌, ◌≤◌, ◌<◌, ◌≡◌, Bool, true, false, cond, List, [], ◌∷◌, ◌++◌, map, length, take, drop, T, eqb}
use Rattle.std.proofs.Math.Pow.{are_bytes}
use Rattle.answers.specs.Answer.{answer}
use Rattle.answers.specs.Written as Written
use Rattle.answers.specs.declared.Refusal.{Refusal}
use Rattle.answers.specs.Written.{Written}
use Rattle.stream.specs.Event.{Event, message}
use Rattle.stream.specs.Written.{written, Each}
use Rattle.uplink.specs.Packet as Uplink
use Rattle.uplink.specs.Packet.{lead_length, piece_max}
use Rattle.ports.specs.Ports.{Seat, seats, sum_over, row_of}
use Rattle.listing_text.specs.Lines.{Shown, title_line, end_line}
use Rattle.listing.specs.Entries.{Entry, lines_of, messages_in, damages_in}
use Rattle.listing.specs.Steps.{Packet, packets_max}
use Rattle.listing_whole.specs.Listing.{found, joined, entries, listing_of}
use Rattle.listing.specs.Steps.{IsFresh, IsStep, room_least}
use Rattle.listing.specs.declared.Listing.{Listing}
use Rattle.listing.specs.declared.Listed.{Listed}
use Rattle.listing.specs.declared.Heard.TheVariants.{More, Packet as Took, End, Refused}

-- ---- the calls make the listing

-- what a host has of the input that is left: a front of it, and all of it once the input has ended
pub record Has (ended : Bool) (front left : List ℕ) : Type 0 where
  pub rest : List ℕ
  pub joins : left ≡ front ++ rest
  pub all : ended ≡ true → rest ≡ []

-- WHAT A HOST PRINTS, from a listing on, of the input that is left: it calls on what it has; where more is wanted it reads on;
-- what a call wrote is printed, and what it used is gone. Every sequence of such calls that the promise of `step` allows, with any buffers
pub data Prints : Listing → (left text : List ℕ) → Type 0 where
  reads_on : {l : Listing} {left text : List ℕ} (front lent later : List ℕ) (r : Listed) → Has false front left
      → IsStep l front false lent r later → r.heard ≡ More → Prints r.listing left text → Prints l left text
  takes : {l : Listing} {left text : List ℕ} (front lent later : List ℕ) (ended : Bool) (r : Listed) → Has ended front left
      → IsStep l front ended lent r later → r.heard ≡ Took → Prints r.listing (drop r.used left) text
      → Prints l left (take r.wrote later ++ text)
  ends : {l : Listing} {left : List ℕ} (front lent later : List ℕ) (ended : Bool) (r : Listed) → Has ended front left
      → IsStep l front ended lent r later → r.heard ≡ End → Prints l left (take r.wrote later)

-- whatever the host was lent and however the input came in, what it prints after the header is the listing of the input
abbrev pub Makes : Type 0
Makes = (input text : List ℕ) (l : Listing) → T (are_bytes input) → IsFresh l → Prints l input text → title_line ++ text ≡ listing_of input

-- and it gets on, and ends: more is wanted only where the input has not ended and less than the longest packet is at hand, and changes nothing; a packet taken has
-- at least a byte in its piece, was at hand, and counts; the end uses nothing
abbrev pub GetsOn : Type 0
GetsOn =
    (l : Listing) (input lent later : List ℕ) (ended : Bool) (r : Listed) → IsStep l input ended lent r later
    → (r.heard ≡ More → (ended ≡ false) × (length input < lead_length + piece_max) × (r.listing ≡ l) × (r.used ≡ 0) × (r.wrote ≡ 0))
    × (r.heard ≡ Took → (lead_length < r.used) × (r.used ≤ length input) × (l.packets < packets_max) × (r.listing.packets ≡ l.packets + 1))
    × (r.heard ≡ End → (r.used ≡ 0) × (r.listing ≡ l))

-- a listing that calls lead to from a fresh one
pub data Reached : Listing → Type 0 where
  at_first : {l : Listing} → IsFresh l → Reached l
  by_call : {l : Listing} → Reached l → (input lent later : List ℕ) (ended : Bool) (r : Listed) → IsStep l input ended lent r later → Reached r.listing

-- no call on it is refused that is lent enough
abbrev pub NeverRefused : Type 0
NeverRefused =
    (l : Listing) → Reached l → (input lent later : List ℕ) (ended : Bool) (r : Listed) → IsStep l input ended lent r later → room_least ≤ length lent
    → (why : Refusal) → r.heard ≡ Refused why → ⊥

-- a result of this call that the promise of `step` allows
pub record Result (l : Listing) (input : List ℕ) (ended : Bool) (lent : List ℕ) : Type 0 where
  pub result : Listed
  pub later : List ℕ
  pub steps : IsStep l input ended lent result later

-- every call has one: on any listing, forged ones too, whatever bytes are at hand and whatever is lent
abbrev pub Answers : Type 0
Answers = (l : Listing) (input lent : List ℕ) (ended : Bool) → T (are_bytes input) → Result l input ended lent

-- a text that a host prints, from a listing on, of the input
pub record Print (l : Listing) (input : List ℕ) : Type 0 where
  pub text : List ℕ
  pub prints : Prints l input text

-- so every input is printed: there are calls from a fresh listing up to its end
abbrev pub Printed : Type 0
Printed = (input : List ℕ) (l : Listing) → T (are_bytes input) → IsFresh l → Print l input

-- after a refusal the listing and the lent buffer are as they were, and nothing is used or written
abbrev pub Kept : Type 0
Kept =
    (l : Listing) (input lent later : List ℕ) (ended : Bool) (r : Listed) (why : Refusal) → IsStep l input ended lent r later → r.heard ≡ Refused why
    → (r.listing ≡ l) × (r.used ≡ 0) × (r.wrote ≡ 0) × (later ≡ lent)

-- ---- what is listed

-- the entries of one port, in order
abbrev pub on_port : (port : ℕ) → List Entry → List (Event Shown)
on_port port [] = []
on_port port (e ∷ es) = cond (eqb e.port port) (e.event ∷ on_port port es) (on_port port es)

-- FOR EACH PORT, ITS LINES IN ORDER ARE WHAT THE RULE OF ITS FAMILY FINDS in that port's pieces joined
abbrev pub ByPort : Type 0
ByPort = (port : ℕ) (ps : List Packet) → T (are_bytes (joined port ps)) → on_port port (entries [] ps) ≡ found port (joined port ps)

-- so cutting the same bytes into other packets changes only how the ports interleave
abbrev pub CutsDoNotMatter : Type 0
CutsDoNotMatter =
    (port : ℕ) (ps qs : List Packet) → T (are_bytes (joined port ps)) → joined port ps ≡ joined port qs
    → on_port port (entries [] ps) ≡ on_port port (entries [] qs)

-- packets as the packet writer's promise leaves them, one after another
pub data Packed : List Packet → List ℕ → Type 0 where
  no_more : Packed [] []
  and_one : {ps : List Packet} {bytes : List ℕ} (p : Packet) (lent later : List ℕ) (w : Written) (n : ℕ)
      → Uplink.IsWritten p.port p.piece lent w later → Written.told w ≡ answer 0 (n ∷ []) → Packed ps bytes → Packed (p ∷ ps) (take n later ++ bytes)

-- messages for each line
abbrev pub Messages : Type 0
Messages = (seat : Seat) → List (row_of seat).family.Message

-- an input lists as exactly these messages, those of each line on its port and in order, nothing on any other port, and no damage; and the end line counts them
pub record ListsAs (input : List ℕ) (ms : Messages) : Type 0 where
  pub listed : List Entry
  pub each : (seat : Seat) → on_port (row_of seat).port listed ≡ map (λ m. message ((row_of seat).show m)) (ms seat)
  pub only : (port : ℕ) → ((seat : Seat) → (row_of seat).port ≡ port → ⊥) → on_port port listed ≡ []
  pub messages : messages_in listed ≡ sum_over seats (λ seat. length (ms seat))
  pub damages : damages_in listed ≡ 0
  pub text : listing_of input ≡ title_line ++ (lines_of listed ++ end_line (messages_in listed) (damages_in listed))

-- THE STORED DAY: messages written on each port, packed by the packet writer cut anywhere and in any order of the ports, list as exactly those messages
abbrev pub StoredDay : Type 0
StoredDay =
    (ps : List Packet) (input : List ℕ) → Packed ps input → length ps ≤ packets_max
    → (ms : Messages) → ((seat : Seat) → Each (row_of seat).family.Takes (ms seat))
    → ((seat : Seat) → joined (row_of seat).port ps ≡ written (row_of seat).family.wire (ms seat))
    → ListsAs input ms
