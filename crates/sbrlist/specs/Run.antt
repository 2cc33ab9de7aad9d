-- What the program's own functions promise: what stands in its buffers, and that its calls of `step` are those of a host that prints the listing of
-- what was read (`Prints` of listing_whole).
use Rattle.std.specs.Prelude.{ℕ, ◌-◌, ◌≤◌, ◌<◌, ◌+◌, ◌≡◌, Bool, true, false, List, [], ◌++◌, length, take, drop}
use Rattle.uplink.specs.Packet.{lead_length, piece_max}
use Rattle.listing_text.specs.Lines.{title_line}
use Rattle.listing.specs.Steps.{IsFresh, packets_max}
use Rattle.listing.specs.Inside.{Put}
use Rattle.listing.specs.declared.Listing.{Listing}
use Rattle.listing.specs.declared.Listed.{Listed}
use Rattle.listing.specs.declared.Heard.TheVariants.{More, Packet as Took, End}
use Rattle.listing_whole.specs.Demands.{Prints}
use Rattle.sbrlist.specs.declared.Window.{Window}

-- ---- the input's buffer

-- what is at hand of the input: a part of the buffer
abbrev pub part : (from to : ℕ) → List ℕ → List ℕ
part from to buffer = take (to - from) (drop from buffer)

-- `move_front`: the part stands at the front, and behind it all is as it was
abbrev pub moved_front : (from to : ℕ) → List ℕ → List ℕ
moved_front from to buffer = part from to buffer ++ drop (to - from) buffer

-- `read_on`, where the read did not fail, of the buffer, what was at hand, what is now and the buffer afterwards: what was at hand stands at the front, and
-- behind it what the read brought; that is nothing where the input has ended, and only there
pub record IsReadOn (buffer : List ℕ) (from to : ℕ) (r : Window) (later : List ℕ) : Type 0 where
  pub at_front : r.from ≡ 0
  pub inside : r.to ≤ length buffer
  pub longer : to - from ≤ r.to
  pub kept : take (to - from) later ≡ part from to buffer
  pub ends : r.ended ≡ true → r.to ≡ to - from
  pub brings : r.ended ≡ false → to - from < r.to

-- ---- the output's buffer

-- `start`: the header stands at the front, and behind it all is as it was
abbrev pub IsStarted : (lent : List ℕ) (n : ℕ) (later : List ℕ) → Type 0
IsStarted lent n later = Put title_line lent n later

-- what may follow of the input: nothing, once it has ended
abbrev pub Follows : (ended : Bool) → List ℕ → Type 0
Follows ended rest = ended ≡ true → rest ≡ []

-- packets taken, by their count before and afterwards, and the bytes that they used
abbrev pub Counts : (before after used : ℕ) → Type 0
Counts before after used = (before ≤ after) × (after ≡ before → used ≡ 0) × (before < after → after ≤ packets_max)

-- `fill`, of the listing to go on from, what is at hand of the input, whether that is all, the lent buffer, the result and the buffer afterwards: a text stands at the
-- front, and behind it all is as it was. Whatever a host prints of what is left of the input, it prints behind this text of all of it; and where the
-- listing has ended, this text is all
pub record IsFilled (l : Listing) (input : List ℕ) (ended : Bool) (lent : List ℕ) (r : Listed) (later : List ℕ) : Type 0 where
  pub text : List ℕ
  pub put : Put text lent r.wrote later
  pub used : r.used ≤ length input
  pub goes_on : (r.heard ≡ End → ⊥) → (rest more : List ℕ) → Follows ended rest → Prints r.listing (drop r.used input ++ rest) more
      → Prints l (input ++ rest) (text ++ more)
  pub ends : r.heard ≡ End → (rest : List ℕ) → Follows ended rest → Prints l (input ++ rest) text
  -- why the program ends: more is wanted only where less than the longest packet is left and more may come; and what is used is packets, which are counted
  pub wants : r.heard ≡ More → (ended ≡ false) × (length input - r.used < lead_length + piece_max)
  pub counts : Counts l.packets r.listing.packets r.used
  pub counted : r.heard ≡ Took → l.packets < r.listing.packets

-- ---- the run

-- `flush`: this text was handed to standard output, and all of it was taken. A contract cannot say what is written, so whoever likes can make one of these; the
-- program's proof makes it in `flush` alone, of what `flush` writes
pub data Handed : List ℕ → Type 0 where
  handed : (text : List ℕ) → Handed text

-- texts handed over one behind the other come to this text
pub data Came : List ℕ → Type 0 where
  at_first : {text : List ℕ} → Handed text → Came text
  and_then : {before text : List ℕ} → Came before → Handed text → Came (before ++ text)

-- A RUN SO FAR, of what is at hand, whether that is all that is left, and the listing: calls were made from a fresh listing on, one behind the other, of the
-- bytes that are gone and what is at hand; what they printed behind the header is this text, and header and text came out
pub record Ran (hand : List ℕ) (ended : Bool) (l : Listing) : Type 0 where
  pub first : Listing
  pub fresh : IsFresh first
  pub gone : List ℕ
  pub text : List ℕ
  pub came : Came (title_line ++ text)
  pub goes_on : (rest more : List ℕ) → Follows ended rest → Prints l (hand ++ rest) more → Prints first (gone ++ (hand ++ rest)) (text ++ more)

-- `list`, where it comes to the end of the listing, of the input's buffer: what came out is the header and what a host prints (`Prints`, and so by `Makes` the
-- listing) of the bytes that are gone and those at hand, whatever more may follow them
pub record Printed (buffer : List ℕ) : Type 0 where
  pub first : Listing
  pub fresh : IsFresh first
  pub gone : List ℕ
  pub from : ℕ
  pub to : ℕ
  pub ended : Bool
  pub text : List ℕ
  pub came : Came (title_line ++ text)
  pub prints : (rest : List ℕ) → Follows ended rest → Prints first (gone ++ (part from to buffer ++ rest)) text
