-- How a reader's inner functions hand a message's payload over. No public promise cites this file: it need not be read.
use Rattle.std.specs.Prelude.{ℕ, ◌≤◌, List, take, drop}
use Rattle.stream.specs.Event.{message, damage, Told, done, gives, refuses}
use Rattle.stream.specs.Call.{delivered}

-- over what is told of headers, each of which tells a length
module _ {H : Type 0} (len : H → ℕ) where
  -- a length that is told is at most this
  abbrev pub Small : ℕ → Told H → Type 0
  Small most done = Unit {0}
  Small most (gives (message h)) = len h ≤ most
  Small most (gives (damage n lost)) = Unit {0}
  Small most (refuses n) = Unit {0}

  -- the lent buffer afterwards: of the held bytes the payload begins at this index
  abbrev pub given : ℕ → Told H → List ℕ → List ℕ → List ℕ
  given at t held lent = delivered (λ h. take (len h) (drop at held)) t lent
