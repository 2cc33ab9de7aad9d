-- What bytes come to, what a call tells its host of that, and the number that document 01 has for it.
use Rattle.std.specs.Prelude.{ℕ}
use Rattle.std.proofs.Math.Option.{Option, none, some}

-- what bytes settle: a message, or a damage by its number, with how many bytes were lost (document 02, Req 09)
pub data Event (M : Type 0) : Type 0 where
  message : M → Event M
  damage : (number lost : ℕ) → Event M

-- what a call tells: that its piece is used up, an event, or a refusal by its number
pub data Told (M : Type 0) : Type 0 where
  done : Told M
  gives : Event M → Told M
  refuses : ℕ → Told M

-- 0 done, piece used up; 1 message read; a damage or a refusal its own number. The two may share one: 21 of document 02 is either
abbrev pub number : {M : Type 0} → Told M → ℕ
number done = 0
number (gives (message m)) = 1
number (gives (damage n lost)) = n
number (refuses n) = n

-- what a call tells that came to this event, or to none
abbrev pub outcome : {M : Type 0} → Option (Event M) → Told M
outcome none = done
outcome (some e) = gives e
