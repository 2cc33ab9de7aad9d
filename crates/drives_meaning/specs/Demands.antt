-- What is demanded of whether a reply is expected (document 02, Req 04), with the codes of the characters in document 003.
use Rattle.std.specs.Prelude.{ℕ, ◌≤◌, ◌≡◌, ◌⊎◌, Ok, Err, [], ◌∷◌, map}
use Rattle.answers.specs.Answer.{number}
use Rattle.answers.specs.declared.Refusal.TheVariants.{WrongCharacter}
use Rattle.drives_meaning.specs.Replies.{told, expected}
use Rattle.drives_meaning.specs.declared.Expected.TheVariants.{Reply, NoReply}

-- ACK or NAK opens a reply, ENQ a request
abbrev pub OpensReply : ℕ → Type 0
OpensReply opening = (opening ≡ 0x06) ⊎ (opening ≡ 0x15)

abbrev pub Opens : ℕ → Type 0
Opens opening = (opening ≡ 0x05) ⊎ OpensReply opening

-- a character of a station: 0 to 9 or A to F
abbrev pub Hex : ℕ → Type 0
Hex c = ((0x30 ≤ c) × (c ≤ 0x39)) ⊎ ((0x41 ≤ c) × (c ≤ 0x46))

-- Station 255 in a request expects no reply.
abbrev pub Station255 : Type 0
Station255 = expected 0x05 0x46 0x46 ≡ told (Ok NoReply)

-- A request to any other station expects one.
abbrev pub OtherRequest : Type 0
OtherRequest = (first second : ℕ) → Hex first → Hex second → ((first ≡ 0x46) × (second ≡ 0x46) → ⊥) → expected 0x05 first second ≡ told (Ok Reply)

-- A reply expects none, whatever its station.
abbrev pub NoReplyToReply : Type 0
NoReplyToReply = (opening first second : ℕ) → OpensReply opening → Hex first → Hex second → expected opening first second ≡ told (Ok NoReply)

-- 21 for a character outside its set, wherever it stands, and for nothing else.
pub record WrongCharacterOnly : Type 0 where
  pub opening : (opening first second : ℕ) → (Opens opening → ⊥) → expected opening first second ≡ told (Err WrongCharacter)
  pub first : (opening first second : ℕ) → (Hex first → ⊥) → expected opening first second ≡ told (Err WrongCharacter)
  pub second : (opening first second : ℕ) → (Hex second → ⊥) → expected opening first second ≡ told (Err WrongCharacter)
  pub others : (opening first second : ℕ) → Opens opening → Hex first → Hex second → number (expected opening first second) ≡ 0

-- Station 01, from which the page's example reads; FE and FF; fF, which is no station; and 07, which opens nothing.
pub record Stations : Type 0 where
  pub request : expected 0x05 0x30 0x31 ≡ told (Ok Reply)
  pub reply : expected 0x06 0x30 0x31 ≡ told (Ok NoReply)
  pub error_reply : expected 0x15 0x30 0x31 ≡ told (Ok NoReply)
  pub before255 : expected 0x05 0x46 0x45 ≡ told (Ok Reply)
  pub reply_of255 : expected 0x06 0x46 0x46 ≡ told (Ok NoReply)
  pub lower_case : expected 0x05 0x66 0x46 ≡ told (Err WrongCharacter)
  pub no_opening : expected 0x07 0x30 0x31 ≡ told (Err WrongCharacter)

-- The answer on both sides of each end of a set: the opening byte, and either character of the station.
pub record SetEnds : Type 0 where
  pub opening :
      map (λ c. number (expected c 0x30 0x31)) (0x04 ∷ 0x05 ∷ 0x06 ∷ 0x07 ∷ 0x14 ∷ 0x15 ∷ 0x16 ∷ [])
      ≡ 21 ∷ 0 ∷ 0 ∷ 21 ∷ 21 ∷ 0 ∷ 21 ∷ []
  pub first :
      map (λ c. number (expected 0x05 c 0x31)) (0x2F ∷ 0x30 ∷ 0x39 ∷ 0x3A ∷ 0x40 ∷ 0x41 ∷ 0x46 ∷ 0x47 ∷ [])
      ≡ 21 ∷ 0 ∷ 0 ∷ 21 ∷ 21 ∷ 0 ∷ 0 ∷ 21 ∷ []
  pub second :
      map (λ c. number (expected 0x05 0x30 c)) (0x2F ∷ 0x30 ∷ 0x39 ∷ 0x3A ∷ 0x40 ∷ 0x41 ∷ 0x46 ∷ 0x47 ∷ [])
      ≡ 21 ∷ 0 ∷ 0 ∷ 21 ∷ 21 ∷ 0 ∷ 0 ∷ 21 ∷ []
