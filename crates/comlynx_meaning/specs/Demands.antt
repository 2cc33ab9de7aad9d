-- What is demanded of addresses.
use Rattle.std.specs.Prelude.{ℕ, ◌<◌, ◌≡◌, [], ◌∷◌}
use Rattle.answers.specs.Answer.{answer}
use Rattle.comlynx_meaning.specs.Meaning.{address_of, word_of}
use Rattle.comlynx_meaning.specs.declared.Address.{Address}

-- an address's parts and back: each way undoes the other
abbrev pub ThereAndBack : Type 0
ThereAndBack =
    ((word : ℕ) → word < 65536 → word_of (address_of word) ≡ answer 0 (word ∷ []))
    × ((a : Address) (word : ℕ) → a.node < 256 → word_of a ≡ answer 0 (word ∷ []) → address_of word ≡ a)

-- 11 FF is every node of network 1, subnet 1
abbrev pub EveryNode : Type 0
EveryNode = address_of 0x11FF ≡ record { network = 1; subnet = 1; node = 255 }
