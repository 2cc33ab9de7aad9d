-- What a type byte means with the data beside it (000, 5.2.3), and the parts of an address.
use Rattle.std.specs.Prelude.{ℕ, ◌+◌, ◌*◌, ◌/◌, ◌%◌, ◌≡◌, Bool, cond, not, ◌&&◌, ◌||◌, Result, Ok, Err, List, [], ◌∷◌, length, get_or, eqb, leb}
use Rattle.std.proofs.Math.Option.{Option, none, some}
use Rattle.answers.specs.Answer.{Answer, answer, need}
use Rattle.answers.specs.Refusal.{refused_as, refused}
use Rattle.answers.specs.declared.Refusal.{Refusal}
use Rattle.answers.specs.declared.Refusal.TheVariants.{WrongAddressOrExponentTooLow, NotForThisCall}
use Rattle.comlynx_meaning.specs.declared.Meaning.{Meaning}
use Rattle.comlynx_meaning.specs.declared.Meaning.TheVariants.{Request, Reply, TransmissionError, ApplicationError}
use Rattle.comlynx_meaning.specs.declared.Address.{Address}

-- ---- the type byte

-- bits 0 to 4 are the id
abbrev pub id_of : ℕ → ℕ
id_of kind = kind % 32

-- bit 7 marks a reply; bit 6 a transmission error, bit 5 an application error
abbrev pub is_reply : ℕ → Bool
is_reply kind = eqb (kind / 128 % 2) 1

abbrev pub is_transmission : ℕ → Bool
is_transmission kind = eqb (kind / 64 % 2) 1

abbrev pub is_application : ℕ → Bool
is_application kind = eqb (kind / 32 % 2) 1

abbrev pub is_error : ℕ → Bool
is_error kind = is_transmission kind || is_application kind

-- what is meant, with the id, and in an error reply the code
pub data Said : Type 0 where
  request : ℕ → Said
  reply : ℕ → Said
  transmission_error : ℕ → ℕ → Said
  application_error : ℕ → ℕ → Said

-- the answer number, and with 0 what is meant; with a refusal nothing is
pub data Told : Type 0 where
  tells : ℕ → Option Said → Told

abbrev pub told : Result Meaning Refusal → Told
told (Ok (Request id)) = tells 0 (some (request id))
told (Ok (Reply id)) = tells 0 (some (reply id))
told (Ok (TransmissionError id code)) = tells 0 (some (transmission_error id code))
told (Ok (ApplicationError id code)) = tells 0 (some (application_error id code))
told (Err why) = refused_as tells none why

-- the code of an error reply is its one data byte
abbrev pub code_of : List ℕ → Result ℕ Refusal
code_of bs = need (eqb (length bs) 1) (Err NotForThisCall) (Ok (get_or bs 0 0))

-- an error reply has one data byte, its code, else 17
abbrev pub coded : (ℕ → Said) → List ℕ → Told
coded error bs =
    need (eqb (length bs) 1) (refused_as tells none NotForThisCall)
    (tells 0 (some (error (get_or bs 0 0))))

-- and 17 for an error bit in a request, and for both error bits
unfoldable pub meant : ℕ → List ℕ → Told
meant kind bs =
    need (is_reply kind || not (is_error kind)) (refused_as tells none NotForThisCall)
    (need (not (is_transmission kind && is_application kind)) (refused_as tells none NotForThisCall)
    (cond (is_transmission kind) (coded (transmission_error (id_of kind)) bs)
    (cond (is_application kind) (coded (application_error (id_of kind)) bs)
    (cond (is_reply kind) (tells 0 (some (reply (id_of kind))))
    (tells 0 (some (request (id_of kind))))))))

-- what `meaning_of` promises
abbrev pub IsMeaning : ℕ → List ℕ → Result Meaning Refusal → Type 0
IsMeaning kind bs r = told r ≡ meant kind bs

-- ---- an address: network (4 bits), subnet (4 bits), node (8 bits) from the top

abbrev pub address_of : ℕ → Address
address_of word = record { network = word / 4096; subnet = word / 256 % 16; node = word % 256 }

-- what `address_of` promises
abbrev pub IsAddress : ℕ → Address → Type 0
IsAddress word r = r ≡ address_of word

-- and back; a network or subnet that has more bits is 16
abbrev pub told_word : Result ℕ Refusal → Answer
told_word (Ok word) = answer 0 (word ∷ [])
told_word (Err why) = refused 1 why

unfoldable pub word_of : Address → Answer
word_of a =
    need (leb a.network 15 && leb a.subnet 15) (refused 1 WrongAddressOrExponentTooLow)
    (answer 0 ((a.network * 4096 + a.subnet * 256 + a.node) ∷ []))

-- what `word_of` promises
abbrev pub IsWord : Address → Result ℕ Refusal → Type 0
IsWord a r = told_word r ≡ word_of a
