-- What the calls come to and tell, and what they promise of their arguments, their results and the roster afterwards.
use Rattle.std.specs.Prelude.{ℕ, ◌≤◌, ◌≡◌, ⊤, List, [], ◌∷◌, Option, Some, None, Result, Ok, Err}
use Rattle.answers.specs.Answer.{Answer, answer}
use Rattle.answers.specs.Refusal.{refused}
use Rattle.answers.specs.declared.Refusal.{Refusal}
use Rattle.roster.specs.Roster.{giving, removing, finding}
use Rattle.roster.specs.Bytes.{places_of, bytes_of}

-- What giving comes to: the address that the serial has now, or a refusal, with which the roster is as it was.
abbrev pub Given : Type 0
Given = Result ℕ Refusal

-- What removing comes to: the address is free now, or a refusal, with which the roster is as it was.
abbrev pub Removed : Type 0
Removed = Result ⊤ Refusal

-- What looking for a serial comes to: the address that it has, or none, or a refusal, with which nothing was searched.
abbrev pub Found : Type 0
Found = Result (Option ℕ) Refusal

abbrev pub told_given : Given → Answer
told_given (Ok address) = answer 0 (address ∷ [])
told_given (Err why) = refused 1 why

abbrev pub told_removed : Removed → Answer
told_removed (Ok done) = answer 0 []
told_removed (Err why) = refused 0 why

abbrev pub told_found : Found → Answer
told_found (Ok (Some address)) = answer 0 (address ∷ [])
told_found (Ok None) = answer 0 (0 ∷ [])
told_found (Err why) = refused 1 why

-- `give`
abbrev pub IsGiven : List ℕ → List ℕ → Given → List ℕ → Type 0
IsGiven roster serial r later =
    (told_given r ≡ (giving (places_of roster) serial).0) × (later ≡ bytes_of (giving (places_of roster) serial).1)

-- `remove`
abbrev pub IsRemoved : List ℕ → ℕ → Removed → List ℕ → Type 0
IsRemoved roster address r later =
    (told_removed r ≡ (removing (places_of roster) address).0) × (later ≡ bytes_of (removing (places_of roster) address).1)

-- 0 is no address, so that 0 is told of `None` alone
abbrev pub AddressNotZero : Found → Type 0
AddressNotZero (Ok (Some address)) = 1 ≤ address
AddressNotZero (Ok None) = Unit {0}
AddressNotZero (Err why) = Unit {0}

-- `find`
abbrev pub IsFound : List ℕ → List ℕ → Found → Type 0
IsFound roster serial r = (told_found r ≡ finding (places_of roster) serial) × AddressNotZero r
