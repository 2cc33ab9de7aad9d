-- For each public call: two results that its promise allows are one.
-- Assumes nothing.
use Rattle.std.proofs.Common.{◌≡◌, ℕ, List, [], ◌∷◌, Result, Ok, Err, get_or, refl, sym, ap, ◌∙◌}
use mathlib.Core.Option.{none, some}
use Rattle.numbers.proofs.Alike.{alike_by_back}
use Rattle.answers.proofs.NumbersHaveCases.{refusals, heard, heard_refused}
use Rattle.answers.specs.declared.Refusal.{Refusal}
use Rattle.comlynx_meaning.specs.Meaning as Meaning
use Rattle.comlynx_meaning.specs.Meaning.{request, reply, transmission_error, application_error, told_word, IsMeaning, IsAddress, IsWord}
use Rattle.comlynx_meaning.specs.declared.Meaning.{Meaning}
use Rattle.comlynx_meaning.specs.declared.Meaning.TheVariants.{Request, Reply, TransmissionError, ApplicationError}
use Rattle.comlynx_meaning.specs.declared.Address.{Address}

meanings_alike : (a b : Result Meaning Refusal) → Meaning.told a ≡ Meaning.told b → a ≡ b
meanings_alike = alike_by_back Meaning.told said there
  where
    said : Meaning.Told → Result Meaning Refusal
    said (Meaning.tells n none) = Err (refusals.back n)
    said (Meaning.tells n (some (request id))) = Ok (Request id)
    said (Meaning.tells n (some (reply id))) = Ok (Reply id)
    said (Meaning.tells n (some (transmission_error id code))) = Ok (TransmissionError id code)
    said (Meaning.tells n (some (application_error id code))) = Ok (ApplicationError id code)

    there : (a : Result Meaning Refusal) → said (Meaning.told a) ≡ a
    there (Ok (Request id)) = refl
    there (Ok (Reply id)) = refl
    there (Ok (TransmissionError id code)) = refl
    there (Ok (ApplicationError id code)) = refl
    there (Err why) = ap Err (refusals.case why)

pub meaning_of_one : (kind : ℕ) (payload : List ℕ) (a b : Result Meaning Refusal) → IsMeaning kind payload a → IsMeaning kind payload b → a ≡ b
meaning_of_one kind payload a b x y = meanings_alike a b (x ∙ sym y)

pub address_of_one : (word : ℕ) (a b : Address) → IsAddress word a → IsAddress word b → a ≡ b
address_of_one word a b x y = x ∙ sym y

words_alike : (a b : Result ℕ Refusal) → told_word a ≡ told_word b → a ≡ b
words_alike = alike_by_back told_word (heard done Err) there
  where
    done : List ℕ → Result ℕ Refusal
    done others = Ok (get_or others 0 0)

    there : (a : Result ℕ Refusal) → heard done Err (told_word a) ≡ a
    there (Ok word) = refl
    there (Err why) = heard_refused done Err (0 ∷ []) why

pub word_of_one : (a : Address) (v w : Result ℕ Refusal) → IsWord a v → IsWord a w → v ≡ w
word_of_one a v w x y = words_alike v w (x ∙ sym y)
