-- Two results that the promise of the public call allows are one.
-- Assumes nothing.
use Rattle.std.proofs.Common.{◌≡◌, ℕ, List, [], ◌∷◌, Result, Ok, Err, cond, get_or, refl, sym, ◌∙◌}
use lib.Dec.{eqb}
use Rattle.numbers.proofs.Alike.{alike_by_back}
use Rattle.answers.proofs.NumbersHaveCases.{heard, heard_refused}
use Rattle.answers.specs.declared.Refusal.{Refusal}
use Rattle.drives_meaning.specs.Replies.{told, IsReplyExpected}
use Rattle.drives_meaning.specs.declared.Expected.{Expected}
use Rattle.drives_meaning.specs.declared.Expected.TheVariants.{Reply, NoReply}

expected_alike : (a b : Result Expected Refusal) → told a ≡ told b → a ≡ b
expected_alike = alike_by_back told (heard done Err) there
  where
    done : List ℕ → Result Expected Refusal
    done others = Ok (cond (eqb (get_or others 0 0) 1) Reply NoReply)

    there : (a : Result Expected Refusal) → heard done Err (told a) ≡ a
    there (Ok Reply) = refl
    there (Ok NoReply) = refl
    there (Err why) = heard_refused done Err (0 ∷ []) why

pub reply_expected_one : (opening first second : ℕ) (a b : Result Expected Refusal)
    → IsReplyExpected opening first second a → IsReplyExpected opening first second b → a ≡ b
reply_expected_one opening first second a b x y = expected_alike a b (x ∙ sym y)
