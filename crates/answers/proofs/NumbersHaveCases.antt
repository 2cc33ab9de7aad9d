-- The way back from a number to its case, so that what is told alike is one.
-- Assumes nothing.
use Rattle.std.specs.Prelude.{Ok, Err}
use Prim.Native.Nat.{ℕ, zero, suc, ◌+◌, ◌≤◌, ◌<◌}
use mathlib.Core.Path.{◌≡◌, refl, sym, ap, ◌∙◌}
use mathlib.Core.Bool.{Bool, true, false, cond}
use mathlib.Core.List.{List, [], ◌∷◌, map}
use lib.ListN.{get_or}
use lib.Dec.{eqb, leb}
use borrow.Author.Tests.{eqb-true, leb-true}
use native.Mathlib.Omega.{arith}
use Rattle.numbers.proofs.Alike.{alike_by_back}
use Rattle.answers.specs.Answer.{Answer, answer}
use Rattle.answers.specs.Refusal as Refusal
use Rattle.answers.specs.Damage as Damage
use Rattle.answers.specs.Written as Written
use Rattle.answers.specs.Demands.{times, Refusals, Damages}
use Rattle.answers.specs.declared.Refusal.{Refusal}
use Rattle.answers.specs.declared.Refusal.TheVariants.{TooLong, NoRoom, WrongMark, WrongVersion, WrongPortOrCount, BytesMissing, RosterFull, ExponentTooHigh, WrongAddressOrExponentTooLow, NotForThisCall, Spoilt, TooManyPackets, WrongCharacter, SliceTooLong, PlacePastEnd}
use Rattle.answers.specs.declared.Damage.{Damage}
use Rattle.answers.specs.declared.Damage.TheVariants.{BrokenPair, WrongBodyLength, WrongStart, WrongSize, WrongSum, WrongLengthByte, WrongCharacter as OutOfSet}
use Rattle.answers.specs.Written.{Written}

-- of the cases listed the first that has the number n, else `other`
abbrev named : {A : Type 0} → (A → ℕ) → A → List A → ℕ → A
named told other [] n = other
named told other (c ∷ cases) n = cond (eqb n (told c)) c (named told other cases n)

-- it has that number, if one has
has_name : {A : Type 0} (told : A → ℕ) (other : A) (cases : List A) (n : ℕ) → 0 < times n (map told cases) → told (named told other cases n) ≡ n
has_name told other [] n h = absurd (omega arith)
has_name told other (c ∷ cases) n h = go (eqb n (told c)) refl h (has_name told other cases n)
  where
    go : (t : Bool) → eqb n (told c) ≡ t → 0 < cond t 1 0 + times n (map told cases) → (0 < times n (map told cases) → told (named told other cases n) ≡ n)
        → told (cond t c (named told other cases n)) ≡ n
    go true e k rest = sym (eqb-true n (told c) e)
    go false e k rest = rest (omega arith)

abbrev all_refusals : List Refusal
all_refusals = TooLong ∷ NoRoom ∷ WrongMark ∷ WrongVersion ∷ WrongPortOrCount ∷ BytesMissing ∷ RosterFull ∷ ExponentTooHigh ∷ WrongAddressOrExponentTooLow ∷ NotForThisCall ∷ Spoilt ∷ TooManyPackets ∷ WrongCharacter ∷ SliceTooLong ∷ PlacePastEnd ∷ []

-- of each refusal: its number is listed once and leads back to it; it is not below 8
each_refusal : (r : Refusal)
    → let n = Refusal.number r in
    (times n (map Refusal.number all_refusals) ≡ 1) × (named Refusal.number Spoilt all_refusals n ≡ r) × (leb 8 n ≡ true)
each_refusal TooLong = (refl, refl, refl)
each_refusal NoRoom = (refl, refl, refl)
each_refusal WrongMark = (refl, refl, refl)
each_refusal WrongVersion = (refl, refl, refl)
each_refusal WrongPortOrCount = (refl, refl, refl)
each_refusal BytesMissing = (refl, refl, refl)
each_refusal RosterFull = (refl, refl, refl)
each_refusal ExponentTooHigh = (refl, refl, refl)
each_refusal WrongAddressOrExponentTooLow = (refl, refl, refl)
each_refusal NotForThisCall = (refl, refl, refl)
each_refusal Spoilt = (refl, refl, refl)
each_refusal TooManyPackets = (refl, refl, refl)
each_refusal WrongCharacter = (refl, refl, refl)
each_refusal SliceTooLong = (refl, refl, refl)
each_refusal PlacePastEnd = (refl, refl, refl)

pub refusals : Refusals
refusals = record {
  once = λ r. (each_refusal r).0;
  back = named Refusal.number Spoilt all_refusals;
  case = λ r. (each_refusal r).1;
  number = has_name Refusal.number Spoilt all_refusals;
}

abbrev all_damages : List Damage
all_damages = BrokenPair ∷ WrongBodyLength ∷ WrongStart ∷ WrongSize ∷ WrongSum ∷ WrongLengthByte ∷ OutOfSet ∷ []

each_damage : (d : Damage) → let n = Damage.number d in (times n (map Damage.number all_damages) ≡ 1) × (named Damage.number WrongSum all_damages n ≡ d)
each_damage BrokenPair = (refl, refl)
each_damage WrongBodyLength = (refl, refl)
each_damage WrongStart = (refl, refl)
each_damage WrongSize = (refl, refl)
each_damage WrongSum = (refl, refl)
each_damage WrongLengthByte = (refl, refl)
each_damage OutOfSet = (refl, refl)

pub damages : Damages
damages = record {
  once = λ d. (each_damage d).0;
  back = named Damage.number WrongSum all_damages;
  case = λ d. (each_damage d).1;
  number = has_name Damage.number WrongSum all_damages;
}

-- told alike is one: by the way back
pub refusal_alike : (a b : Refusal) → Refusal.number a ≡ Refusal.number b → a ≡ b
refusal_alike = alike_by_back Refusal.number refusals.back refusals.case

pub damage_alike : (a b : Damage) → Damage.number a ≡ Damage.number b → a ≡ b
damage_alike = alike_by_back Damage.number damages.back damages.case

-- a refusal's number is not 0, nor 1
pub refusal_above : (r : Refusal) → 8 ≤ Refusal.number r
refusal_above r = leb-true 8 (Refusal.number r) (each_refusal r).2

-- The way back from what a call tells: with 0 the other numbers say what was done, and any other number is a refusal's
abbrev pub heard : {A : Type 0} → (List ℕ → A) → (Refusal → A) → Answer → A
heard done refused (answer zero others) = done others
heard done refused (answer (suc n) others) = refused (refusals.back (suc n))

pub heard_refused : {A : Type 0} (done : List ℕ → A) (refused : Refusal → A) (others : List ℕ) (why : Refusal)
    → heard done refused (answer (Refusal.number why) others) ≡ refused why
heard_refused done refused others why = go (Refusal.number why) (refusal_above why) ∙ ap refused (refusals.case why)
  where
    go : (n : ℕ) → 8 ≤ n → heard done refused (answer n others) ≡ refused (refusals.back n)
    go zero h = absurd (omega arith)
    go (suc n) h = refl

pub written_alike : (a b : Written) → Written.told a ≡ Written.told b → a ≡ b
written_alike = alike_by_back Written.told (heard done Err) there
  where
    done : List ℕ → Written
    done others = Ok (get_or others 0 0)

    there : (a : Written) → heard done Err (Written.told a) ≡ a
    there (Ok n) = refl
    there (Err why) = heard_refused done Err (0 ∷ []) why
