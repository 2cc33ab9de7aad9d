-- The tests of a measured value: what its parts came to tells which of them refused.
-- Assumes nothing.
use Prim.Native.Nat.{ℕ}
use mathlib.Core.Path.{◌≡◌, refl, sym, ap, ◌∙◌}
use mathlib.Core.Bool.{Bool, true, false, not}
use mathlib.Core.List.{List}
use lib.Dec.{eqb}
use lib.ListN.{length}
use lib.IntN.{ℤ, pos, negsuc}
use mir.ValLaws.{to_z-of_z}
use borrow.Author.Tests.{ltb-false}
use Rattle.std.proofs.Common.{◌≤◌, Result, Ok, Err, w8, to_z, of_z, arith}
use Rattle.numbers.proofs.Alike.{zero_is_one}
use Rattle.answers.specs.Answer.{need}
use Rattle.answers.specs.declared.Refusal.{Refusal}
use Rattle.answers.specs.declared.Refusal.TheVariants.{ExponentTooHigh, WrongAddressOrExponentTooLow, NotForThisCall}
use Rattle.fronius_meaning.specs.Measured.{word_of, exponent_byte, exponent_of, too_great, too_small, tested, parts_of}
use Rattle.fronius_meaning.specs.declared.measured.Parts.{Parts}

module _ {A : Type 0} (s : List ℕ) (refused : Refusal → A) (given : A) where
  -- what the tests of the parts came to decides
  abbrev pub by_parts : Result Parts Refusal → A
  by_parts (Ok parts) = given
  by_parts (Err why) = refused why

  pub through : tested s refused given ≡ by_parts (parts_of s)
  through =
      go (eqb (length s) 3) (too_great (exponent_of (exponent_byte s))) (too_small (exponent_of (exponent_byte s)))
    where
      go : (three great small : Bool)
          → need three (refused NotForThisCall) (need (not great) (refused ExponentTooHigh) (need (not small) (refused WrongAddressOrExponentTooLow) given))
          ≡ by_parts (need three (Err NotForThisCall) (need (not great) (Err ExponentTooHigh) (need (not small) (Err WrongAddressOrExponentTooLow)
          (Ok (record { word = word_of s; exponent = exponent_of (exponent_byte s) })))))
      go true true small = refl
      go true false true = refl
      go true false false = refl
      go false great small = refl

  pub refused_by : (why : Refusal) → Err why ≡ parts_of s → tested s refused given ≡ refused why
  refused_by why e = through ∙ ap by_parts (sym e)

  pub given_by : (parts : Parts) → Ok parts ≡ parts_of s → tested s refused given ≡ given
  given_by parts e = through ∙ ap by_parts (sym e)

  -- what is no refusal is what was given, and the exponent is in range
  pub no_refusal : (x : A) → ((why : Refusal) → x ≡ refused why → ⊥) → x ≡ tested s refused given
      → (x ≡ given) × (too_great (exponent_of (exponent_byte s)) ≡ false) × (too_small (exponent_of (exponent_byte s)) ≡ false)
  no_refusal x n e =
      go (eqb (length s) 3) (too_great (exponent_of (exponent_byte s))) (too_small (exponent_of (exponent_byte s))) e
    where
      go : (three great small : Bool) → x ≡ need three (refused NotForThisCall) (need (not great) (refused ExponentTooHigh) (need (not small) (refused WrongAddressOrExponentTooLow) given))
          → (x ≡ given) × (great ≡ false) × (small ≡ false)
      go true true small p = absurd (n ExponentTooHigh p)
      go true false true p = absurd (n WrongAddressOrExponentTooLow p)
      go true false false p = (p, refl, refl)
      go false great small p = absurd (n NotForThisCall p)

-- the parts that are given are those of the bytes, and their exponent is in range
pub taken : (s : List ℕ) (p : Parts) → Ok p ≡ parts_of s
    → (p ≡ record { word = word_of s; exponent = exponent_of (exponent_byte s) }) × (too_great p.exponent ≡ false) × (too_small p.exponent ≡ false)
taken s p e =
    let r = no_refusal s Err (Ok (record { word = word_of s; exponent = exponent_of (exponent_byte s) })) (Ok p) (λ why q. zero_is_one cc) e in
    let q : p ≡ record { word = word_of s; exponent = exponent_of (exponent_byte s) } = cc in
    (q, rw q r.1, rw q r.2)

-- and so the machine's eight bits hold it
pub kept : (e : ℤ) → too_great e ≡ false → too_small e ≡ false → to_z w8 (of_z w8 e) ≡ e
kept (pos n) g l =
    let h : n ≤ 10 = ltb-false 10 n g in
    to_z-of_z w8 (pos n) (record { sfits = omega arith })
kept (negsuc n) g l =
    let h : n ≤ 2 = ltb-false 2 n l in
    to_z-of_z w8 (negsuc n) (record { sfits = omega arith })
