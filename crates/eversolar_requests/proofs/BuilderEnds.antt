-- The ends of the request builders, and what their promises give.
-- Assumes nothing.
use Rattle.std.specs.Prelude.{Ok, Err}
use Prim.Native.Nat.{ℕ, ◌≤◌}
use mathlib.Core.Path.{◌≡◌, refl, ap, ap₂, ◌∙◌, subst}
use mathlib.Core.Bool.{Bool, true, false}
use mathlib.Core.Option.{Option, none, some}
use mathlib.Core.List.{List, [], ◌∷◌, ◌++◌}
use lib.ListN.{length, take, drop, set, replicate, length-append}
use lib.Seq.{take-length, set_at}
use borrow.Author.Tests.{le-ltb, eq-eqb}
use native.Mathlib.Omega.{arith}
use Rattle.numbers.proofs.Alike.{zero_is_one}
use Rattle.answers.specs.Written.{length_of, Writes}
use Rattle.answers.specs.Written.{Written}
use Rattle.answers.proofs.WriterPromise.{writes_nothing}
use Rattle.answers.specs.declared.Refusal.TheVariants.{WrongAddressOrExponentTooLow, NotForThisCall}
use Rattle.eversolar.specs.Wire.{Message, payload_max, wire}
use Rattle.eversolar.specs.Writer.{WritesMessage}
use Rattle.numbers.specs.Addresses.{is_address, is_serial}
use Rattle.eversolar_requests.specs.Requests.{request, ask_all, give_address, ask_one, requesting, Requests, IsAskAll, IsAskOne, IsGiveAddress}
use Rattle.eversolar_requests.specs.Inside.{IsCode}
use Rattle.eversolar_requests.specs.declared.Code.{Code}
use Rattle.eversolar_requests.specs.declared.ToAll.{ToAll}
use Rattle.eversolar_requests.specs.declared.ToAll.TheVariants.{OffLine, Reconnect, ReRegister}
use Rattle.eversolar_requests.specs.declared.ToOne.{ToOne}
use Rattle.eversolar_requests.specs.declared.ToOne.TheVariants.{Remove, Normal, Identity, Settings, FixedSize}

-- ---- the three ends of a builder, by its tests

refused_16 : (address serial : Bool) (m : Message) (lent : List ℕ) → address ≡ false → Requests address serial m lent (Err WrongAddressOrExponentTooLow) lent
unfolding requesting
refused_16 address serial m lent a = rw a (refl, refl)

refused_17 : (address serial : Bool) (m : Message) (lent : List ℕ) → address ≡ true → serial ≡ false → Requests address serial m lent (Err NotForThisCall) lent
unfolding requesting
refused_17 address serial m lent a s = rw (a, s) (refl, refl)

-- as the writer writes
requested : (address serial : Bool) (m : Message) (lent later : List ℕ) (w : Written) → address ≡ true → serial ≡ true → length m.payload ≤ payload_max → WritesMessage m lent w later
    → Requests address serial m lent w later
unfolding requesting
requested address serial m lent later w a s fits h = rw (a, s) (subst (λ (t : Bool). Writes t (wire m) lent w later) (le-ltb payload_max (length m.payload) fits) h)

-- a message without data, by its control and its function
coded : (address : ℕ) (code : Code) (control function : ℕ) → (code.control ≡ control) × (code.function ≡ function) → request address code.control code.function [] ≡ request address control function []
coded address code control function e = ap₂ (λ (x y : ℕ). request address x y []) e.0 e.1

-- ---- a request to every inverter

named_all : (what : ToAll) (code : Code) → IsCode (ask_all what) code → request 0 code.control code.function [] ≡ ask_all what
named_all OffLine code e = coded 0 code _ _ e
named_all Reconnect code e = coded 0 code _ _ e
named_all ReRegister code e = coded 0 code _ _ e

fits_all : (what : ToAll) → length (ask_all what).payload ≤ payload_max
fits_all OffLine = omega arith
fits_all Reconnect = omega arith
fits_all ReRegister = omega arith

pub asks_all : (what : ToAll) (code : Code) (lent later : List ℕ) (w : Written) → IsCode (ask_all what) code → WritesMessage (request 0 code.control code.function []) lent w later
    → IsAskAll what lent w later
asks_all what code lent later w e h = requested true true (ask_all what) lent later w refl refl (fits_all what) (subst (λ (m : Message). WritesMessage m lent w later) (named_all what code e) h)

-- ---- a request to one address

named_one : (what : ToOne) (address : ℕ) (code : Code) → IsCode (ask_one what 0) code → request address code.control code.function [] ≡ ask_one what address
named_one Remove address code e = coded address code _ _ e
named_one Normal address code e = coded address code _ _ e
named_one Identity address code e = coded address code _ _ e
named_one Settings address code e = coded address code _ _ e
named_one FixedSize address code e = coded address code _ _ e

fits_one : (what : ToOne) (address : ℕ) → length (ask_one what address).payload ≤ payload_max
fits_one Remove address = omega arith
fits_one Normal address = omega arith
fits_one Identity address = omega arith
fits_one Settings address = omega arith
fits_one FixedSize address = omega arith

pub asks_one_16 : (what : ToOne) (address : ℕ) (lent : List ℕ) → is_address address ≡ false → IsAskOne what address lent (Err WrongAddressOrExponentTooLow) lent
asks_one_16 what address lent a = refused_16 (is_address address) true (ask_one what address) lent a

pub asks_one : (what : ToOne) (address : ℕ) (code : Code) (lent later : List ℕ) (w : Written) → is_address address ≡ true → IsCode (ask_one what 0) code
    → WritesMessage (request address code.control code.function []) lent w later → IsAskOne what address lent w later
asks_one what address code lent later w a e h =
    requested (is_address address) true (ask_one what address) lent later w a refl (fits_one what address) (subst (λ (m : Message). WritesMessage m lent w later) (named_one what address code e) h)

-- ---- the request that gives an address

module _ (serial : List ℕ) (address : ℕ) (lent : List ℕ) where
  pub gives_16 : is_address address ≡ false → IsGiveAddress serial address lent (Err WrongAddressOrExponentTooLow) lent
  gives_16 a = refused_16 (is_address address) (is_serial serial) (give_address serial address) lent a

  pub gives_17 : is_address address ≡ true → is_serial serial ≡ false → IsGiveAddress serial address lent (Err NotForThisCall) lent
  gives_17 a n = refused_17 (is_address address) (is_serial serial) (give_address serial address) lent a n

  -- the data are the serial copied into 17 bytes, and the address behind it
  put : (d : List ℕ) → length serial ≡ 16 → d ≡ take (length serial) serial ++ drop (length serial) (replicate 17 0) → set d 16 address ≡ serial ++ (address ∷ [])
  put d e c =
      let held_is : d ≡ serial ++ (0 ∷ []) = c ∙ ap (λ (l : List ℕ). l ++ drop (length serial) (replicate 17 0)) (take-length serial) ∙ ap (λ (n : ℕ). serial ++ drop n (replicate 17 0)) e in
      ap (λ (l : List ℕ). set l 16 address) held_is ∙ set_at serial 0 [] address 16 e

  pub gives : (d later : List ℕ) (w : Written) → is_address address ≡ true → length serial ≡ 16 → d ≡ take (length serial) serial ++ drop (length serial) (replicate 17 0)
      → WritesMessage (request 0 0x10 0x01 (set d 16 address)) lent w later → IsGiveAddress serial address lent w later
  gives d later w a e c h =
      requested (is_address address) (is_serial serial) (give_address serial address) lent later w a (eq-eqb (length serial) 16 e) (simp length-append (omega arith))
      (subst (λ (l : List ℕ). WritesMessage (request 0 0x10 0x01 l) lent w later) (put d e c) h)

-- ---- what a promise gives

none_some : {A : Type 0} {n : ℕ} → ◌≡◌ {A = Option ℕ} none (some n) → A
none_some e = zero_is_one cc

-- a request of which a length is told passed its tests, and was written as the writer writes
pub record Wrote (address serial : Bool) (m : Message) (lent : List ℕ) (w : Written) (later : List ℕ) : Type 0 where
  pub addressed : address ≡ true
  pub numbered : serial ≡ true
  pub written : Writes false (wire m) lent w later

pub wrote : (address serial : Bool) (m : Message) (lent later : List ℕ) (w : Written) (n : ℕ) → Requests address serial m lent w later → length_of w ≡ some n → Wrote address serial m lent w later
unfolding requesting
wrote address serial m lent later (Err why) n h e = none_some e
wrote true true m lent later (Ok k) n h e = record { addressed = refl; numbered = refl; written = h }
wrote true false m lent later (Ok k) n h e =
    let told = h.0 in
    let z : ◌≡◌ {A = ℕ} 0 17 = cc in
    absurd (omega arith)
wrote false serial m lent later (Ok k) n h e =
    let told = h.0 in
    let z : ◌≡◌ {A = ℕ} 0 16 = cc in
    absurd (omega arith)

-- after a refusal the lent buffer holds what it held
pub request_kept : (address serial : Bool) (m : Message) (lent later : List ℕ) (w : Written) → Requests address serial m lent w later → length_of w ≡ none → later ≡ lent
unfolding requesting
request_kept true true m lent later w h e = writes_nothing false (wire m) lent later w h e
request_kept true false m lent later w h e = h.1
request_kept false serial m lent later w h e = h.1
