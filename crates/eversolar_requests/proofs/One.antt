-- For each public call: two results, and two later contents of what was lent, that its promise allows are one.
-- Assumes nothing.
use Prim.Native.Nat.{ℕ}
use mathlib.Core.Path.{◌≡◌, sym, ◌∙◌}
use mathlib.Core.Bool.{Bool, true}
use mathlib.Core.List.{List}
use Rattle.answers.specs.Written.{Written}
use Rattle.answers.proofs.NumbersHaveCases.{written_alike}
use Rattle.eversolar.specs.Wire.{Message}
use Rattle.numbers.specs.Addresses.{is_address, is_serial}
use Rattle.eversolar_requests.specs.Requests.{ask_all, give_address, ask_one, Requests, IsAskAll, IsAskOne, IsGiveAddress}
use Rattle.eversolar_requests.specs.declared.ToAll.{ToAll}
use Rattle.eversolar_requests.specs.declared.ToOne.{ToOne}

requests_one : (address serial : Bool) (m : Message) (lent a b : List ℕ) (v w : Written) → Requests address serial m lent v a → Requests address serial m lent w b → (v ≡ w) × (a ≡ b)
requests_one address serial m lent a b v w x y = (written_alike v w (x.0 ∙ sym y.0), x.1 ∙ sym y.1)

pub ask_all_one : (what : ToAll) (lent a b : List ℕ) (v w : Written) → IsAskAll what lent v a → IsAskAll what lent w b → (v ≡ w) × (a ≡ b)
ask_all_one what lent a b v w x y = requests_one true true (ask_all what) lent a b v w x y

pub ask_one_one : (what : ToOne) (address : ℕ) (lent a b : List ℕ) (v w : Written) → IsAskOne what address lent v a → IsAskOne what address lent w b → (v ≡ w) × (a ≡ b)
ask_one_one what address lent a b v w x y = requests_one (is_address address) true (ask_one what address) lent a b v w x y

pub give_address_one : (serial : List ℕ) (address : ℕ) (lent a b : List ℕ) (v w : Written) → IsGiveAddress serial address lent v a → IsGiveAddress serial address lent w b → (v ≡ w) × (a ≡ b)
give_address_one serial address lent a b v w x y = requests_one (is_address address) (is_serial serial) (give_address serial address) lent a b v w x y
