-- What the inner functions promise. No public promise cites this, so it need not be read.
use Rattle.std.specs.Prelude.{◌≡◌, Bool, true, false, Result, Ok, Err}
use Rattle.answers.specs.declared.Refusal.{Refusal}
use Rattle.eversolar.specs.Wire.{Message}
use Rattle.eversolar_requests.specs.declared.Code.{Code}

-- `ToAll::code`, `ToOne::code`: the control and the function of a message
abbrev pub IsCode : Message → Code → Type 0
IsCode m code = (code.control ≡ m.control) × (code.function ≡ m.function)

-- `check_address`, `check_serial`: the test holds, or this is why the call refuses
abbrev pub Passes : Bool → Refusal → Result (Unit {0}) Refusal → Type 0
Passes test why (Ok u) = test ≡ true
Passes test why (Err e) = (test ≡ false) × (e ≡ why)
