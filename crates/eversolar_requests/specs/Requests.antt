-- The master's requests: which message each writes, and what is refused.
use Rattle.std.specs.Prelude.{ℕ, ◌≡◌, Bool, true, false, List, [], ◌∷◌, ◌++◌}
use Rattle.numbers.specs.Addresses.{is_address, is_serial}
use Rattle.answers.specs.Answer.{Answer, need}
use Rattle.answers.specs.Refusal.{refused}
use Rattle.answers.specs.Written.{told, writing}
use Rattle.answers.specs.declared.Refusal.TheVariants.{WrongAddressOrExponentTooLow, NotForThisCall}
use Rattle.answers.specs.Written.{Written}
use Rattle.eversolar.specs.Wire.{Message, wire}
use Rattle.eversolar_requests.specs.declared.ToAll.{ToAll}
use Rattle.eversolar_requests.specs.declared.ToAll.TheVariants.{OffLine, Reconnect, ReRegister}
use Rattle.eversolar_requests.specs.declared.ToOne.{ToOne}
use Rattle.eversolar_requests.specs.declared.ToOne.TheVariants.{Remove, Normal, Identity, Settings, FixedSize}

-- every source is the master, 01 00; a destination is 00 and an address, or 00 00
abbrev pub request : ℕ → ℕ → ℕ → List ℕ → Message
request address control function payload = record {
  source_first = 0x01;
  source_second = 0x00;
  destination_first = 0x00;
  destination_second = address;
  control = control;
  function = function;
  payload = payload;
}

-- off-line query, reconnect and re-register: to 00 00. Only 10/01 carries data
abbrev pub ask_all : ToAll → Message
ask_all OffLine = request 0x00 0x10 0x00 []
ask_all Reconnect = request 0x00 0x10 0x03 []
ask_all ReRegister = request 0x00 0x10 0x04 []

-- give an address: to 00 00, with 16 serial bytes and the address
abbrev pub give_address : List ℕ → ℕ → Message
give_address serial address = request 0x00 0x10 0x01 (serial ++ (address ∷ []))

-- remove, and the queries: to 00 followed by the address
abbrev pub ask_one : ToOne → ℕ → Message
ask_one Remove address = request address 0x10 0x02 []
ask_one Normal address = request address 0x11 0x02 []
ask_one Identity address = request address 0x11 0x03 []
ask_one Settings address = request address 0x11 0x04 []
ask_one FixedSize address = request address 0x11 0x10 []

-- REQUEST BUILDERS TEST 16 (an address is 1 to 254), THEN 17 (a serial is 16 bytes), THEN 9: what is told, and the lent buffer afterwards
unfoldable pub requesting : Bool → Bool → Message → List ℕ → Answer × List ℕ
requesting address serial m lent =
    need address (refused 1 WrongAddressOrExponentTooLow, lent)
    (need serial (refused 1 NotForThisCall, lent)
    (writing false (wire m) lent))

abbrev pub Requests : Bool → Bool → Message → List ℕ → Written → List ℕ → Type 0
Requests address serial m lent w later = (told w ≡ (requesting address serial m lent).0) × (later ≡ (requesting address serial m lent).1)

-- what the three builders promise, of the lent buffer, the result and the buffer afterwards
abbrev pub IsAskAll : ToAll → List ℕ → Written → List ℕ → Type 0
IsAskAll what = Requests true true (ask_all what)

abbrev pub IsAskOne : ToOne → ℕ → List ℕ → Written → List ℕ → Type 0
IsAskOne what address = Requests (is_address address) true (ask_one what address)

abbrev pub IsGiveAddress : List ℕ → ℕ → List ℕ → Written → List ℕ → Type 0
IsGiveAddress serial address = Requests (is_address address) (is_serial serial) (give_address serial address)
