-- How an Eversolar inverter is known, by its address and by its serial: the requests and the roster both go by this.
use Rattle.std.specs.Prelude.{ℕ, Bool, ◌&&◌, List, length, eqb, leb}

-- An address is 1 to 254,
abbrev pub last_address : ℕ
last_address = 254

abbrev pub is_address : ℕ → Bool
is_address address = leb 1 address && leb address last_address

-- a serial is 16 bytes.
abbrev pub serial_size : ℕ
serial_size = 16

abbrev pub is_serial : List ℕ → Bool
is_serial serial = eqb (length serial) serial_size
