-- Numbers on both sides of a limit: P1 to P12, with document 01's literals on the right; P3 is as document 02, Req 03, corrects it.
use Rattle.std.specs.Prelude.{ℕ, ◌≡◌, true, false, Some, None, List, [], ◌∷◌, ◌++◌, replicate, pos, neg_ℤ}
use Rattle.std.proofs.Math.Option.{Option, none, some}
use Rattle.std.specs.Float.{fin}
use Rattle.answers.specs.Answer.{answer}
use Rattle.stream.specs.Event.{Event, message, damage, number}
use Rattle.stream.specs.Rule.{Settled}
use Rattle.stream.specs.Call.{called}
use Rattle.comlynx_checksum.specs.Checksum.{checksum_of, sent}
use Rattle.comlynx.specs.Wire as ComLynxWire
use Rattle.comlynx.specs.Rules as ComLynxRules
use Rattle.comlynx.specs.Machine as ComLynxMachine
use Rattle.comlynx.specs.Reader as ComLynxReader
use Rattle.eversolar.specs.Wire as EversolarWire
use Rattle.eversolar.specs.Rules as EversolarRules
use Rattle.eversolar_requests.specs.Requests as EversolarRequests
use Rattle.eversolar_meaning.specs.Energy as EversolarEnergy
use Rattle.eversolar_meaning.specs.Waits as EversolarWaits
use Rattle.eversolar_requests.specs.declared.ToAll.TheVariants.{OffLine}
use Rattle.fronius.specs.Wire as FroniusWire
use Rattle.fronius.specs.Rules as FroniusRules
use Rattle.fronius_meaning.specs.Measured as Measured
use Rattle.fronius_meaning.specs.Reading as Reading
use Rattle.fronius_meaning.specs.declared.reading.Reading.TheVariants.{Power}
use Rattle.cases.specs.Case.{Case, case, Hold, numbers, times}

-- P1's message, the ping of L1; that of P2's limit; P3's, the off-line query; P4's, get version; P5's, a power
abbrev pub ping : ComLynxWire.Message
ping = record { source = 0x0002; destination = 0x11FF; kind = 0x15; payload = [] }

abbrev pub all_flags : ComLynxWire.Message
all_flags = record { source = 0x0002; destination = 0x11FF; kind = 0x15; payload = replicate 255 0x7E }

abbrev pub off_line_query : EversolarWire.Message
off_line_query = record {
  source_first = 0x01;
  source_second = 0x00;
  destination_first = 0x00;
  destination_second = 0x00;
  control = 0x10;
  function = 0x00;
  payload = [];
}

abbrev pub get_version : FroniusWire.Message
get_version = record { device = 0x00; number = 0x00; command = 0x01; payload = [] }

abbrev pub power : FroniusWire.Message
power = record { device = 0x01; number = 0x01; command = 0x10; payload = 0x04 ∷ 0xD2 ∷ 0x00 ∷ [] }

-- a rule gives this message, at its last byte, the nth
abbrev pub reads : {M : Type 0} → M → ℕ → Option (Settled (Event M))
reads m n = some (record { event = message m; used = n })

-- the answer number of a fresh ComLynx reader that is handed these bytes
abbrev pub answered : List ℕ → ℕ
answered piece = number (called ComLynxMachine.next ComLynxReader.in_range ComLynxMachine.fresh piece (replicate 255 0x00)).told

abbrev pub cases : List Case
cases =
    -- P1: the ComLynx ping of L1: checksum state 6E86, sent 79 91
    case 1 (checksum_of (0xFF ∷ 0x03 ∷ 0x00 ∷ 0x02 ∷ 0x11 ∷ 0xFF ∷ 0x00 ∷ 0x15 ∷ [])) 0x6E86
    ∷ case 1 (sent (0xFF ∷ 0x03 ∷ 0x00 ∷ 0x02 ∷ 0x11 ∷ 0xFF ∷ 0x00 ∷ 0x15 ∷ [])) (0x79 ∷ 0x91 ∷ [])
    ∷ case 1 (ComLynxWire.wire ping) (0x7E ∷ 0xFF ∷ 0x03 ∷ 0x00 ∷ 0x02 ∷ 0x11 ∷ 0xFF ∷ 0x00 ∷ 0x15 ∷ 0x79 ∷ 0x91 ∷ 0x7E ∷ [])
    -- the frame of L1, which is a message: 1
    ∷ case 1 (ComLynxRules.rule false (0x7E ∷ 0xFF ∷ 0x03 ∷ 0x00 ∷ 0x02 ∷ 0x11 ∷ 0xFF ∷ 0x00 ∷ 0x15 ∷ 0x79 ∷ 0x91 ∷ 0x7E ∷ [])) (reads ping 12)
    ∷ case 1 (answered (0x7E ∷ 0xFF ∷ 0x03 ∷ 0x00 ∷ 0x02 ∷ 0x11 ∷ 0xFF ∷ 0x00 ∷ 0x15 ∷ 0x79 ∷ 0x91 ∷ 0x7E ∷ [])) 1
    -- P2: data 7E 7D stuffs to 7D 5E 7D 5D
    ∷ case 2 (ComLynxWire.stuffed (0x7E ∷ 0x7D ∷ [])) (0x7D ∷ 0x5E ∷ 0x7D ∷ 0x5D ∷ [])
    -- its limit: 255 data bytes that are all 7E, written in 522 bytes and read back
    ∷ case 2 (ComLynxRules.rule false (ComLynxWire.wire all_flags)) (reads all_flags 522)
    -- P3: off-line query, written and read; with its sum low byte first it is a damage
    ∷ case 3 (EversolarWire.wire (EversolarRequests.ask_all OffLine)) (0xAA ∷ 0x55 ∷ 0x01 ∷ 0x00 ∷ 0x00 ∷ 0x00 ∷ 0x10 ∷ 0x00 ∷ 0x00 ∷ 0x01 ∷ 0x10 ∷ [])
    ∷ case 3 (EversolarRules.rule tt (0xAA ∷ 0x55 ∷ 0x01 ∷ 0x00 ∷ 0x00 ∷ 0x00 ∷ 0x10 ∷ 0x00 ∷ 0x00 ∷ 0x01 ∷ 0x10 ∷ [])) (reads off_line_query 11)
    ∷ case 3 (EversolarRules.rule tt (0xAA ∷ 0x55 ∷ 0x01 ∷ 0x00 ∷ 0x00 ∷ 0x00 ∷ 0x10 ∷ 0x00 ∷ 0x00 ∷ 0x10 ∷ 0x01 ∷ [])) (some (record { event = damage 6 11; used = 11 }))
    -- data words are the same way round: 00 01 and 30 3B as items 20 and 21 are 77,883 tenths of a kWh
    ∷ case 3 (EversolarEnergy.energy_of 0x11 0x90 (replicate 40 0x00 ++ (0x00 ∷ 0x01 ∷ 0x30 ∷ 0x3B ∷ []))) (answer 0 (77_883 ∷ []))
    -- P4: get version, written and read
    ∷ case 4 (FroniusWire.wire get_version) (0x80 ∷ 0x80 ∷ 0x80 ∷ 0x00 ∷ 0x00 ∷ 0x00 ∷ 0x01 ∷ 0x01 ∷ [])
    ∷ case 4 (FroniusRules.rule tt (0x80 ∷ 0x80 ∷ 0x80 ∷ 0x00 ∷ 0x00 ∷ 0x00 ∷ 0x01 ∷ 0x01 ∷ [])) (reads get_version 8)
    -- P5: the frame of a power, and what it reads: 1,234 W, as a double 617 · 2
    ∷ case 5 (FroniusRules.rule tt (0x80 ∷ 0x80 ∷ 0x80 ∷ 0x03 ∷ 0x01 ∷ 0x01 ∷ 0x10 ∷ 0x04 ∷ 0xD2 ∷ 0x00 ∷ 0xEB ∷ [])) (reads power 11)
    ∷ case 5 (Reading.reading_of 0x01 0x10 (0x04 ∷ 0xD2 ∷ 0x00 ∷ [])) (Reading.tells 0 (Some (Power (fin false 617 (pos 1)))))
    -- P6: 1,234 thousandths, signed and unsigned
    ∷ case 6 (Measured.thousandths_of (0x04 ∷ 0xD2 ∷ 0xFD ∷ []) true) (Measured.tells 0 (pos 1_234))
    ∷ case 6 (Measured.thousandths_of (0x04 ∷ 0xD2 ∷ 0xFD ∷ []) false) (Measured.tells 0 (pos 1_234))
    -- P7: 655,350,000,000,000,000 thousandths, unsigned
    ∷ case 7 (Measured.thousandths_of (0xFF ∷ 0xFF ∷ 0x0A ∷ []) false) (Measured.tells 0 (pos 655_350_000_000_000_000))
    -- P8: -32,768,000 signed, 32,768,000 unsigned
    ∷ case 8 (Measured.thousandths_of (0x80 ∷ 0x00 ∷ 0x00 ∷ []) true) (Measured.tells 0 (neg_ℤ (pos 32_768_000)))
    ∷ case 8 (Measured.thousandths_of (0x80 ∷ 0x00 ∷ 0x00 ∷ []) false) (Measured.tells 0 (pos 32_768_000))
    -- P9: exponent 0B: 15, signed, unsigned and as a reading; FC: 16
    ∷ case 9 (Measured.thousandths_of (0x04 ∷ 0xD2 ∷ 0x0B ∷ []) true) (Measured.tells 15 (pos 0))
    ∷ case 9 (Measured.thousandths_of (0x04 ∷ 0xD2 ∷ 0x0B ∷ []) false) (Measured.tells 15 (pos 0))
    ∷ case 9 (Reading.reading_of 0x01 0x10 (0x04 ∷ 0xD2 ∷ 0x0B ∷ [])) (Reading.tells 15 None)
    ∷ case 9 (Measured.thousandths_of (0x04 ∷ 0xD2 ∷ 0xFC ∷ []) true) (Measured.tells 16 (pos 0))
    ∷ case 9 (Measured.thousandths_of (0x04 ∷ 0xD2 ∷ 0xFC ∷ []) false) (Measured.tells 16 (pos 0))
    ∷ case 9 (Reading.reading_of 0x01 0x10 (0x04 ∷ 0xD2 ∷ 0xFC ∷ [])) (Reading.tells 16 None)
    -- P10: serial number 1000: waits 0, 10, 6, 4
    ∷ case 10 (EversolarWaits.wait_of 1000 1) (answer 0 (0 ∷ []))
    ∷ case 10 (EversolarWaits.wait_of 1000 2) (answer 0 (10 ∷ []))
    ∷ case 10 (EversolarWaits.wait_of 1000 3) (answer 0 (6 ∷ []))
    ∷ case 10 (EversolarWaits.wait_of 1000 4) (answer 0 (4 ∷ []))
    -- P11: 7E 7E 7E gives nothing, in a stretch or before the first, and the answer is 0
    ∷ case 11 (ComLynxRules.rule false (0x7E ∷ 0x7E ∷ 0x7E ∷ [])) none
    ∷ case 11 (ComLynxRules.rule true (0x7E ∷ 0x7E ∷ 0x7E ∷ [])) none
    ∷ case 11 (answered (0x7E ∷ 0x7E ∷ 0x7E ∷ [])) 0
    -- P12: P4 with two more 80 in front reads as P4
    ∷ case 12 (FroniusRules.rule tt (0x80 ∷ 0x80 ∷ 0x80 ∷ 0x80 ∷ 0x80 ∷ 0x00 ∷ 0x00 ∷ 0x00 ∷ 0x01 ∷ 0x01 ∷ [])) (reads get_version 10)
    ∷ []

-- how many cases each number has
abbrev pub table : List (ℕ × ℕ)
table =
    (1, 5) ∷ (2, 2) ∷ (3, 4) ∷ (4, 2) ∷ (5, 2) ∷ (6, 2) ∷ (7, 1) ∷ (8, 2) ∷ (9, 6) ∷ (10, 4) ∷ (11, 3) ∷ (12, 1) ∷ []

-- THE ONE STATEMENT: all of them hold, they stand in order, and of none of the twelve is a case missing
abbrev pub AllHold : Type 0
AllHold = Hold cases × (numbers cases ≡ times table)
