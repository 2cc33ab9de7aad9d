-- All cases, each by computation.
-- Assumes nothing.
use mathlib.Core.Path.{refl}
use lib.Ieee.{of_int}
use Rattle.comlynx_checksum.specs.Checksum.{folded, bit_step, bit_steps, entry, checksum_next, checksum_from, checksum_of, sent_after, sent, agrees}
use Rattle.comlynx.specs.Wire as ComLynxWire
use Rattle.comlynx.specs.Rules as ComLynxRules
use Rattle.comlynx.specs.Machine as ComLynxMachine
use Rattle.eversolar_words.specs.Words as EversolarWords
use Rattle.eversolar.specs.Wire as EversolarWire
use Rattle.eversolar.specs.Rules as EversolarRules
use Rattle.eversolar_meaning.specs.Energy as EversolarEnergy
use Rattle.eversolar_meaning.specs.Waits as EversolarWaits
use Rattle.fronius.specs.Wire as FroniusWire
use Rattle.fronius.specs.Rules as FroniusRules
use Rattle.fronius_meaning.specs.Measured as Measured
use Rattle.fronius_meaning.specs.Reading as Reading
use Rattle.cases.specs.Cases.{AllHold}

pub all_hold : AllHold
unfolding folded bit_step bit_steps entry checksum_next checksum_from checksum_of sent_after sent agrees ComLynxWire.body ComLynxRules.judged ComLynxRules.judge ComLynxRules.within ComLynxRules.before ComLynxMachine.in_range ComLynxMachine.keep_of ComLynxMachine.advance_of ComLynxMachine.moved ComLynxMachine.next EversolarWords.word EversolarWords.word_bytes EversolarWire.checksum EversolarRules.judged EversolarRules.frame EversolarRules.sought EversolarEnergy.item EversolarEnergy.energy_of EversolarWaits.wait_at EversolarWaits.wait_of FroniusWire.checksum FroniusRules.judged FroniusRules.frame FroniusRules.sized FroniusRules.sought Measured.thousandths_of Reading.reading_of Reading.kind_of of_int
all_hold = ((refl, (refl, (refl, (refl, (refl, (refl, (refl, (refl, (refl, (refl, (refl, (refl, (refl, (refl, (refl, (refl, (refl, (refl, (refl, (refl, (refl, (refl, (refl, (refl, (refl, (refl, (refl, (refl, (refl, (refl, (refl, (refl, (refl, (refl, tt)))))))))))))))))))))))))))))))))), refl)
