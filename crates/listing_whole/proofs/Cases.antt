-- The listings of the cases, by computation.
-- Assumes nothing.
use mathlib.Core.Path.{refl}
use Rattle.comlynx_checksum.specs.Checksum.{folded, bit_step, bit_steps, entry, checksum_next, checksum_from, checksum_of, sent_after, sent, agrees}
use Rattle.comlynx.specs.Wire as ComLynxWire
use Rattle.comlynx.specs.Rules as ComLynxRules
use Rattle.drives.specs.Wire as DrivesWire
use Rattle.drives.specs.Rules as DrivesRules
use Rattle.uplink.specs.Packet as Packet
use Rattle.ports.specs.Ports.{seat_at}
use Rattle.listing_text.specs.Lines.{hex_digit, decimal}
use Rattle.listing_whole.specs.Listing.{by_packet, by_end, listing_of}
use Rattle.listing_whole.specs.Cases.{L1, BrokenStretch, DriveRead, LowerCaseLetter, Nothing}

pub l1 : L1
unfolding listing_of by_packet by_end Packet.version_of Packet.known Packet.counted Packet.marked Packet.carried Packet.packet_at seat_at hex_digit decimal ComLynxWire.body ComLynxRules.judged ComLynxRules.judge ComLynxRules.within ComLynxRules.before folded bit_step bit_steps entry checksum_next checksum_from checksum_of sent_after sent agrees
l1 = refl

pub broken_stretch : BrokenStretch
unfolding listing_of by_packet by_end Packet.version_of Packet.known Packet.counted Packet.marked Packet.carried Packet.packet_at seat_at decimal ComLynxRules.judge ComLynxRules.within ComLynxRules.before
broken_stretch = refl

pub drive_read : DriveRead
unfolding listing_of by_packet by_end Packet.version_of Packet.known Packet.counted Packet.marked Packet.carried Packet.packet_at seat_at hex_digit decimal DrivesWire.opens DrivesWire.is_hex DrivesWire.is_letter DrivesWire.proper DrivesWire.frame_most DrivesWire.checksum DrivesWire.hex_digit DrivesRules.sized DrivesRules.agrees DrivesRules.judged DrivesRules.within DrivesRules.sought
drive_read = refl

pub lower_case_letter : LowerCaseLetter
unfolding listing_of by_packet by_end Packet.version_of Packet.known Packet.counted Packet.marked Packet.carried Packet.packet_at seat_at decimal DrivesWire.opens DrivesWire.is_hex DrivesWire.is_letter DrivesWire.proper DrivesWire.frame_most DrivesRules.sized DrivesRules.judged DrivesRules.within DrivesRules.sought
lower_case_letter = refl

pub nothing : Nothing
unfolding listing_of by_packet by_end decimal
nothing = refl
