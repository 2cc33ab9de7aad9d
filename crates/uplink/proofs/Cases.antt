-- The cases, each by computation. Assumes nothing.
use mathlib.Core.Path.{refl}
use Rattle.answers.specs.Written.{writing}
use Rattle.uplink.specs.Packet.{version_of, known, counted, marked, carried, packet_at, written}
use Rattle.uplink.specs.Cases.{Cases}

pub cases : Cases
unfolding version_of known counted marked carried packet_at written writing
cases = record {
  version_00_00 = refl;
  version_00_01 = refl;
  version_00_02 = refl;
  version_00_03 = refl;
  version_01_00 = refl;
  version_02_00 = refl;
  taken = refl;
  none_counted = refl;
  too_many = refl;
  one_missing = refl;
  for_port_3 = refl;
  for_port_4 = refl;
  for_port_5 = refl;
}
