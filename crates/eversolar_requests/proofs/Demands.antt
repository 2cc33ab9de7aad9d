-- What specs/Demands.antt states, proved under the same names.
-- Assumes nothing.
use Rattle.std.specs.Prelude.{Ok, Err}
use mathlib.Core.Path.{refl}
use mathlib.Core.Bool.{true}
use Rattle.numbers.specs.Addresses.{is_address, is_serial}
use Rattle.eversolar_requests.specs.Requests.{ask_all, ask_one, give_address}
use Rattle.eversolar_requests.specs.Demands.{ReadsBack, Kept}
use Rattle.eversolar_requests.proofs.BuilderEnds.{request_kept}
use Rattle.eversolar_requests.proofs.RequestReadsBack.{ask_all_reads_back, ask_one_reads_back, give_address_reads_back}

pub reads_back : ReadsBack
reads_back = record {
  all = λ what lent later n h. ask_all_reads_back what lent later (Ok n) n h refl;
  one = λ what address lent later n h. ask_one_reads_back what address lent later (Ok n) n h refl;
  given = λ serial address lent later n g h. give_address_reads_back serial address lent later (Ok n) n g h refl;
}

pub kept : Kept
kept = record {
  all = λ what lent later why h. request_kept true true (ask_all what) lent later (Err why) h refl;
  one = λ what address lent later why h. request_kept (is_address address) true (ask_one what address) lent later (Err why) h refl;
  given = λ serial address lent later why h. request_kept (is_address address) (is_serial serial) (give_address serial address) lent later (Err why) h refl;
}
