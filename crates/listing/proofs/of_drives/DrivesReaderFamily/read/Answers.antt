-- A call of the drives reader is what its family's promise says of the state put together.
use mathlib.Core.Path.{◌≡◌, refl}
use lib.ListN.{length}
use borrow.Author.Rules.{rules}
use Rattle.drives.specs.Machine.{held_max}
use Rattle.drives.specs.Reader.{header, shown, join, together}
use Rattle.drives.proofs.FamilyFacts.{joins}
use Rattle.ports.specs.Ports.{drives_seat}
use Rattle.listing.proofs.StepIsRead.{is_read}
use Rattle.listing.proofs.of_drives.DrivesReaderFamily.read.Goals as goal

pub returns : goal.returns
returns c =
    let a = c.args in
    let s = c.step_in_place-s in
    let full : length a.self.now.held ≡ held_max = search rules in
    is_read drives_seat (λ r. r.held) held_max header (λ m. m.payload) shown join joins (λ h. h.len) (λ m. refl) a.self.now a.piece.now a.lent.now s.new.lent (together s.new.held s.result) _ full s.ensures
    s.auto.lent c.told.ensures refl
