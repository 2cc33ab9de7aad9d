-- `no_packet` meets its promise: by its one test.
use mathlib.Core.Path.{◌≡◌, refl}
use mathlib.Core.Bool.{true}
use Rattle.answers.specs.declared.Refusal.TheVariants.{BytesMissing}
use Rattle.listing.specs.Steps.{wants_more}
use Rattle.listing.proofs.StepMakes.{same_made, nothing, no_packet_more, no_packet_over}
use Rattle.listing.proofs.no_packet.Goals.{in_default-via-in-BytesMissing+else-not-ended, in_default-via-in_default}
use Rattle.listing.proofs.no_packet.Goals as goal

pub returns-in-BytesMissing : goal.returns-in-BytesMissing
returns-in-BytesMissing c =
    let a = c.args in
    same_made a.l a.out.now a.out.now c.wants_more.result (no_packet_more a.l a.why a.ended c.in-BytesMissing.is c.if-not-ended.true)
    (nothing a.l (wants_more a.l) a.out.now c.wants_more.result refl refl c.wants_more.ensures)

pub returns-in_default : goal.returns-in_default
returns-in_default c =
    let a = c.args in
    let only : a.why ≡ BytesMissing → a.ended ≡ true = λ e. elim c.in_default.branch [
      | in_default-via-in-BytesMissing+else-not-ended w ↦ w.if-not-ended.false
      | in_default-via-in_default w ↦ absurd (w.in_default.not-BytesMissing e)
    ] in
    same_made a.l a.out.now c.over.new.out c.over.result (no_packet_over a.l a.why a.ended only) c.over.ensures
