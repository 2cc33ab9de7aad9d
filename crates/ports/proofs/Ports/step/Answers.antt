-- `Ports::step`: each way is that of the port's row: the call was made, and its answer is the one that the family's comes to.
use mathlib.Core.Path.{refl, ap, ◌∙◌}
use mathlib.Core.List.{[]}
use Rattle.ports.specs.Ports.{comlynx_seat, eversolar_seat, fronius_seat, drives_seat, number}
use Rattle.ports.proofs.EveryRow.{each_seat, facts_of}
use Rattle.ports.proofs.TableLaws.{answered, seat_at_lem, no_seat}
use Rattle.ports.proofs.Ports.step.Goals as goal

pub returns-then-port-eq-COMLYNX : goal.returns-then-port-eq-COMLYNX
returns-then-port-eq-COMLYNX c =
    rw (seat_at_lem comlynx_seat c.if-port-eq-COMLYNX.true) (c.step-s.result, c.step-s.ensures, answered _ _ c.comlynx_answer-answer.ensures, ap number c.comlynx_answer-answer.ensures ∙ (facts_of comlynx_seat).number c.step-s.result [])

pub returns-then-port-eq-EVERSOLAR : goal.returns-then-port-eq-EVERSOLAR
returns-then-port-eq-EVERSOLAR c =
    rw (seat_at_lem eversolar_seat c.if-port-eq-EVERSOLAR.true) (c.step-s-then-port-eq-EVERSOLAR.result, c.step-s-then-port-eq-EVERSOLAR.ensures, answered _ _ c.eversolar_answer-answer.ensures, ap number c.eversolar_answer-answer.ensures ∙ (facts_of eversolar_seat).number c.step-s-then-port-eq-EVERSOLAR.result [])

pub returns-then-port-eq-FRONIUS : goal.returns-then-port-eq-FRONIUS
returns-then-port-eq-FRONIUS c =
    rw (seat_at_lem fronius_seat c.if-port-eq-FRONIUS.true) (c.step-s-then-port-eq-FRONIUS.result, c.step-s-then-port-eq-FRONIUS.ensures, answered _ _ c.fronius_answer-answer.ensures, ap number c.fronius_answer-answer.ensures ∙ (facts_of fronius_seat).number c.step-s-then-port-eq-FRONIUS.result [])

pub returns-then-port-eq-DRIVES : goal.returns-then-port-eq-DRIVES
returns-then-port-eq-DRIVES c =
    rw (seat_at_lem drives_seat c.if-port-eq-DRIVES.true) (c.step-s-then-port-eq-DRIVES.result, c.step-s-then-port-eq-DRIVES.ensures, answered _ _ c.drives_answer-answer.ensures, ap number c.drives_answer-answer.ensures ∙ (facts_of drives_seat).number c.step-s-then-port-eq-DRIVES.result [])

pub returns : goal.returns
returns c = rw (no_seat _ (each_seat _ c.if-port-eq-COMLYNX.false c.if-port-eq-EVERSOLAR.false c.if-port-eq-FRONIUS.false c.if-port-eq-DRIVES.false)) (refl, refl, refl)
