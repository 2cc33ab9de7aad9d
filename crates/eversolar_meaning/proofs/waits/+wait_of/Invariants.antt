use Rattle.eversolar_meaning.proofs.waits.+wait_of.Given as goal

abbrev pub decreases-wait_of : goal.decreases-wait_of
decreases-wait_of l = l.attempt
