-- `places` ends: a digit less each time.
use Rattle.listing_text.proofs.decimal.+places.Given as goal

abbrev pub decreases-places : goal.decreases-places
decreases-places l = l.n
