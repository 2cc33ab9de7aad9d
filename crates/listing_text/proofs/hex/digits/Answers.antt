-- `digits` meets its promise: antt computes all sixteen and compares.
use mathlib.Core.Path.{refl}
use Rattle.listing_text.specs.Lines.{hex_digit}
use Rattle.listing_text.specs.Inside.{digits_from, hex_digits}
use Rattle.listing_text.proofs.hex.digits.Goals as goal

pub returns : goal.returns
unfolding hex_digit digits_from hex_digits
returns c = refl
