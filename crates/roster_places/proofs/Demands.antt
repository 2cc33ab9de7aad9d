-- What specs/Demands.antt states, proved under the same name.
-- Assumes nothing.
use mathlib.Core.Path.{sym, ap, ◌∙◌}
use mathlib.Core.List.{List}
use Rattle.roster.specs.Roster.{giving, removing, finding}
use Rattle.roster.specs.Bytes.{bytes_of}
use Rattle.roster.specs.declared.Place.{Place}
use Rattle.roster.proofs.PlacesInBytes.{places_bytes}
use Rattle.roster.proofs.One.{given_alike, removed_alike, found_alike}
use Rattle.roster_places.specs.Demands.{SameAnswers}

pub same_answers : SameAnswers
same_answers = record {
  given = λ ps qs serial later g h w x y.
      (let e = places_bytes ps w in (
        given_alike g h (x.0 ∙ sym (y.0 ∙ ap (λ (l : List Place). (giving l serial).0) e)),
        ap bytes_of x.1 ∙ sym (y.1 ∙ ap (λ (l : List Place). bytes_of (giving l serial).1) e),
      ));
  removed = λ ps qs address later q r w x y.
      (let e = places_bytes ps w in (
        removed_alike q r (x.0 ∙ sym (y.0 ∙ ap (λ (l : List Place). (removing l address).0) e)),
        ap bytes_of x.1 ∙ sym (y.1 ∙ ap (λ (l : List Place). bytes_of (removing l address).1) e),
      ));
  found = λ ps serial e f w x y. found_alike e f x.1 y.1 (x.0 ∙ sym (y.0 ∙ ap (λ (l : List Place). finding l serial) (places_bytes ps w)));
}
