-- What a family's rule finds is what its machine gives, and so what more bytes bring is what the machine gives on them.
-- Assumes nothing.
use Prim.Native.Nat.{ℕ}
use mathlib.Core.Path.{◌≡◌, refl, sym, ap, ◌∙◌}
use mathlib.Core.Option.{some}
use mathlib.Core.List.{List, [], ◌∷◌, ◌++◌, map}
use lib.ListN.{length, drop}
use lib.Seq.{drop-append_seam}
use lib.Dec.{T}
use lib.Pow.{are_bytes}
use Rattle.stream.specs.Event.{Event, message}
use Rattle.stream.specs.Pieces.{Moved}
use Rattle.stream.specs.Rule.{Settled, readings}
use Rattle.stream.specs.Written.{written, Each}
use Rattle.stream.specs.Family.{Family}
use Rattle.stream.proofs.CallsComeTo.{events, after, events_append}
use Rattle.stream.proofs.BytesOfParts.{bytes_left}
use Rattle.stream.proofs.Demands.{events_found, events_written, written_bytes}
use Rattle.ports.specs.Ports.{Seat, row_of}
use Rattle.ports.proofs.EveryRow.{facts_of}
use Rattle.listing_text.specs.Lines.{Shown}
use Rattle.listing.specs.Entries.{show_event}
use Rattle.listing_whole.specs.Listing.{found_on}

-- ---- of lists

map_map : {A B C : Type 0} (f : A → B) (g : B → C) (l : List A) → map g (map f l) ≡ map (λ x. g (f x)) l
map_map f g [] = refl
map_map f g (x ∷ l) = ap (λ r. g (f x) ∷ r) (map_map f g l)

map_append : {A B : Type 0} (f : A → B) (k l : List A) → map f (k ++ l) ≡ map f k ++ map f l
map_append f [] l = refl
map_append f (x ∷ k) l = ap (λ r. f x ∷ r) (map_append f k l)

-- ---- on a seat

module _ (seat : Seat) where
  abbrev F : Family
  F = (row_of seat).family

  abbrev next : F.State → ℕ → Moved F.State (Event F.Message)
  next = (row_of seat).next

  abbrev show : F.Message → Shown
  show = (row_of seat).show

  abbrev pub found_in : List ℕ → List (Event Shown)
  found_in bs = found_on (some seat) bs

  abbrev pub given : F.State → List ℕ → List (Event Shown)
  given s bs = map (show_event show) (events next s bs)

  -- the machine of the row is that which the facts speak of
  events_same : (bs : List ℕ) → events (facts_of seat).facts.next F.fresh bs ≡ events next F.fresh bs
  events_same bs = ap (λ (n : F.State → ℕ → Moved F.State (Event F.Message)). events n F.fresh bs) (facts_of seat).machine

  pub found_is : (bs : List ℕ) → T (are_bytes bs) → found_in bs ≡ given F.fresh bs
  found_is bs g =
      sym (map_map (λ (p : Settled (Event F.Message)). p.event) (show_event show) (readings F.rule F.after_event F.at_start bs))
      ∙ ap (map (show_event show)) (sym (events_found F (facts_of seat).facts bs g) ∙ events_same bs)

  pub found_more : (a b : List ℕ) → T (are_bytes (a ++ b)) → found_in (a ++ b) ≡ found_in a ++ given (after next F.fresh a) b
  found_more a b g =
      found_is (a ++ b) g
      ∙ ap (map (show_event show)) (events_append next F.fresh a b)
      ∙ map_append (show_event show) (events next F.fresh a) (events next (after next F.fresh a) b)
      ∙ ap (λ (l : List (Event Shown)). l ++ given (after next F.fresh a) b) (sym (found_is a (bytes_left a b g)))

  -- what the bytes b bring after the bytes a
  pub brought : (a b : List ℕ) → T (are_bytes (a ++ b)) → drop (length (found_in a)) (found_in (a ++ b)) ≡ given (after next F.fresh a) b
  brought a b g = ap (drop (length (found_in a))) (found_more a b g) ∙ drop-append_seam (found_in a) (given (after next F.fresh a) b)

  shown_messages : (ms : List F.Message) → map (show_event show) (map message ms) ≡ map (λ m. message (show m)) ms
  shown_messages ms = map_map message (show_event show) ms

  pub found_written : (ms : List F.Message) → Each F.Takes ms → found_in (written F.wire ms) ≡ map (λ m. message (show m)) ms
  found_written ms t =
      found_is (written F.wire ms) (written_bytes F (facts_of seat).facts ms t)
      ∙ ap (map (show_event show)) (sym (events_same (written F.wire ms)) ∙ events_written F (facts_of seat).facts ms t)
      ∙ shown_messages ms
