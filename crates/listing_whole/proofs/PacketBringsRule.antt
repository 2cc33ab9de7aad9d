-- A packet handed to readers that stand where the packets before it led them: it brings what the rule says, and they stand where it leads them.
-- Assumes nothing.
use Prim.Native.Nat.{ℕ}
use mathlib.Core.Path.{◌≡◌, refl, sym, ap, ◌∙◌, subst}
use mathlib.Core.Logic.{◌⊎◌, inl, inr}
use mathlib.Core.List.{List, [], ◌∷◌, ◌++◌, map}
use lib.ListN.{length, drop}
use lib.Dec.{T}
use lib.Pow.{are_bytes}
use borrow.Author.Tests.{eq-eqb}
use native.Mathlib.Omega.{arith}
use Rattle.stream.specs.Event.{Event}
use Rattle.stream.specs.Pieces.{Ran, calls}
use Rattle.stream.proofs.CallsComeTo.{events, after, after_append, calls_is}
use Rattle.ports.specs.Ports.{Seat, row_of}
use Rattle.ports.specs.declared.Ports.{Ports}
use Rattle.ports.proofs.EveryRow.{facts_of, OnSeat}
use Rattle.ports.proofs.TableLaws.{same_seat, other_port}
use Rattle.listing.specs.Entries.{show_event}
use Rattle.listing.specs.Steps.{Packet}
use Rattle.listing_whole.specs.Listing.{joined, brings}
use Rattle.listing.specs.Steps.{Fed, fed}
use Rattle.listing_whole.proofs.MachineFindsRule.{found_in, brought}
use Rattle.listing_whole.proofs.EntriesByPacket.{joined_same, joined_other}

-- where the packets ps lead the reader of a seat
abbrev pub led : (seat : Seat) → List Packet → (row_of seat).family.State
led seat ps = after (row_of seat).next (row_of seat).family.fresh (joined (row_of seat).port ps)

-- the readers where the packets ps lead them
abbrev pub Stand : List Packet → Ports → Type 0
Stand ps l = (seat : Seat) → (row_of seat).get l ≡ led seat ps

-- the pieces of each port are bytes
abbrev pub Bytes : List Packet → Type 0
Bytes ps = (port : ℕ) → T (are_bytes (joined port ps))

pub record Right (ps : List Packet) (p : Packet) (f : Fed) : Type 0 where
  pub brought : f.events ≡ brings ps p
  pub stand : Stand (ps ++ (p ∷ [])) f.ports

-- ---- a packet on a seat

module _ (seat : Seat) (ps : List Packet) (bs : List ℕ) (l : Ports) (st : Stand ps l) where
  abbrev port : ℕ
  port = (row_of seat).port

  abbrev p : Packet
  p = record { port = port; piece = bs }

  abbrev ran : Ran (row_of seat).family.State (Event (row_of seat).family.Message)
  ran = calls (row_of seat).next (length bs) ((row_of seat).get l) bs

  own : joined port (ps ++ (p ∷ [])) ≡ joined port ps ++ bs
  own = joined_same port ps p (eq-eqb port port refl)

  ran_is : ran ≡ record { state = after (row_of seat).next ((row_of seat).get l) bs; events = events (row_of seat).next ((row_of seat).get l) bs; left = [] }
  ran_is = calls_is (row_of seat).next (length bs) ((row_of seat).get l) bs (omega arith)

  brings_events : T (are_bytes (joined port (ps ++ (p ∷ []))))
      → map (show_event (row_of seat).show) ran.events ≡ drop (length (found_in seat (joined port ps))) (found_in seat (joined port (ps ++ (p ∷ []))))
  brings_events g =
      ap (λ (r : Ran (row_of seat).family.State (Event (row_of seat).family.Message)). map (show_event (row_of seat).show) r.events) ran_is
      ∙ ap (λ (t : (row_of seat).family.State). map (show_event (row_of seat).show) (events (row_of seat).next t bs)) (st seat)
      ∙ sym (brought seat (joined port ps) bs (subst (λ (k : List ℕ). T (are_bytes k)) own g))
      ∙ ap (λ (k : List ℕ). drop (length (found_in seat (joined port ps))) (found_in seat k)) (sym own)

  leads : ran.state ≡ led seat (ps ++ (p ∷ []))
  leads =
      ap (λ (r : Ran (row_of seat).family.State (Event (row_of seat).family.Message)). r.state) ran_is
      ∙ ap (λ (t : (row_of seat).family.State). after (row_of seat).next t bs) (st seat)
      ∙ sym (after_append (row_of seat).next (row_of seat).family.fresh (joined port ps) bs)
      ∙ ap (after (row_of seat).next (row_of seat).family.fresh) (sym own)

  stands_on : Stand (ps ++ (p ∷ [])) ((row_of seat).put l ran.state)
  stands_on other = go (same_seat seat other)
    where
      go : (seat ≡ other) ⊎ (seat ≡ other → ⊥) → (row_of other).get ((row_of seat).put l ran.state) ≡ led other (ps ++ (p ∷ []))
      go (inl e) =
          subst (λ (k : Seat). (row_of k).get ((row_of seat).put l ran.state) ≡ led k (ps ++ (p ∷ []))) e
          ((facts_of seat).got l ran.state ∙ leads)
      go (inr n) =
          (facts_of seat).others other l ran.state n ∙ st other
          ∙ ap (after (row_of other).next (row_of other).family.fresh) (sym (joined_other (row_of other).port ps p (other_port seat other n)))

  on_seat : Bytes (ps ++ (p ∷ [])) → Right ps p (fed p l)
  on_seat g = record { brought = rw (facts_of seat).own_seat (brings_events (g port)); stand = rw (facts_of seat).own_seat stands_on }

pub fed_right : (ps : List Packet) (p : Packet) (l : Ports) → Stand ps l → OnSeat p.port → Bytes (ps ++ (p ∷ [])) → Right ps p (fed p l)
fed_right ps p l st at =
    subst (λ (n : ℕ). Bytes (ps ++ (record { port = n; piece = p.piece } ∷ [])) → Right ps (record { port = n; piece = p.piece }) (fed (record { port = n; piece = p.piece }) l)) at.1
    (on_seat at.0 ps p.piece l st)
