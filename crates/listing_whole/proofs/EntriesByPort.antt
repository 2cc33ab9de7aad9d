-- What is listed of each port, and how many messages and damages that makes in all.
-- Assumes nothing.
use Prim.Native.Nat.{ℕ, ◌+◌}
use mathlib.Core.Path.{◌≡◌, refl, sym, ap, ap₂, ◌∙◌, subst}
use mathlib.Core.Bool.{Bool, true, false, cond}
use mathlib.Core.Option.{Option, none, some}
use mathlib.Core.List.{List, [], ◌∷◌, ◌++◌, map, append-nil, append_assoc}
use lib.ListN.{length, drop}
use lib.Seq.{drop-append_seam}
use lib.Dec.{T, eqb}
use lib.Pow.{are_bytes}
use borrow.Author.Tests.{eqb-true}
use native.Mathlib.Omega.{arith}
use Rattle.stream.specs.Event.{Event, message}
use Rattle.stream.proofs.CallsComeTo.{after}
use Rattle.stream.proofs.BytesOfParts.{bytes_left}
use Rattle.ports.specs.Ports.{Seat, seats, sum_over, row_of, seat_at}
use Rattle.ports.proofs.EveryRow.{facts_of, OnSeat}
use Rattle.ports.proofs.TableLaws.{sums_to_none}
use Rattle.listing_text.specs.Lines.{Shown}
use Rattle.listing.specs.Entries.{Entry, entries_on, is_message, is_damage, messages_in, damages_in}
use Rattle.listing.specs.Steps.{Packet}
use Rattle.listing_whole.specs.Listing.{found_on, found, joined, brings, entries}
use Rattle.listing_whole.specs.Demands.{on_port, ByPort, CutsDoNotMatter}
use Rattle.listing_whole.proofs.MachineFindsRule.{given, found_more}
use Rattle.listing_whole.proofs.EntriesByPacket.{on_append, on_same, on_other, joined_append, joined_same, joined_other}

-- ---- more bytes of a port only add to what is found in it

record Grows (on : Option Seat) (a b : List ℕ) : Type 0 where
  more : List (Event Shown)
  adds : found_on on (a ++ b) ≡ found_on on a ++ more

grows : (on : Option Seat) (a b : List ℕ) → T (are_bytes (a ++ b)) → Grows on a b
grows none a b h = record { more = []; adds = refl }
grows (some seat) a b h = record { more = given seat (after (row_of seat).next (row_of seat).family.fresh a) b; adds = found_more seat a b h }

adds_up : (port : ℕ) (a b : List ℕ) → T (are_bytes (a ++ b)) → found port a ++ drop (length (found port a)) (found port (a ++ b)) ≡ found port (a ++ b)
adds_up port a b h =
    let k = grows (seat_at port) a b h in
    ap (λ (l : List (Event Shown)). found port a ++ drop (length (found port a)) l) k.adds
    ∙ ap (λ (l : List (Event Shown)). found port a ++ l) (drop-append_seam (found port a) k.more)
    ∙ sym k.adds

-- ---- by port

module _ (port : ℕ) where
  -- a packet's own entries, after those of the packets before it
  one_packet : (ps : List Packet) (q : Packet) (t : Bool) → eqb q.port port ≡ t → T (are_bytes (joined port (ps ++ (q ∷ []))))
      → found port (joined port ps) ++ on_port port (entries_on q.port (brings ps q)) ≡ found port (joined port (ps ++ (q ∷ [])))
  one_packet ps q true e g =
      let j = joined_same port ps q e in
      ap (λ (l : List (Event Shown)). found port (joined port ps) ++ l) (on_same port q.port (brings ps q) e)
      ∙ ap (λ (n : ℕ). found port (joined port ps) ++ drop (length (found n (joined n ps))) (found n (joined n (ps ++ (q ∷ []))))) (eqb-true q.port port e)
      ∙ ap (λ (l : List ℕ). found port (joined port ps) ++ drop (length (found port (joined port ps))) (found port l)) j
      ∙ adds_up port (joined port ps) q.piece (subst (λ (l : List ℕ). T (are_bytes l)) j g)
      ∙ ap (found port) (sym j)
  one_packet ps q false e g =
      ap (λ (l : List (Event Shown)). found port (joined port ps) ++ l) (on_other port q.port (brings ps q) e)
      ∙ append-nil (found port (joined port ps))
      ∙ ap (found port) (sym (joined_other port ps q e))

  all_packets : (ps qs : List Packet) → T (are_bytes (joined port (ps ++ qs)))
      → found port (joined port ps) ++ on_port port (entries ps qs) ≡ found port (joined port (ps ++ qs))
  all_packets ps [] g = append-nil (found port (joined port ps)) ∙ ap (λ (l : List Packet). found port (joined port l)) (sym (append-nil ps))
  all_packets ps (q ∷ qs) g =
      let own = on_port port (entries_on q.port (brings ps q)) in
      let next = ps ++ (q ∷ []) in
      let split : ps ++ (q ∷ qs) ≡ next ++ qs = sym (append_assoc ps (q ∷ []) qs) in
      let good : T (are_bytes (joined port (next ++ qs))) = subst (λ (l : List Packet). T (are_bytes (joined port l))) split g in
      let front : T (are_bytes (joined port next)) = bytes_left (joined port next) (joined port qs) (subst (λ (l : List ℕ). T (are_bytes l)) (joined_append port next qs) good) in
      ap (λ (l : List (Event Shown)). found port (joined port ps) ++ l) (on_append port (entries_on q.port (brings ps q)) (entries next qs))
      ∙ sym (append_assoc (found port (joined port ps)) own (on_port port (entries next qs)))
      ∙ ap (λ (l : List (Event Shown)). l ++ on_port port (entries next qs)) (one_packet ps q (eqb q.port port) refl front)
      ∙ all_packets next qs good
      ∙ ap (λ (l : List Packet). found port (joined port l)) (sym split)

-- nothing is found in no bytes
nothing : (on : Option Seat) → found_on on [] ≡ []
nothing none = refl
nothing (some seat) = refl

pub by_port : ByPort
by_port port ps g =
    ap (λ (l : List (Event Shown)). l ++ on_port port (entries [] ps)) (sym (nothing (seat_at port)))
    ∙ all_packets port [] ps g

pub cuts_do_not_matter : CutsDoNotMatter
cuts_do_not_matter port ps qs g e =
    by_port port ps g ∙ ap (found port) e ∙ sym (by_port port qs (subst (λ (l : List ℕ). T (are_bytes l)) e g))

-- ---- the counts, port by port

-- every entry is on a port that has a seat
abbrev pub OnSeats : List Entry → Type 0
OnSeats [] = Unit {0}
OnSeats (e ∷ es) = OnSeat e.port × OnSeats es

-- where one line is chosen, a number for the chosen ones comes to that number
none_chosen : (ls : List Seat) (chosen : Seat → Bool) (k : ℕ) → sum_over ls (λ l. cond (chosen l) 1 0) ≡ 0 → sum_over ls (λ l. cond (chosen l) k 0) ≡ 0
none_chosen [] chosen k e = refl
none_chosen (l ∷ ls) chosen k e = go (chosen l) e (none_chosen ls chosen k)
  where
    go : (t : Bool) → cond t 1 0 + sum_over ls (λ l. cond (chosen l) 1 0) ≡ 0
        → (sum_over ls (λ l. cond (chosen l) 1 0) ≡ 0 → sum_over ls (λ l. cond (chosen l) k 0) ≡ 0) → cond t k 0 + sum_over ls (λ l. cond (chosen l) k 0) ≡ 0
    go true h more = absurd (omega arith)
    go false h more = let rest = more (omega arith) in omega arith

one_chosen : (ls : List Seat) (chosen : Seat → Bool) (k : ℕ) → sum_over ls (λ l. cond (chosen l) 1 0) ≡ 1 → sum_over ls (λ l. cond (chosen l) k 0) ≡ k
one_chosen [] chosen k e = absurd (omega arith)
one_chosen (l ∷ ls) chosen k e = go (chosen l) e (one_chosen ls chosen k)
  where
    go : (t : Bool) → cond t 1 0 + sum_over ls (λ l. cond (chosen l) 1 0) ≡ 1
        → (sum_over ls (λ l. cond (chosen l) 1 0) ≡ 1 → sum_over ls (λ l. cond (chosen l) k 0) ≡ k) → cond t k 0 + sum_over ls (λ l. cond (chosen l) k 0) ≡ k
    go true h more = let rest = none_chosen ls chosen k (omega arith) in omega arith
    go false h more = let rest = more (omega arith) in omega arith

-- an entry is counted on its own port, and on no other
module _ (n : Event Shown → ℕ) where
  abbrev pub among : List (Event Shown) → ℕ
  among [] = 0
  among (e ∷ es) = n e + among es

  abbrev pub in_all : List Entry → ℕ
  in_all [] = 0
  in_all (e ∷ es) = n e.event + in_all es

  one_entry : (ls : List Seat) (e : Event Shown) (chosen : Seat → Bool) (a : Seat → List (Event Shown))
      → sum_over ls (λ l. among (cond (chosen l) (e ∷ a l) (a l))) ≡ sum_over ls (λ l. cond (chosen l) (n e) 0) + sum_over ls (λ l. among (a l))
  one_entry [] e chosen a = refl
  one_entry (l ∷ ls) e chosen a = go (chosen l) (one_entry ls e chosen a)
    where
      go : (t : Bool) → sum_over ls (λ l. among (cond (chosen l) (e ∷ a l) (a l))) ≡ sum_over ls (λ l. cond (chosen l) (n e) 0) + sum_over ls (λ l. among (a l))
          → among (cond t (e ∷ a l) (a l)) + sum_over ls (λ l. among (cond (chosen l) (e ∷ a l) (a l)))
          ≡ (cond t (n e) 0 + sum_over ls (λ l. cond (chosen l) (n e) 0)) + (among (a l) + sum_over ls (λ l. among (a l)))
      go true h = omega arith
      go false h = omega arith

  pub by_ports : (es : List Entry) → OnSeats es → in_all es ≡ sum_over seats (λ l. among (on_port (row_of l).port es))
  by_ports [] h = sym (sums_to_none seats (λ l. 0) (λ l. refl))
  by_ports (e ∷ es) h =
      let chosen = one_chosen seats (λ l. eqb e.port (row_of l).port) (n e.event)
      (subst (λ (q : ℕ). sum_over seats (λ l. cond (eqb q (row_of l).port) 1 0) ≡ 1) h.0.1 (facts_of h.0.0).once) in
      ap₂ ◌+◌ (sym chosen) (by_ports es h.1)
      ∙ sym (one_entry seats e.event (λ l. eqb e.port (row_of l).port) (λ l. on_port (row_of l).port es))

pub messages_are : (es : List Entry) → messages_in es ≡ in_all is_message es
messages_are [] = refl
messages_are (e ∷ es) = ap (λ (k : ℕ). is_message e.event + k) (messages_are es)

pub damages_are : (es : List Entry) → damages_in es ≡ in_all is_damage es
damages_are [] = refl
damages_are (e ∷ es) = ap (λ (k : ℕ). is_damage e.event + k) (damages_are es)

-- messages alone
pub all_messages : {M : Type 0} (show : M → Shown) (ms : List M) → (among is_message (map (λ m. message (show m)) ms) ≡ length ms) × (among is_damage (map (λ m. message (show m)) ms) ≡ 0)
all_messages show [] = (refl, refl)
all_messages show (m ∷ ms) = let k = all_messages show ms in (omega (arith, k.0), omega (arith, k.1))
