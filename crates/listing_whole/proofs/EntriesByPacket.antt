-- Entries and packets one after another: those of one port, and their bytes.
-- Assumes nothing.
use Prim.Native.Nat.{ℕ}
use mathlib.Core.Path.{◌≡◌, refl, sym, ap, ◌∙◌}
use mathlib.Core.Bool.{Bool, true, false, cond}
use mathlib.Core.List.{List, [], ◌∷◌, ◌++◌, append-nil, append_assoc}
use lib.Dec.{eqb}
use Rattle.stream.specs.Event.{Event}
use Rattle.listing_text.specs.Lines.{Shown}
use Rattle.listing.specs.Entries.{Entry, entries_on}
use Rattle.listing.specs.Steps.{Packet}
use Rattle.listing_whole.specs.Listing.{joined, brings, entries}
use Rattle.listing_whole.specs.Demands.{on_port}

pub on_append : (port : ℕ) (a b : List Entry) → on_port port (a ++ b) ≡ on_port port a ++ on_port port b
on_append port [] b = refl
on_append port (e ∷ a) b = go (eqb e.port port) (on_append port a b)
  where
    go : (t : Bool) → on_port port (a ++ b) ≡ on_port port a ++ on_port port b
        → cond t (e.event ∷ on_port port (a ++ b)) (on_port port (a ++ b)) ≡ cond t (e.event ∷ on_port port a) (on_port port a) ++ on_port port b
    go true h = ap (λ (l : List (Event Shown)). e.event ∷ l) h
    go false h = h

-- the entries of a port are on that port, and on no other
pub on_same : (port q : ℕ) (es : List (Event Shown)) → eqb q port ≡ true → on_port port (entries_on q es) ≡ es
on_same port q [] h = refl
on_same port q (e ∷ es) h = rw h (ap (λ (l : List (Event Shown)). e ∷ l) (on_same port q es h))

pub on_other : (port q : ℕ) (es : List (Event Shown)) → eqb q port ≡ false → on_port port (entries_on q es) ≡ []
on_other port q [] h = refl
on_other port q (e ∷ es) h = rw h (on_other port q es h)

-- the packets ps and then qs
pub joined_append : (port : ℕ) (ps qs : List Packet) → joined port (ps ++ qs) ≡ joined port ps ++ joined port qs
joined_append port [] qs = refl
joined_append port (p ∷ ps) qs = go (eqb p.port port) (joined_append port ps qs)
  where
    go : (t : Bool) → joined port (ps ++ qs) ≡ joined port ps ++ joined port qs
        → cond t (p.piece ++ joined port (ps ++ qs)) (joined port (ps ++ qs)) ≡ cond t (p.piece ++ joined port ps) (joined port ps) ++ joined port qs
    go true h = ap (λ (l : List ℕ). p.piece ++ l) h ∙ sym (append_assoc p.piece (joined port ps) (joined port qs))
    go false h = h

-- one packet more, on this port or on another
pub joined_same : (port : ℕ) (ps : List Packet) (p : Packet) → eqb p.port port ≡ true → joined port (ps ++ (p ∷ [])) ≡ joined port ps ++ p.piece
joined_same port ps p h = joined_append port ps (p ∷ []) ∙ rw (h, append-nil)

pub joined_other : (port : ℕ) (ps : List Packet) (p : Packet) → eqb p.port port ≡ false → joined port (ps ++ (p ∷ [])) ≡ joined port ps
joined_other port ps p h = joined_append port ps (p ∷ []) ∙ rw (h, append-nil)

pub entries_append : (ps qs rs : List Packet) → entries ps (qs ++ rs) ≡ entries ps qs ++ entries (ps ++ qs) rs
entries_append ps [] rs = rw append-nil
entries_append ps (q ∷ qs) rs =
    ap (λ (l : List Entry). entries_on q.port (brings ps q) ++ l)
    (entries_append (ps ++ (q ∷ [])) qs rs ∙ ap (λ (l : List Packet). entries (ps ++ (q ∷ [])) qs ++ entries l rs) (append_assoc ps (q ∷ []) qs))
    ∙ sym (append_assoc (entries_on q.port (brings ps q)) (entries (ps ++ (q ∷ [])) qs) (entries (ps ++ (q ∷ qs)) rs))

-- one packet more
pub entries_one : (ps : List Packet) (p : Packet) → entries [] (ps ++ (p ∷ [])) ≡ entries [] ps ++ entries_on p.port (brings ps p)
entries_one ps p = entries_append [] ps (p ∷ []) ∙ ap (λ (l : List Entry). entries [] ps ++ l) (append-nil (entries_on p.port (brings ps p)))
