-- What a host relies on, of any family's `step`: it uses no more than its piece, at least a byte where it is not refused, and data that it tells of
-- fit into the lent buffer.
-- Assumes nothing.
use Prim.Native.Nat.{ℕ, ◌≤◌, ◌<◌}
use mathlib.Core.Path.{◌≡◌, sym, ap, ◌∙◌, subst}
use mathlib.Core.Bool.{Bool, true, false, cond}
use mathlib.Core.List.{List}
use lib.ListN.{length, length-append, length-drop}
use lib.Dec.{ltb}
use native.Mathlib.Omega.{arith}
use Rattle.stream.specs.Event.{Event, message, damage, Told, done, gives, refuses}
use Rattle.stream.specs.Pieces.{Moved, scan}
use Rattle.stream.specs.Call.{Seen, unmoved, answered, called, lent_least, delivered, retold, Steps}
use Rattle.stream.proofs.LoopScans.{scan_used, scan_uses}

-- no refusal
abbrev pub Fine : {H : Type 0} → Told H → Type 0
Fine done = Unit {0}
Fine (gives e) = Unit {0}
Fine (refuses n) = ⊥

module _ {S M H R : Type 0} (next : S → ℕ → Moved S (Event M)) (in_range : S → Bool) (header : M → H) (payload : M → List ℕ) (shown : R → Seen S H) where
  abbrev chosen : Bool → Bool → S → List ℕ → Seen S M
  chosen i short s piece = cond i (cond short (unmoved 9 s) (answered (scan next s piece))) (unmoved 18 s)

  chosen_used : (i short : Bool) (s : S) (piece : List ℕ) → (chosen i short s piece).used ≤ length piece
  chosen_used true true s piece = omega arith
  chosen_used true false s piece = scan_used next s piece
  chosen_used false short s piece = omega arith

  chosen_uses : (i short : Bool) (s : S) (piece : List ℕ) → Fine (retold header (chosen i short s piece).told) → 0 < length piece → 0 < (chosen i short s piece).used
  chosen_uses true true s piece fine some = absurd fine
  chosen_uses true false s piece fine some = scan_uses next s piece some
  chosen_uses false short s piece fine some = absurd fine

  pub step_used : (s : S) (piece lent later : List ℕ) (r : R) → Steps next in_range header payload shown s piece lent r later → (shown r).used ≤ length piece
  step_used s piece lent later r st =
      let used : (shown r).used ≡ (called next in_range s piece lent).used = ap (λ (v : Seen S H). v.used) st.0 in
      omega (arith, chosen_used (in_range s) (ltb (length lent) lent_least) s piece)

  pub step_uses : (s : S) (piece lent later : List ℕ) (r : R) → Steps next in_range header payload shown s piece lent r later
      → Fine (shown r).told → 0 < length piece → 0 < (shown r).used
  step_uses s piece lent later r st fine some =
      let used : (shown r).used ≡ (called next in_range s piece lent).used = ap (λ (v : Seen S H). v.used) st.0 in
      let same = subst (λ (v : Seen S H). Fine v.told) st.0 fine in
      omega (arith, chosen_uses (in_range s) (ltb (length lent) lent_least) s piece same some)

  -- the length of the data that are told of, by a header's own number
  module _ (len : H → ℕ) (counts : (m : M) → len (header m) ≡ length (payload m)) where
    abbrev length_told : Told H → ℕ
    length_told done = 0
    length_told (gives (message h)) = len h
    length_told (gives (damage n lost)) = 0
    length_told (refuses n) = 0

    told_fits : (t : Told M) (lent : List ℕ) → length (delivered payload t lent) ≡ length lent → length_told (retold header t) ≤ length lent
    told_fits done lent e = omega arith
    told_fits (gives (message m)) lent e =
        let own = counts m in
        let both = rw (length-append, length-drop) at e in
        omega arith
    told_fits (gives (damage n lost)) lent e = omega arith
    told_fits (refuses n) lent e = omega arith

    pub step_fits : (s : S) (piece lent later : List ℕ) (r : R) (h : H) → Steps next in_range header payload shown s piece lent r later
        → length later ≡ length lent → (shown r).told ≡ gives (message h) → len h ≤ length lent
    step_fits s piece lent later r h st same told =
        let c = called next in_range s piece lent in
        let all : len h ≡ length_told (retold header c.told) = ap length_told (sym told ∙ ap (λ (v : Seen S H). v.told) st.0) in
        omega (arith, told_fits c.told lent (sym (ap length st.1) ∙ same))
