-- The line of a message by its two tests, and by its fields put one behind the other: one law each, over the four lists, for every function that
-- writes such a line.
-- Assumes nothing.
use Rattle.std.specs.Prelude.{Ok, Err}
use Prim.Native.Nat.{ℕ, ◌≤◌}
use mathlib.Core.Path.{◌≡◌, refl, sym, ◌∙◌}
use mathlib.Core.Bool.{Bool, true, false, ◌||◌}
use mathlib.Core.List.{List, [], ◌∷◌, ◌++◌}
use lib.ListN.{length}
use lib.Dec.{ltb}
use borrow.Author.Tests.{ltb-true, ltb-false}
use native.Mathlib.Omega.{arith}
use Rattle.numbers.proofs.Alike.{zero_is_one}
use Rattle.answers.specs.Written.{Writes}
use Rattle.answers.specs.declared.Refusal.TheVariants.{NoRoom}
use Rattle.answers.proofs.WriterPromise.{writes_too_long, writes_no_room}
use Rattle.listing_text.specs.Lines.{field, field_max, Shown, too_long, message_line, IsMessage}
use Rattle.listing_text.specs.Inside.{line_length, refused_for, start, before_code, Put}
use Rattle.listing_text.proofs.FieldLengths.{message_length, message_length_lem, message_text}
use Rattle.listing_text.proofs.PutsJoin.{then, written}

-- what stands before the code
pub before_join : (port : ℕ) (from to : List ℕ) (l a b c : List ℕ) (p q r : ℕ)
    → Put l 0 (start port) p a
    → Put a p (field from ++ (32 ∷ [])) q b
    → Put b q (field to ++ (32 ∷ [])) r c
    → Put l 0 (before_code port from to) r c
before_join port from to l a b c p q r x f g =
    let F = field from ++ (32 ∷ []) in
    let T = field to ++ (32 ∷ []) in
    then l b c (start port ++ F) T 0 q r (then l a b (start port) F 0 p q x f) g

-- the line
pub line_join : (port : ℕ) (m : Shown) (l c d e : List ℕ) (r s t : ℕ)
    → Put l 0 (before_code port m.from m.to) r c
    → Put c r (field m.code ++ (32 ∷ [])) s d
    → Put d s (field m.payload ++ (10 ∷ [])) t e
    → Put l 0 (message_line port m) t e
line_join port m l c d e r s t x h k =
    let B = before_code port m.from m.to in
    let C = field m.code ++ (32 ∷ []) in
    let D = field m.payload ++ (10 ∷ []) in
    let four = then l d e (B ++ C) D 0 s t (then l c d B C 0 r s x h) k in
    rw (message_text port m) at four

-- refused with 9
message_no_room : (port : ℕ) (m : Shown) (lent : List ℕ) → too_long m ≡ false → ltb (length lent) (message_length port m) ≡ true
    → IsMessage port m lent (Err NoRoom) lent
message_no_room port m lent e h =
    rw e (writes_no_room (message_line port m) lent (omega (arith, message_length_lem port m, ltb-true (length lent) (message_length port m) h)))

-- written
message_written : (port : ℕ) (m : Shown) (lent later : List ℕ) (r : ℕ) → too_long m ≡ false → ltb (length lent) (message_length port m) ≡ false
    → Put lent 0 (message_line port m) r later → IsMessage port m lent (Ok r) later
message_written port m lent later r e h put =
    rw e
    (written lent later (message_line port m) (message_line port m) r refl (omega (arith, message_length_lem port m, ltb-false (length lent) (message_length port m) h)) put)

-- by both tests at once
never : {A : Type 0} {a : Bool} → a ≡ true → a ≡ false → A
never x y = zero_is_one cc

pub message_refused : (port : ℕ) (m : Shown) (lent : List ℕ) → (too_long m || ltb (length lent) (message_length port m)) ≡ true
    → IsMessage port m lent (refused_for (too_long m)) lent
message_refused port m lent = go (too_long m) (ltb (length lent) (message_length port m)) refl refl
  where
    go : (t u : Bool) → too_long m ≡ t → ltb (length lent) (message_length port m) ≡ u → (t || u) ≡ true → Writes t (message_line port m) lent (refused_for t) lent
    go true u e h x = writes_too_long (message_line port m) lent
    go false true e h x = rw e at (message_no_room port m lent e h)
    go false false e h x = never x refl

second : (t u : Bool) → (t || u) ≡ false → u ≡ false
second true u x = never refl x
second false u x = x

first : (t u : Bool) → (t || u) ≡ false → t ≡ false
first true u x = x
first false u x = refl

pub message_fits : (port : ℕ) (m : Shown) (lent later : List ℕ) (r : ℕ) → (too_long m || ltb (length lent) (message_length port m)) ≡ false
    → Put lent 0 (message_line port m) r later → IsMessage port m lent (Ok r) later
message_fits port m lent later r x put =
    let long = too_long m in
    let short = ltb (length lent) (message_length port m) in
    message_written port m lent later r (first long short x) (second long short x) put

-- what is not refused fits
pub has_room : (port three n room : ℕ) {told : Bool} → told ≡ (ltb field_max n || ltb room (line_length port three n)) → told ≡ false → line_length port three n ≤ room
has_room port three n room said is =
    ltb-false room (line_length port three n) (second (ltb field_max n) (ltb room (line_length port three n)) (sym said ∙ is))
