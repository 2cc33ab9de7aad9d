-- The places that bytes hold, one by one, and the bytes of a place that is set.
-- Assumes nothing.
use Prim.Native.Nat.{ℕ, zero, suc, ◌+◌, ◌*◌, ◌-◌, ◌≤◌, ◌<◌}
use mathlib.Core.Path.{◌≡◌, refl, sym, ap, ◌∙◌}
use mathlib.Core.List.{List, [], ◌∷◌, ◌++◌, append_assoc}
use native.Mathlib.Nat.{add-zero, not-suc-le-zero, le_refl}
use native.Mathlib.Numerals.{add-one}
use native.Mathlib.Omega.{arith}
use lib.ListN.{length, get_or, set, take, drop, length-append, length-drop, take-append-drop}
use lib.Seq.{drop-cons, drop-drop, drop-nil, take-nil, take-add, take_at, drop_at, set_split, take-suc-set, drop-set-lt, append_snoc, get_or-drop, length-take-le}
use borrow.Rule.Slice.PartMut.{put_mid}
use Rattle.roster.specs.Roster.{places, serial_size}
use Rattle.roster.specs.Bytes.{place_size, roster_size, places_up_to, places_of, bytes_of, Whole}
use Rattle.roster.specs.Inside.{place_in}
use Rattle.roster.specs.declared.Place.{Place}

up_to_none : (n : ℕ) → places_up_to n [] ≡ []
up_to_none zero = refl
up_to_none (suc n) = refl

-- more room than bytes changes nothing
up_to_more : (n m : ℕ) (b : List ℕ) → length b ≤ n → length b ≤ m → places_up_to n b ≡ places_up_to m b
up_to_more zero m [] h l = sym (up_to_none m)
up_to_more zero m (x ∷ b) h l = absurd (not-suc-le-zero h)
up_to_more (suc n) m [] h l = sym (up_to_none m)
up_to_more (suc n) zero (x ∷ b) h l = absurd (not-suc-le-zero l)
up_to_more (suc n) (suc m) (x ∷ b) h l =
    ap (λ (ps : List Place). record { mark = x; serial = take serial_size b } ∷ ps)
    (up_to_more n m (drop serial_size b) (simp length-drop (omega arith)) (simp length-drop (omega arith)))

pub places_none : places_of [] ≡ []
unfolding places_of
places_none = refl

pub places_more : (x : ℕ) (b : List ℕ) → places_of (x ∷ b) ≡ record { mark = x; serial = take serial_size b } ∷ places_of (drop serial_size b)
unfolding places_of
places_more x b =
    ap (λ (ps : List Place). record { mark = x; serial = take serial_size b } ∷ ps)
    (up_to_more (length b) (length (drop serial_size b)) (drop serial_size b) (simp length-drop (omega arith)) (le_refl _))

-- ---- bytes to places and back

up_to_bytes : (n : ℕ) (b : List ℕ) → length b ≤ n → bytes_of (places_up_to n b) ≡ b
up_to_bytes zero [] h = refl
up_to_bytes zero (x ∷ b) h = absurd (not-suc-le-zero h)
up_to_bytes (suc n) [] h = refl
up_to_bytes (suc n) (x ∷ b) h =
    ap (λ (r : List ℕ). x ∷ (take serial_size b ++ r)) (up_to_bytes n (drop serial_size b) (simp length-drop (omega arith)))
    ∙ ap (λ (r : List ℕ). x ∷ r) (take-append-drop serial_size b)

pub bytes_places : (b : List ℕ) → bytes_of (places_of b) ≡ b
unfolding places_of
bytes_places b = up_to_bytes (length b) b (le_refl _)

pub places_bytes : (ps : List Place) → Whole ps → places_of (bytes_of ps) ≡ ps
places_bytes [] w = places_none
places_bytes (p ∷ ps) w =
    places_more p.mark (p.serial ++ bytes_of ps)
    ∙ ap (λ (s : List ℕ). record { mark = p.mark; serial = s } ∷ places_of (drop serial_size (p.serial ++ bytes_of ps))) (take_at p.serial (bytes_of ps) serial_size w.0)
    ∙ ap (λ (r : List ℕ). p ∷ places_of r) (drop_at p.serial (bytes_of ps) serial_size w.0)
    ∙ ap (λ (r : List Place). p ∷ r) (places_bytes ps w.1)

-- ---- the places from k on, and those before

step_on : (k : ℕ) → suc k * place_size ≡ suc (serial_size + k * place_size)
step_on k = omega arith

pub drop_places : (k : ℕ) (b : List ℕ) → drop k (places_of b) ≡ places_of (drop (k * place_size) b)
drop_places zero b = refl
drop_places (suc k) [] = ap (drop (suc k)) places_none ∙ sym (ap places_of (drop-nil (suc k * place_size)) ∙ places_none)
drop_places (suc k) (x ∷ b) =
    ap (drop (suc k)) (places_more x b)
    ∙ drop_places k (drop serial_size b)
    ∙ ap places_of (drop-drop (k * place_size) serial_size b)
    ∙ sym (ap (λ (n : ℕ). places_of (drop n (x ∷ b))) (step_on k))

pub take_places : (k : ℕ) (b : List ℕ) → bytes_of (take k (places_of b)) ≡ take (k * place_size) b
take_places zero b = refl
take_places (suc k) [] = ap (λ (ps : List Place). bytes_of (take (suc k) ps)) places_none ∙ sym (take-nil (suc k * place_size))
take_places (suc k) (x ∷ b) =
    ap (λ (ps : List Place). bytes_of (take (suc k) ps)) (places_more x b)
    ∙ ap (λ (r : List ℕ). x ∷ (take serial_size b ++ r)) (take_places k (drop serial_size b))
    ∙ ap (λ (r : List ℕ). x ∷ r) (sym (take-add serial_size (k * place_size) b))
    ∙ sym (ap (λ (n : ℕ). take n (x ∷ b)) (step_on k))

pub next_place : (b : List ℕ) (k : ℕ) → k * place_size < length b → drop k (places_of b) ≡ place_in b k ∷ drop (suc k) (places_of b)
next_place b k h =
    let at : ℕ = k * place_size in
    let next : suc at + serial_size ≡ suc k * place_size = omega arith in
    drop_places k b
    ∙ ap places_of (drop-cons b at 0 h)
    ∙ places_more (get_or b at 0) (drop (suc at) b)
    ∙ ap (λ (n : ℕ). record { mark = get_or b at 0; serial = take serial_size (drop n b) } ∷ places_of (drop serial_size (drop (suc at) b))) (sym (add-one at))
    ∙ ap (λ (ps : List Place). place_in b k ∷ ps)
    (ap places_of (drop-drop serial_size (suc at) b ∙ ap (λ (n : ℕ). drop n b) next) ∙ sym (drop_places (suc k) b))

pub place_at : (b : List ℕ) (k : ℕ) (other : Place) → k * place_size < length b → get_or (places_of b) k other ≡ place_in b k
place_at b k other h =
    sym (get_or-drop k (places_of b) 0 other ∙ ap (λ (n : ℕ). get_or (places_of b) n other) (add-zero k)) ∙ ap (λ (ps : List Place). get_or ps 0 other) (next_place b k h)

-- ---- how many there are

pub count_places : (n : ℕ) (b : List ℕ) → length b ≡ n * place_size → length (places_of b) ≡ n
count_places zero [] e = ap length places_none
count_places zero (x ∷ b) e = absurd (omega arith)
count_places (suc n) [] e = absurd (omega arith)
count_places (suc n) (x ∷ b) e =
    ap length (places_more x b) ∙ ap suc (count_places n (drop serial_size b) (simp length-drop (omega arith)))

pub whole_bytes : (ps : List Place) → Whole ps → length (bytes_of ps) ≡ length ps * place_size
whole_bytes [] w = refl
whole_bytes (p ∷ ps) w =
    ap suc (length-append p.serial (bytes_of ps)) ∙ (let one = w.0 in let rest = whole_bytes ps w.1 in omega arith)

-- ---- one place is set

bytes_append : (ps qs : List Place) → bytes_of (ps ++ qs) ≡ bytes_of ps ++ bytes_of qs
bytes_append [] qs = refl
bytes_append (p ∷ ps) qs =
    ap (λ (r : List ℕ). p.mark ∷ (p.serial ++ r)) (bytes_append ps qs)
    ∙ ap (λ (r : List ℕ). p.mark ∷ r) (sym (append_assoc p.serial (bytes_of ps) (bytes_of qs)))

pub set_place : (b : List ℕ) (k : ℕ) (p : Place) → length b ≡ roster_size → k < places
    → bytes_of (set (places_of b) k p) ≡ take (k * place_size) b ++ (p.mark ∷ (p.serial ++ drop (k * place_size + place_size) b))
set_place b k p e l =
    let count : length (places_of b) ≡ places = count_places places b e in
    let next : suc k * place_size ≡ k * place_size + place_size = omega arith in
    ap bytes_of (set_split (places_of b) k p (omega arith))
    ∙ bytes_append (take k (places_of b)) (p ∷ drop (suc k) (places_of b))
    ∙ ap (λ (r : List ℕ). r ++ (p.mark ∷ (p.serial ++ bytes_of (drop (suc k) (places_of b))))) (take_places k b)
    ∙ ap (λ (r : List ℕ). take (k * place_size) b ++ (p.mark ∷ (p.serial ++ r)))
    (ap bytes_of (drop_places (suc k) b) ∙ bytes_places (drop (suc k * place_size) b) ∙ ap (λ (n : ℕ). drop n b) next)

pub set_length : (b : List ℕ) (k : ℕ) (p : Place) → length b ≡ roster_size → k < places → length p.serial ≡ serial_size
    → length (bytes_of (set (places_of b) k p)) ≡ length b
set_length b k p e l s =
    let a : ℕ = k * place_size in
    let front : length (take a b) ≡ a = length-take-le a b (omega arith) in
    let back : length (drop (a + place_size) b) ≡ length b - (a + place_size) = length-drop (a + place_size) b in
    ap length (set_place b k p e l)
    ∙ length-append (take a b) (p.mark ∷ (p.serial ++ drop (a + place_size) b))
    ∙ ap (λ (n : ℕ). length (take a b) + suc n) (length-append p.serial (drop (a + place_size) b))
    ∙ omega arith

-- the mark stored and the serial copied behind it make place k that one
pub place_put : (b m : List ℕ) (k n : ℕ) (p : Place) → length b ≡ roster_size → k < places → length p.serial ≡ serial_size → n ≡ serial_size → m ≡ p.serial
    → put_mid (k * place_size + 1) n (set b (k * place_size) p.mark) m ≡ bytes_of (set (places_of b) k p)
place_put b m k n p e kl sl nl q =
    let a : ℕ = k * place_size in
    let l : List ℕ = set b a p.mark in
    let front : take (a + 1) l ≡ take a b ++ (p.mark ∷ []) = rw (add-one a) (take-suc-set b a p.mark (omega arith)) in
    let ends : a + 1 + n ≡ a + place_size = omega arith in
    let back : drop n (drop (a + 1) l) ≡ drop (a + place_size) b =
    drop-drop n (a + 1) l ∙ ap (λ (w : ℕ). drop w l) ends ∙ drop-set-lt (a + place_size) b a p.mark (omega arith) in
    ap (λ (r : List ℕ). take (a + 1) l ++ (r ++ drop n (drop (a + 1) l))) q
    ∙ ap (λ (r : List ℕ). take (a + 1) l ++ (p.serial ++ r)) back
    ∙ ap (λ (r : List ℕ). r ++ (p.serial ++ drop (a + place_size) b)) front
    ∙ append_snoc (take a b) p.mark (p.serial ++ drop (a + place_size) b)
    ∙ sym (set_place b k p e kl)
