-- That the lines of a packet fit into what is lent: a weight. A byte held may be printed later, as two digits, and the number of bytes that came as
-- its digits; a line is no longer than what was held for it before and 20 for each byte that came.
-- Assumes nothing.
use Prim.Native.Nat.{ℕ, min, ◌+◌, ◌-◌, ◌*◌, ◌≤◌, ◌<◌}
use mathlib.Core.Path.{◌≡◌, refl}
use mathlib.Core.Bool.{Bool, true, false, cond, ◌&&◌}
use mathlib.Core.Option.{Option, none, some}
use mathlib.Core.List.{List, [], ◌∷◌}
use lib.ListN.{length, take, drop, get_or, length-take, length-drop}
use lib.Dec.{eqb, ltb, leb}
use borrow.Author.Tests.{ltb-true, ltb-false, leb-true}
use native.Mathlib.Omega.{arith}
use Rattle.answers.specs.Answer.{need}
use Rattle.stream.specs.Event.{Event, message, damage}
use Rattle.stream.specs.Pieces.{Moved, settle, scan}
use Rattle.comlynx.specs.Wire as ComlynxWire
use Rattle.comlynx.specs.Rules as ComlynxRules
use Rattle.comlynx.specs.Machine as Comlynx
use Rattle.comlynx.specs.Reader as ComlynxReader
use Rattle.comlynx.specs.declared.reader.Reader as ComlynxState
use Rattle.comlynx.proofs.StageRanges as ComlynxRange
use Rattle.eversolar_words.specs.Words.{word}
use Rattle.eversolar.specs.Wire as EversolarWire
use Rattle.eversolar.specs.Rules as EversolarRules
use Rattle.eversolar.specs.Machine as Eversolar
use Rattle.eversolar.specs.Reader as EversolarReader
use Rattle.eversolar.specs.declared.reader.Reader as EversolarState
use Rattle.eversolar.proofs.StageRanges as EversolarRange
use Rattle.fronius.specs.Wire as FroniusWire
use Rattle.fronius.specs.Rules as FroniusRules
use Rattle.fronius.specs.Machine as Fronius
use Rattle.fronius.specs.Reader as FroniusReader
use Rattle.fronius.specs.declared.reader.Reader as FroniusState
use Rattle.fronius.proofs.StageRanges as FroniusRange
use Rattle.drives.specs.Wire as DrivesWire
use Rattle.drives.specs.Rules as DrivesRules
use Rattle.drives.specs.Machine as Drives
use Rattle.drives.specs.Reader as DrivesReader
use Rattle.drives.specs.declared.reader.Reader as DrivesState
use Rattle.drives.proofs.StageRanges as DrivesRange
use Rattle.drives.proofs.FrameLimits.{sized_bounds}
use Rattle.ports.specs.Ports.{Seat, comlynx_seat, eversolar_seat, fronius_seat, drives_seat, row_of}
use Rattle.listing_text.specs.Lines.{Shown, decimal, damage_line}
use Rattle.listing_text.proofs.FieldLengths.{decimal_8, decimal_10, decimal_16, decimal_most}
use Rattle.listing_text.proofs.LineLengths.{message_most, damage_most}
use Rattle.listing.specs.Entries.{show_comlynx, show_eversolar, show_fronius, show_drives, show_event, entry_line}

-- the line of an event, if there is one
abbrev pub line_for : {M : Type 0} → (M → Shown) → (port : ℕ) → Option (Event M) → List ℕ
line_for show port none = []
line_for show port (some e) = entry_line port (show_event show e)

-- what a byte may bring
abbrev pub per_byte : ℕ
per_byte = 20

-- what the bytes that a reader holds, and the number that it counts, may bring
abbrev pub held_most : ℕ
held_most = 537

-- ---- of any family

module _ {S M : Type 0} (next : S → ℕ → Moved S (Event M)) (show : M → Shown) (port : ℕ) (weight : S → ℕ) where
  -- a byte brings no more than is held, and its own
  abbrev pub Weighs : Type 0
  Weighs = (s : S) (b : ℕ) → length (line_for show port (next s b).event) + weight (next s b).state ≤ weight s + per_byte

  settled_weighs : (o : Option (Event M)) (s : S) (w : ℕ) (bs : List ℕ)
      → length (line_for show port o) + weight s ≤ w + per_byte
      → length (line_for show port (scan next s bs).event) + weight (scan next s bs).state ≤ weight s + per_byte * (scan next s bs).used
      → length (line_for show port (settle o s (scan next s bs)).event) + weight (settle o s (scan next s bs)).state
      ≤ w + per_byte * (settle o s (scan next s bs)).used
  settled_weighs none s w bs h ih = omega arith
  settled_weighs (some e) s w bs h ih = omega arith

  -- and so does a call
  pub scan_weighs : Weighs → (s : S) (bs : List ℕ)
      → length (line_for show port (scan next s bs).event) + weight (scan next s bs).state ≤ weight s + per_byte * (scan next s bs).used
  scan_weighs h s [] = omega arith
  scan_weighs h s (b ∷ bs) = settled_weighs (next s b).event (next s b).state (weight s) bs (h s b) (scan_weighs h (next s b).state bs)

-- ---- Fronius

abbrev pub fronius_weight : FroniusState.Reader → ℕ
fronius_weight s = 2 * s.count

module _ (port : ℕ) (small : port < 10) where
  fronius_judged : (len count sum : ℕ) (held : List ℕ) → 3 + len ≤ count
      → length (entry_line port (show_event show_fronius (FroniusRules.judged len (take (3 + len) held) sum))) ≤ 2 * count + per_byte
  unfolding FroniusRules.judged
  fronius_judged len count sum held h = go (eqb sum (FroniusWire.checksum (len ∷ take (3 + len) held)))
    where
      go : (t : Bool) → length (entry_line port (show_event show_fronius (cond t (message (FroniusWire.message_of (take (3 + len) held))) (damage 6 (8 + len))))) ≤ 2 * count + per_byte
      go true =
          let long : length (drop 3 (take (3 + len) held)) ≤ len = simp (length-drop, length-take) (omega arith) in
          omega (arith, message_most port (show_fronius (FroniusWire.message_of (take (3 + len) held))) (omega arith))
      go false = omega (arith, damage_most port 6 (8 + len) small (omega arith), decimal_most (8 + len))

  pub fronius_weighs : Weighs Fronius.next show_fronius port fronius_weight
  unfolding Fronius.next Fronius.advance_of Fronius.moved
  fronius_weighs s b = go (eqb s.stage 0) (ltb s.count 3) (eqb b FroniusWire.mark) (ltb b FroniusWire.mark) (ltb s.count (3 + s.len)) refl refl refl refl refl
    where
      go : (p q r t u : Bool) → eqb s.stage 0 ≡ p → ltb s.count 3 ≡ q → eqb b FroniusWire.mark ≡ r → ltb b FroniusWire.mark ≡ t → ltb s.count (3 + s.len) ≡ u
          → length (line_for show_fronius port (Fronius.next s b).event) + fronius_weight (Fronius.next s b).state ≤ fronius_weight s + per_byte
      go true true true t u c d e f g = rw (c, d, e) (omega arith)
      go true true false t u c d e f g = rw (c, d, e) (omega arith)
      go true false true t u c d e f g = rw (c, d, e) (omega arith)
      go true false false true u c d e f g = rw (c, d, e, f) (omega arith)
      go true false false false u c d e f g = rw (c, d, e, f) (omega (arith, damage_most port 7 4 small (omega arith), decimal_most 4))
      go false q r t true c d e f g = rw (c, g) (omega arith)
      go false q r t false c d e f g = rw (c, g) (omega (arith, fronius_judged s.len s.count b s.held (ltb-false s.count (3 + s.len) g)))

pub fronius_heavy : (s : FroniusState.Reader) → FroniusReader.in_range s ≡ true → fronius_weight s ≤ held_most
fronius_heavy s e = go (FroniusRange.range_of s.stage s.count s.len e)
  where
    go : FroniusRange.Range s.stage s.count s.len → fronius_weight s ≤ held_most
    go (FroniusRange.start p q r) = omega arith
    go (FroniusRange.body p q r) = omega arith

-- ---- Eversolar

abbrev pub eversolar_weight : EversolarState.Reader → ℕ
eversolar_weight s = 2 * s.count

most_body : (stage len : ℕ) → eqb stage 2 ≡ false → Eversolar.most stage len ≡ 8 + len
unfolding Eversolar.most
most_body stage len e = rw e

module _ (port : ℕ) (small : port < 10) where
  eversolar_judged : (six : List ℕ) (len count sum : ℕ) (held : List ℕ) → 8 + len ≤ count
      → length (entry_line port (show_event show_eversolar (EversolarRules.judged six len (take len (drop 7 held)) sum))) ≤ 2 * count + per_byte
  unfolding EversolarRules.judged
  eversolar_judged six len count sum held h = go (eqb sum (EversolarWire.checksum (EversolarWire.earlier_of six len (take len (drop 7 held)))))
    where
      go : (t : Bool) → length (entry_line port (show_event show_eversolar (cond t (message (EversolarWire.message_of six (take len (drop 7 held)))) (damage 6 (11 + len))))) ≤ 2 * count + per_byte
      go true =
          let long : length (take len (drop 7 held)) ≤ len = simp length-take (omega arith) in
          omega (arith, message_most port (show_eversolar (EversolarWire.message_of six (take len (drop 7 held)))) (omega arith))
      go false = omega (arith, damage_most port 6 (11 + len) small (omega arith), decimal_most (11 + len))

  pub eversolar_weighs : Weighs Eversolar.next show_eversolar port eversolar_weight
  unfolding Eversolar.next Eversolar.advance_of Eversolar.moved
  eversolar_weighs s b = go (ltb s.stage 2) (eqb s.stage 2) (ltb s.count (Eversolar.most s.stage s.len)) refl refl refl
    where
      go : (p q r : Bool) → ltb s.stage 2 ≡ p → eqb s.stage 2 ≡ q → ltb s.count (Eversolar.most s.stage s.len) ≡ r
          → length (line_for show_eversolar port (Eversolar.next s b).event) + eversolar_weight (Eversolar.next s b).state ≤ eversolar_weight s + per_byte
      go true q r c d e = rw c (omega arith)
      go false q true c d e = rw (c, e) (omega arith)
      go false true false c d e = rw (c, e, d) (omega arith)
      go false false false c d e =
          let full : 8 + s.len ≤ s.count = omega (arith, ltb-false s.count (Eversolar.most s.stage s.len) e, most_body s.stage s.len d) in
          rw (c, e, d) (omega (arith, eversolar_judged (take 6 s.held) s.len s.count (word (get_or s.held (7 + s.len) 0) b) s.held full))

pub eversolar_heavy : (s : EversolarState.Reader) → EversolarReader.in_range s ≡ true → eversolar_weight s ≤ held_most
eversolar_heavy s e = go (EversolarRange.range_of s.stage s.count s.len e)
  where
    go : EversolarRange.Range s.stage s.count s.len → eversolar_weight s ≤ held_most
    go (EversolarRange.look p q r) = omega arith
    go (EversolarRange.lead p q r) = omega arith
    go (EversolarRange.body p q r t) = omega arith

-- ---- ComLynx

abbrev pub comlynx_weight : ComlynxState.Reader → ℕ
comlynx_weight s = 2 * s.count + length (decimal s.came)

-- before the first byte of a stretch; after a further one
none_came : length (decimal 0) ≡ 1
none_came = decimal_10 0 (omega arith)

more_came : (came : ℕ) → length (decimal (Comlynx.more came 1)) ≤ 5
more_came came = decimal_16 (Comlynx.more came 1) (omega arith)

module _ (port : ℕ) (small : port < 10) where
  -- the digits of what is lost, and 7 bytes more
  lost : (number came : ℕ) → number < 256 → length (damage_line port number came) ≤ 7 + length (decimal came)
  lost number came h = omega (arith, damage_most port number came small h)

  comlynx_judged : (came n : ℕ) (right : Bool) (bs : List ℕ) → length bs ≤ n
      → length (entry_line port (show_event show_comlynx (ComlynxRules.judged came n right bs))) ≤ 2 * n + length (decimal came) + 7
  unfolding ComlynxRules.judged
  comlynx_judged came n right bs h = go (leb ComlynxWire.body_least n) (leb n ComlynxWire.body_max) (ComlynxRules.begins bs) (eqb (get_or bs 6 0) (n - ComlynxWire.body_least)) right refl
    where
      go : (p q r t u : Bool) → leb ComlynxWire.body_least n ≡ p
          → length
          (entry_line port
          (show_event show_comlynx
          (cond (p && q) (cond r (cond t (cond u (message (ComlynxWire.message_of bs)) (damage 6 came)) (damage 5 came)) (damage 4 came)) (damage 3 came)))) ≤ 2 * n + length (decimal came) + 7
      go true true true true true e =
          let long : length (take (length bs - ComlynxWire.body_least) (drop 8 bs)) ≤ length bs - ComlynxWire.body_least = simp length-take (omega arith) in
          omega (arith, leb-true ComlynxWire.body_least n e, message_most port (show_comlynx (ComlynxWire.message_of bs)) (omega arith))
      go true true true true false e = omega (arith, lost 6 came (omega arith))
      go true true true false u e = omega (arith, lost 5 came (omega arith))
      go true true false t u e = omega (arith, lost 4 came (omega arith))
      go true false r t u e = omega (arith, lost 3 came (omega arith))
      go false q r t u e = omega (arith, lost 3 came (omega arith))

  comlynx_closed : (came count : ℕ) (held : List ℕ) → length (entry_line port (show_event show_comlynx (Comlynx.closed came count held))) ≤ 2 * count + length (decimal came) + 7
  comlynx_closed came count held = comlynx_judged came count _ (take count held) (simp length-take (omega arith))

  -- a byte kept, or one too many
  comlynx_keeps : (s : ComlynxState.Reader) (v : ℕ)
      → length (line_for show_comlynx port (Comlynx.moved (Comlynx.keep_of s.count v) s).event) + comlynx_weight (Comlynx.moved (Comlynx.keep_of s.count v) s).state
      ≤ comlynx_weight s + per_byte
  unfolding Comlynx.keep_of Comlynx.moved
  comlynx_keeps s v = go (ltb s.count ComlynxWire.body_max) refl
    where
      go : (t : Bool) → ltb s.count ComlynxWire.body_max ≡ t
          → length (line_for show_comlynx port (Comlynx.moved (Comlynx.keep_of s.count v) s).event) + comlynx_weight (Comlynx.moved (Comlynx.keep_of s.count v) s).state
          ≤ comlynx_weight s + per_byte
      go true e = rw e (omega (arith, more_came s.came))
      go false e = rw e (omega (arith, more_came s.came, ltb-false s.count ComlynxWire.body_max e))

  pub comlynx_weighs : Weighs Comlynx.next show_comlynx port comlynx_weight
  unfolding Comlynx.next Comlynx.advance_of Comlynx.moved
  comlynx_weighs s b =
      go (eqb s.stage 0) (eqb s.stage 1) (eqb s.stage 2) (eqb b ComlynxWire.flag) (eqb b ComlynxWire.escape) (eqb s.count 0) (eqb b ComlynxWire.flag_pair) (eqb b ComlynxWire.escape_pair) refl refl refl refl refl refl refl refl
    where
      go : (p q r f x z m n : Bool) → eqb s.stage 0 ≡ p → eqb s.stage 1 ≡ q → eqb s.stage 2 ≡ r → eqb b ComlynxWire.flag ≡ f
          → eqb b ComlynxWire.escape ≡ x → eqb s.count 0 ≡ z → eqb b ComlynxWire.flag_pair ≡ m → eqb b ComlynxWire.escape_pair ≡ n
          → length (line_for show_comlynx port (Comlynx.next s b).event) + comlynx_weight (Comlynx.next s b).state ≤ comlynx_weight s + per_byte
      go true q r true x z m n a c d e g h i j = rw (a, e) (omega (arith, none_came))
      go true q r false x z m n a c d e g h i j = rw (a, e) (omega arith)
      go false true r true x true m n a c d e g h i j = rw (a, c, e, h) (omega (arith, none_came))
      go false true r true x false m n a c d e g h i j = rw (a, c, e, h) (omega (arith, none_came, comlynx_closed s.came s.count s.held))
      go false true r false true z m n a c d e g h i j = rw (a, c, e, g) (omega (arith, more_came s.came))
      go false true r false false z m n a c d e g h i j = rw (a, c, e, g) (comlynx_keeps s b)
      go false false true true x z m n a c d e g h i j = rw (a, c, d, e) (omega (arith, none_came, lost 2 s.came (omega arith)))
      go false false true false x z true n a c d e g h i j = rw (a, c, d, e, i) (comlynx_keeps s ComlynxWire.flag)
      go false false true false x z false true a c d e g h i j = rw (a, c, d, e, i, j) (comlynx_keeps s ComlynxWire.escape)
      go false false true false x z false false a c d e g h i j = rw (a, c, d, e, i, j) (omega (arith, more_came s.came))
      go false false false true x z m n a c d e g h i j = rw (a, c, d, e) (omega (arith, none_came, lost 2 s.came (omega arith)))
      go false false false false x z m n a c d e g h i j = rw (a, c, d, e) (omega (arith, more_came s.came))

comlynx_came : (stage came count : ℕ) → ComlynxRange.Range stage came count → came ≤ ComlynxRules.lost_max
comlynx_came stage came count (ComlynxRange.outside p q r) = omega arith
comlynx_came stage came count (ComlynxRange.within p q r s) = r

pub comlynx_heavy : (s : ComlynxState.Reader) → ComlynxReader.in_range s ≡ true → comlynx_weight s ≤ held_most
comlynx_heavy s e =
    let range = ComlynxRange.range_of s.stage s.came s.count e in
    let few = comlynx_came s.stage s.came s.count range in
    omega (arith, ComlynxRange.range_count s.stage s.came s.count range, decimal_16 s.came (omega (arith, few)))

-- ---- drives

-- the characters that are held, and the digits of how long the frame is with opening byte and EOT
abbrev pub drives_weight : DrivesState.Reader → ℕ
drives_weight s = 2 * min s.count Drives.held_max + length (decimal (s.count + 2))

-- before the first character of a frame; after a further one that is held; after one that is not
none_held : length (decimal 2) ≡ 1
none_held = decimal_10 2 (omega arith)

more_held : (count : ℕ) → count < Drives.held_max → length (decimal (count + 1 + 2)) ≤ 3
more_held count h = decimal_8 (count + 1 + 2) (omega arith)

more_counted : (count : ℕ) → length (decimal (min (count + 1) Drives.count_max + 2)) ≤ 5
more_counted count = decimal_16 (min (count + 1) Drives.count_max + 2) (omega arith)

module _ (port : ℕ) (small : port < 10) where
  drives_judged : (opening count : ℕ) (cs : List ℕ) → length cs ≤ count
      → length (entry_line port (show_event show_drives (DrivesRules.judged opening (count + 2) cs))) ≤ 2 * min count Drives.held_max + length (decimal (count + 2)) + 12
  unfolding DrivesRules.judged
  drives_judged opening count cs h = go (DrivesRules.sized opening (count + 2)) (DrivesWire.proper cs) (DrivesRules.agrees cs) refl
    where
      go : (p q r : Bool) → DrivesRules.sized opening (count + 2) ≡ p
          → length
          (entry_line port
          (show_event show_drives
          (need p (damage 3 (count + 2)) (need q (damage 21 (count + 2)) (need r (damage 6 (count + 2)) (message (DrivesWire.message_of opening cs)))))))
          ≤ 2 * min count Drives.held_max + length (decimal (count + 2)) + 12
      go true true true e =
          let long : length (take (length cs - 5) (drop 3 cs)) ≤ length cs - 5 = simp length-take (omega arith) in
          omega (arith, sized_bounds opening count e, message_most port (show_drives (DrivesWire.message_of opening cs)) (omega arith))
      go true true false e = omega (arith, damage_most port 6 (count + 2) small (omega arith))
      go true false r e = omega (arith, damage_most port 21 (count + 2) small (omega arith))
      go false q r e = omega (arith, damage_most port 3 (count + 2) small (omega arith))

  drives_closed : (opening count : ℕ) (held : List ℕ)
      → length (entry_line port (show_event show_drives (Drives.closed opening count held))) ≤ 2 * min count Drives.held_max + length (decimal (count + 2)) + 12
  drives_closed opening count held = drives_judged opening count (take count held) (simp length-take (omega arith))

  pub drives_weighs : Weighs Drives.next show_drives port drives_weight
  unfolding Drives.next Drives.advance_of Drives.moved
  drives_weighs s b = go (eqb s.stage 0) (DrivesWire.opens b) (eqb b DrivesWire.eot) (ltb s.count Drives.held_max) refl refl refl refl
    where
      go : (p q r t : Bool) → eqb s.stage 0 ≡ p → DrivesWire.opens b ≡ q → eqb b DrivesWire.eot ≡ r → ltb s.count Drives.held_max ≡ t
          → length (line_for show_drives port (Drives.next s b).event) + drives_weight (Drives.next s b).state ≤ drives_weight s + per_byte
      go true true r t a c d e = rw (a, c) (omega (arith, none_held))
      go true false r t a c d e = rw (a, c) (omega arith)
      go false q true t a c d e = rw (a, d) (omega (arith, none_held, drives_closed s.stage s.count s.held))
      go false q false true a c d e = rw (a, d, e) (omega (arith, more_held s.count (ltb-true s.count Drives.held_max e)))
      go false q false false a c d e = rw (a, d, e) (omega (arith, more_counted s.count, ltb-false s.count Drives.held_max e))

pub drives_heavy : (s : DrivesState.Reader) → DrivesReader.in_range s ≡ true → drives_weight s ≤ held_most
drives_heavy s e = go (DrivesRange.range_of s.stage s.count e)
  where
    go : DrivesRange.Range s.stage s.count → drives_weight s ≤ held_most
    go (DrivesRange.looks p q) = omega (arith, decimal_16 (s.count + 2) (omega arith))
    go (DrivesRange.reads p q) = omega (arith, decimal_16 (s.count + 2) (omega arith))

-- ---- each row of the table of ports

abbrev pub weight_of : (at : Seat) → (row_of at).family.State → ℕ
weight_of comlynx_seat = comlynx_weight
weight_of eversolar_seat = eversolar_weight
weight_of fronius_seat = fronius_weight
weight_of drives_seat = drives_weight

pub weighs_of : (at : Seat) (port : ℕ) → port < 10 → Weighs (row_of at).next (row_of at).show port (weight_of at)
weighs_of comlynx_seat = comlynx_weighs
weighs_of eversolar_seat = eversolar_weighs
weighs_of fronius_seat = fronius_weighs
weighs_of drives_seat = drives_weighs

pub heavy_of : (at : Seat) (s : (row_of at).family.State) → (row_of at).in_range s ≡ true → weight_of at s ≤ held_most
heavy_of comlynx_seat = comlynx_heavy
heavy_of eversolar_seat = eversolar_heavy
heavy_of fronius_seat = fronius_heavy
heavy_of drives_seat = drives_heavy
