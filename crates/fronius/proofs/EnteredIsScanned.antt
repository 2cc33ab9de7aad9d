-- What is taken in at once at the front of a piece, a whole start, a length and the body behind them, is what the machine takes in byte by byte.
-- Assumes nothing.
use Prim.Native.Nat.{ℕ, zero, suc, ◌+◌, ◌-◌, ◌≤◌, ◌<◌}
use mathlib.Core.Path.{◌≡◌, refl, sym, ap, ◌∙◌}
use mathlib.Core.Bool.{true}
use mathlib.Core.List.{List, [], ◌∷◌, ◌++◌}
use lib.ListN.{length, get_or, set, drop, length-drop}
use lib.Seq.{sets, get_or-drop, drop-drop}
use native.Mathlib.Nat.{zero-add, add-zero}
use native.Mathlib.Omega.{arith}
use Rattle.stream.specs.Pieces.{scan, scan_from}
use Rattle.stream.proofs.LoopScans.{from_start, from_goes}
use Rattle.fronius.specs.Wire.{mark}
use Rattle.fronius.specs.Machine.{holding, counting, filling, in_range, next}
use Rattle.fronius.specs.Inside.{Filled, Opens, Enters}
use Rattle.fronius.proofs.MachineMoves.{count_more, size_mark, size_opens, fill_more}
use Rattle.fronius.proofs.StageRanges.{Range, start, body, range_of, in_range_lem}

-- ---- nothing

pub stays : (stage count len : ℕ) (held piece : List ℕ) → in_range stage count len ≡ true
    → Enters (record { stage = stage; count = count; len = len }) held piece (record { state = record { stage = stage; count = count; len = len }; at = 0 }) held
stays stage count len held piece r = record { within = omega arith; ranged = r; goes = from_start next (holding stage count len held) piece }

-- ---- the start and the length, however many 80 came before

module _ (h piece : List ℕ) where
  marked : (c i : ℕ) → c < 3 → i < length piece → get_or piece i 0 ≡ mark → scan_from next (counting c h) piece i ≡ scan_from next (counting (c + 1) h) piece (i + 1)
  marked c i lt il e = from_goes next (counting c h) (counting (c + 1) h) piece i il (ap (next (counting c h)) e ∙ count_more c h lt)

  further : (i : ℕ) → i < length piece → get_or piece i 0 ≡ mark → scan_from next (counting 3 h) piece i ≡ scan_from next (counting 3 h) piece (i + 1)
  further i il e = from_goes next (counting 3 h) (counting 3 h) piece i il (ap (next (counting 3 h)) e ∙ size_mark h)

  started : (stage c : ℕ) → c ≤ 3 → Opens stage piece → scan_from next (counting c h) piece 0 ≡ scan_from next (counting 3 h) piece 3
  started stage zero le o = marked 0 0 (omega arith) (omega (arith, o.1)) o.2 ∙ marked 1 1 (omega arith) (omega (arith, o.1)) o.3 ∙ marked 2 2 (omega arith) (omega (arith, o.1)) o.4
  started stage (suc zero) le o = marked 1 0 (omega arith) (omega (arith, o.1)) o.2 ∙ marked 2 1 (omega arith) (omega (arith, o.1)) o.3 ∙ further 2 (omega (arith, o.1)) o.4
  started stage (suc (suc zero)) le o = marked 2 0 (omega arith) (omega (arith, o.1)) o.2 ∙ further 1 (omega (arith, o.1)) o.3 ∙ further 2 (omega (arith, o.1)) o.4
  started stage (suc (suc (suc zero))) le o = further 0 (omega (arith, o.1)) o.2 ∙ further 1 (omega (arith, o.1)) o.3 ∙ further 2 (omega (arith, o.1)) o.4
  started stage (suc (suc (suc (suc c)))) le o = absurd (omega arith)

  opened : (stage count len : ℕ) → Range stage count len → Opens stage piece
      → scan next (holding stage count len h) piece ≡ scan_from next (filling 0 (get_or piece 3 0) h) piece 4
  opened stage count len (start s c l) o =
      sym (from_start next (holding stage count len h) piece)
      ∙ ap (λ (n : ℕ). scan_from next (holding n count len h) piece 0) s
      ∙ ap (λ (n : ℕ). scan_from next (holding 0 count n h) piece 0) l
      ∙ started stage count c o
      ∙ from_goes next (counting 3 h) (filling 0 (get_or piece 3 0) h) piece 3 (omega (arith, o.1)) (size_opens h (get_or piece 3 0) o.5)
  opened stage count len (body s n c) o = absurd (omega (arith, o.0, s))

-- ---- and the body

pub enters : (stage count len : ℕ) (held piece later : List ℕ) (at : ℕ) → in_range stage count len ≡ true → Opens stage piece → Filled 0 (get_or piece 3 0) held piece 4 at later
    → Enters (record { stage = stage; count = count; len = len }) held piece (record { state = record { stage = 1; count = at - 4; len = get_or piece 3 0 }; at = at }) later
enters stage count len held piece later at r o f = record {
  within = f.within;
  ranged = in_range_lem 1 (at - 4) (get_or piece 3 0) (body refl (omega (arith, o.5)) (omega (arith, f.room)));
  goes = sym (opened held piece stage count len (range_of stage count len r) o ∙ f.goes ∙ ap (λ (n : ℕ). scan_from next (filling n (get_or piece 3 0) later) piece at) (zero-add (at - 4)));
}

-- bytes that are stored in a body one behind the other: each is one that the machine keeps
pub stored : (src rest : List ℕ) (count len : ℕ) (held piece : List ℕ) (i : ℕ) → count + length src ≤ 3 + len → drop i piece ≡ src ++ rest
    → scan_from next (filling count len held) piece i ≡ scan_from next (filling (count + length src) len (sets held count src)) piece (i + length src)
stored [] rest count len held piece i room e = simp add-zero
stored (b ∷ src) rest count len held piece i room e =
    let here : get_or piece i 0 ≡ b = sym (get_or-drop i piece 0 0 ∙ ap (λ (k : ℕ). get_or piece k 0) (add-zero i)) ∙ ap (λ (l : List ℕ). get_or l 0 0) e in
    let there : i < length piece = omega (arith, sym (length-drop i piece) ∙ ap length e) in
    let further : drop (i + 1) piece ≡ src ++ rest = sym (drop-drop 1 i piece) ∙ ap (drop 1) e in
    let counted : count + suc (length src) ≡ count + 1 + length src = omega arith in
    let read : i + suc (length src) ≡ i + 1 + length src = omega arith in
    let next_one : suc count ≡ count + 1 = omega arith in
    from_goes next (filling count len held) (filling (count + 1) len (set held count b)) piece i there
    (ap (next (filling count len held)) here ∙ fill_more count len held b (omega arith))
    ∙ rw (counted, read, next_one) (stored src rest (count + 1) len (set held count b) piece (i + 1) (omega arith) further)

-- a body's first three bytes, the header
pub header_filled : (len : ℕ) (held piece : List ℕ) → 7 ≤ length piece
    → Filled 0 len held piece 4 7 (set (set (set held 0 (get_or piece 4 0)) 1 (get_or piece 5 0)) 2 (get_or piece 6 0))
header_filled len held piece le =
    let a = set held 0 (get_or piece 4 0) in
    let b = set a 1 (get_or piece 5 0) in
    let c = set b 2 (get_or piece 6 0) in
    record {
      forward = omega arith;
      within = le;
      room = omega arith;
      goes =
          from_goes next (filling 0 len held) (filling 1 len a) piece 4 (omega arith) (fill_more 0 len held (get_or piece 4 0) (omega arith))
          ∙ from_goes next (filling 1 len a) (filling 2 len b) piece 5 (omega arith) (fill_more 1 len a (get_or piece 5 0) (omega arith))
          ∙ from_goes next (filling 2 len b) (filling 3 len c) piece 6 (omega arith) (fill_more 2 len b (get_or piece 6 0) (omega arith));
    }
