-- What is copied into a part of a list, and the bytes since AA 55 that are kept by such a copy.
-- Assumes nothing.
use Prim.Native.Nat.{ℕ, zero, suc, ◌+◌, ◌-◌, ◌≤◌}
use mathlib.Core.Path.{◌≡◌, sym, ◌∙◌}
use mathlib.Core.List.{List, ◌++◌, append_assoc}
use lib.ListN.{length, take, drop, get_or, set}
use lib.Seq.{sets, sets-eq, drop-drop, drop-cons}
use borrow.Rule.Slice.PartMut.{put_mid}
use native.Mathlib.Nat.{add-zero}
use native.Mathlib.Numerals.{add-one}
use native.Mathlib.Omega.{arith}
use Rattle.stream.specs.Pieces.{scan_from}
use Rattle.stream.proofs.LoopScans.{from_goes}
use Rattle.eversolar.specs.Machine.{holding, most, next}
use Rattle.eversolar.proofs.MachineMoves.{keep_more}

-- all n bytes of src, put into l from `at` on
pub put : (l m src : List ℕ) (at n : ℕ) → length src ≡ n → at + n ≤ length l → m ≡ src → put_mid at (at + n - at) l m ≡ sets l at src
put l m src at n long room e =
    let one : at + n - at ≡ length src = omega arith in
    let parts : put_mid at (at + n - at) l m ≡ take at l ++ (src ++ drop (at + length src) l) = rw (one, e, drop-drop (length src) at l) in
    parts ∙ sym (append_assoc (take at l) src (drop (at + length src) l)) ∙ sym (sets-eq src l at (omega arith))

-- n bytes of a piece are kept, whatever they are
pub keeps_all : (stage len n count : ℕ) (held piece : List ℕ) (i : ℕ) → 2 ≤ stage → count + n ≤ most stage len → i + n ≤ length piece
    → scan_from next (holding stage count len held) piece i ≡ scan_from next (holding stage (count + n) len (sets held count (take n (drop i piece)))) piece (i + n)
keeps_all stage len zero count held piece i two room long = rw (add-zero count, add-zero i)
keeps_all stage len (suc n) count held piece i two room long =
    let b = get_or piece i 0 in
    let a : count + suc n ≡ count + 1 + n = omega arith in
    let j : i + suc n ≡ i + 1 + n = omega arith in
    let more = keeps_all stage len n (count + 1) (set held count b) piece (i + 1) two (omega arith) (omega arith) in
    let one = from_goes next (holding stage count len held) (holding stage (count + 1) len (set held count b)) piece i (omega arith) (keep_more stage count len held b two (omega arith)) in
    let front : sets held count (take (suc n) (drop i piece)) ≡ sets (set held count b) (count + 1) (take n (drop (i + 1) piece)) = rw (drop-cons piece i 0 (omega arith), add-one i, add-one count) in
    rw (a, j, front) (one ∙ more)
