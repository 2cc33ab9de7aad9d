-- `read_full`: what a read brought stands behind what was there, and is what the input has less.
use Rattle.std.proofs.Common.{◌≡◌, ℕ, ◌+◌, ◌-◌, ◌≤◌, List, ◌++◌, rules, length, take, sym, ◌∙◌, subst, length-take-le}
use Rattle.std.proofs.KnownBytes.{Consumes-trans}
use Rattle.std.specs.Io.KnownBytes.{Consumes}
use borrow.Rule.Slice.PartMut.{put_mid, post_of}
use lib.Seq.{take-append-le, take-append-add}
use Rattle.pace_in_place.proofs.input.read_full.Goals as goal

-- the front of a slice of which a part was written
front : (a k n : ℕ) (xs ys : List ℕ) → a ≤ length xs → n ≤ length ys → take (a + n) (put_mid a k xs ys) ≡ take a xs ++ take n ys
front a k n xs ys within fits =
    let after = post_of a k xs in
    let here : length (take a xs) ≡ a = length-take-le a xs within in
    subst (λ (i : ℕ). take (i + n) (take a xs ++ (ys ++ after)) ≡ take a xs ++ take n ys) here
    (take-append-add (take a xs) (ys ++ after) n ∙ rw take-append-le)

pub loop-done-preserved : goal.loop-done-preserved
loop-done-preserved g c =
    let at = c.loop-done.done in
    let part = front at (length c.loop-done.buffer - at) c.in-Ok.n c.loop-done.buffer c.read.new.buf c.loop-done.invariant.0 c.in-Ok.ensures.bound.0 in
    (search rules, subst (Consumes _ _) (sym part) (Consumes-trans _ _ _ _ _ c.loop-done.invariant.1 c.in-Ok.ensures.bytes.0))
