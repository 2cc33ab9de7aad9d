-- What the writer's calls make of the lent buffer: a frame, and then what was there.
-- Assumes nothing.
use Rattle.std.specs.Prelude.{Ok, Err}
use Prim.Native.Nat.{ℕ, ◌+◌, ◌≤◌, ◌<◌}
use mathlib.Core.Path.{◌≡◌, sym, ap, ◌∙◌}
use mathlib.Core.List.{List, [], ◌∷◌, ◌++◌}
use lib.ListN.{length, drop}
use lib.Seq.{sets}
use borrow.Author.Tests.{lt-ltb, le-ltb}
use native.Mathlib.Omega.{arith}
use Rattle.answers.specs.declared.Refusal.TheVariants.{TooLong, NoRoom}
use Rattle.answers.proofs.WriterPromise.{writes_too_long, writes_no_room, writes_done}
use Rattle.comlynx_checksum.specs.Checksum.{checksum_of, sent_after, sent, IsOfBoth, IsSentOf}
use Rattle.comlynx_checksum.specs.declared.Sent.{Sent}
use Rattle.stream.proofs.ListLaws.{sets_front}
use Rattle.comlynx.specs.Wire.{Message, payload_max, lead, covered, body, stuffed, wire}
use Rattle.comlynx.specs.Writer.{IsWritten}
use Rattle.comlynx.specs.Inside.{framed}
use Rattle.comlynx.proofs.StoresMakeFrame.{framed_length}

module _ (s d k : ℕ) (bs lent : List ℕ) where
  abbrev M : Message
  M = record { source = s; destination = d; kind = k; payload = bs }

  abbrev H : List ℕ
  H = lead s d (length bs) k

  -- the two bytes that were asked for
  pub asked : (h : List ℕ) (sum : ℕ) (r : Sent) → h ≡ H → IsOfBoth h bs sum → IsSentOf sum r → r.low ∷ r.high ∷ [] ≡ sent (covered M)
  unfolding sent
  asked h sum r q e i = i ∙ ap sent_after (e ∙ ap (λ (x : List ℕ). checksum_of (x ++ bs)) q)

  module _ (h l : List ℕ) (is : h ≡ H) (due : l ≡ sent (covered M)) where
    framed_wire : framed h bs l ≡ wire M
    unfolding body
    framed_wire = rw (is, due)

    pub exact : length (stuffed h) + length (stuffed bs) + length (stuffed l) + 2 ≡ length (wire M)
    exact = sym (framed_length h bs l) ∙ ap length framed_wire

    -- the ends of the writer
    pub no_room : length bs ≤ payload_max → length lent < length (stuffed h) + length (stuffed bs) + length (stuffed l) + 2 → IsWritten s d k bs lent (Err NoRoom) lent
    no_room fits r = rw (le-ltb payload_max (length bs) fits) (writes_no_room (wire M) lent (omega (arith, exact)))

    pub done : (n : ℕ) (later : List ℕ) → length bs ≤ payload_max → n ≡ length (stuffed h) + length (stuffed bs) + length (stuffed l) + 2 → n ≤ length lent
        → later ≡ sets lent 0 (framed h bs l) → IsWritten s d k bs lent (Ok n) later
    done n later fits e r q =
        let count : n ≡ length (wire M) = e ∙ exact in
        let frame : later ≡ wire M ++ drop (length (wire M)) lent = q ∙ ap (sets lent 0) framed_wire ∙ sets_front (wire M) lent (omega arith) in
        rw (le-ltb payload_max (length bs) fits, count, frame) (writes_done (wire M) lent (omega arith))

  pub too_long : payload_max < length bs → IsWritten s d k bs lent (Err TooLong) lent
  too_long h = rw (lt-ltb payload_max (length bs) h) (writes_too_long (wire M) lent)
