-- The demands: each test is computed from what is said of the character.
-- Assumes nothing.
use Prim.Native.Nat.{ℕ}
use mathlib.Core.Path.{◌≡◌, refl}
use mathlib.Core.Logic.{inl, inr}
use mathlib.Core.Bool.{Bool, true, false, ◌&&◌, and-false}
use lib.Dec.{eqb, leb}
use borrow.Author.Tests.{eqb-true, leb-true, le-leb, lt-leb}
use native.Mathlib.Omega.{arith}
use Rattle.numbers.proofs.TestLaws.{both, either}
use Rattle.drives.specs.Wire.{enq, ack, nak, opens, is_hex}
use Rattle.drives_meaning.specs.Replies.{every_drive, expected}
use Rattle.drives_meaning.specs.Demands.{OpensReply, Opens, Hex, Station255, OtherRequest, NoReplyToReply, WrongCharacterOnly, Stations, SetEnds}

-- ---- the tests, from what is said of a character

not_so : (t : Bool) → (t ≡ true → ⊥) → t ≡ false
not_so true n = absurd (n refl)
not_so false n = refl

opens_is : (o : ℕ) → Opens o → opens o ≡ true
unfolding opens
opens_is o (inl e) = rw e
opens_is o (inr (inl e)) = rw e
opens_is o (inr (inr e)) = rw e

opens_not : (o : ℕ) → (Opens o → ⊥) → opens o ≡ false
unfolding opens
opens_not o n =
    not_so (opens o)
    (λ t. n (either (eqb o enq) _ t (λ e. inl (eqb-true o enq e))
    (λ u. either (eqb o ack) (eqb o nak) u (λ e. inr (inl (eqb-true o ack e))) (λ e. inr (inr (eqb-true o nak e))))))

hex_is : (c : ℕ) → Hex c → is_hex c ≡ true
unfolding is_hex
hex_is c (inl p) = rw (le-leb 0x30 c p.0, le-leb c 0x39 p.1)
hex_is c (inr p) = rw (le-leb 0x30 c (omega arith), lt-leb c 0x39 (omega arith), le-leb 0x41 c p.0, le-leb c 0x46 p.1)

hex_not : (c : ℕ) → (Hex c → ⊥) → is_hex c ≡ false
unfolding is_hex
hex_not c n =
    not_so (is_hex c)
    (λ t. n (either (leb 0x30 c && leb c 0x39) (leb 0x41 c && leb c 0x46) t
    (λ e. let q = both (leb 0x30 c) (leb c 0x39) e in inl (leb-true 0x30 c q.0, leb-true c 0x39 q.1))
    (λ e. let q = both (leb 0x41 c) (leb c 0x46) e in inr (leb-true 0x41 c q.0, leb-true c 0x46 q.1))))

no_request : (o : ℕ) → OpensReply o → eqb o enq ≡ false
no_request o (inl e) = rw e
no_request o (inr e) = rw e

one_drive : (a b : ℕ) → ((a ≡ 0x46) × (b ≡ 0x46) → ⊥) → every_drive a b ≡ false
one_drive a b n = not_so (every_drive a b) (λ t. let q = both (eqb a 0x46) (eqb b 0x46) t in n (eqb-true a 0x46 q.0, eqb-true b 0x46 q.1))

-- ---- the demands

pub station255 : Station255
unfolding expected opens is_hex
station255 = refl

pub other_request : OtherRequest
unfolding expected
other_request a b p q n = rw (opens_is enq (inl refl), hex_is a p, hex_is b q, one_drive a b n)

pub no_reply_to_reply : NoReplyToReply
unfolding expected
no_reply_to_reply o a b r p q = rw (opens_is o (inr r), hex_is a p, hex_is b q, no_request o r)

pub wrong_character_only : WrongCharacterOnly
unfolding expected
wrong_character_only = record {
  opening = λ o a b n. rw (opens_not o n);
  first = λ o a b n. rw (hex_not a n, and-false (opens o));
  second = λ o a b n. rw (hex_not b n, and-false (is_hex a), and-false (opens o));
  others = λ o a b r p q. rw (opens_is o r, hex_is a p, hex_is b q);
}

pub stations : Stations
unfolding expected opens is_hex
stations = record {
  request = refl;
  reply = refl;
  error_reply = refl;
  before255 = refl;
  reply_of255 = refl;
  lower_case = refl;
  no_opening = refl;
}

pub set_ends : SetEnds
unfolding expected opens is_hex
set_ends = record { opening = refl; first = refl; second = refl }
