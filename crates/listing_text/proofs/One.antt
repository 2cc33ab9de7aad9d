-- For each public call: two results, and two later contents of what was lent, that its promise allows are one.
-- Assumes nothing.
use Prim.Native.Nat.{ℕ}
use mathlib.Core.Path.{◌≡◌}
use mathlib.Core.Bool.{false}
use mathlib.Core.List.{List}
use Rattle.answers.specs.Written.{Written}
use Rattle.answers.proofs.WriterPromise.{writes_one}
use Rattle.listing_text.specs.Lines.{title_line, Shown, message_line, damage_line, stop_line, end_line, too_long, IsTitle, IsMessage, IsDamage, IsStop, IsEnd}

pub title_one : (lent a b : List ℕ) (v w : Written) → IsTitle lent v a → IsTitle lent w b → (v ≡ w) × (a ≡ b)
title_one = writes_one false title_line

pub message_2_2_1_one : (port : ℕ) (m : Shown) (lent a b : List ℕ) (v w : Written) → IsMessage port m lent v a → IsMessage port m lent w b → (v ≡ w) × (a ≡ b)
message_2_2_1_one port m = writes_one (too_long m) (message_line port m)

pub message_2_2_2_one : (port : ℕ) (m : Shown) (lent a b : List ℕ) (v w : Written) → IsMessage port m lent v a → IsMessage port m lent w b → (v ≡ w) × (a ≡ b)
message_2_2_2_one port m = writes_one (too_long m) (message_line port m)

pub message_0_2_1_one : (port : ℕ) (m : Shown) (lent a b : List ℕ) (v w : Written) → IsMessage port m lent v a → IsMessage port m lent w b → (v ≡ w) × (a ≡ b)
message_0_2_1_one port m = writes_one (too_long m) (message_line port m)

pub message_1_2_1_one : (port : ℕ) (m : Shown) (lent a b : List ℕ) (v w : Written) → IsMessage port m lent v a → IsMessage port m lent w b → (v ≡ w) × (a ≡ b)
message_1_2_1_one port m = writes_one (too_long m) (message_line port m)

pub damage_one : (port number lost : ℕ) (lent a b : List ℕ) (v w : Written) → IsDamage port number lost lent v a → IsDamage port number lost lent w b
    → (v ≡ w) × (a ≡ b)
damage_one port number lost = writes_one false (damage_line port number lost)

pub stop_one : (number : ℕ) (lent a b : List ℕ) (v w : Written) → IsStop number lent v a → IsStop number lent w b → (v ≡ w) × (a ≡ b)
stop_one number = writes_one false (stop_line number)

pub end_one : (messages damages : ℕ) (lent a b : List ℕ) (v w : Written) → IsEnd messages damages lent v a → IsEnd messages damages lent w b → (v ≡ w) × (a ≡ b)
end_one messages damages = writes_one false (end_line messages damages)
