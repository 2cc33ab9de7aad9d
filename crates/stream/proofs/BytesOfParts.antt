-- Lists of bytes, their parts and their joins.
-- Assumes nothing.
use Prim.Native.Nat.{ℕ, zero, suc, ◌<◌}
use mathlib.Core.List.{List, [], ◌∷◌, ◌++◌}
use lib.ListN.{take, drop, get_or}
use lib.Dec.{T, ltb, ltb→lt, lt→ltb}
use lib.Pow.{are_bytes}
use mir.Facts.{and_yes, yes_and}
use native.Mathlib.Omega.{arith}

pub bytes_cons : (b : ℕ) (bs : List ℕ) → b < 256 → T (are_bytes bs) → T (are_bytes (b ∷ bs))
bytes_cons b bs h t = yes_and (ltb b 256) (are_bytes bs) (lt→ltb b 256 h) t

pub bytes_head : (b : ℕ) (bs : List ℕ) → T (are_bytes (b ∷ bs)) → b < 256
bytes_head b bs t = ltb→lt b 256 (and_yes (ltb b 256) (are_bytes bs) t).0

pub bytes_tail : (b : ℕ) (bs : List ℕ) → T (are_bytes (b ∷ bs)) → T (are_bytes bs)
bytes_tail b bs t = (and_yes (ltb b 256) (are_bytes bs) t).1

pub bytes_at : (bs : List ℕ) (i : ℕ) → T (are_bytes bs) → get_or bs i 0 < 256
bytes_at [] i t = omega arith
bytes_at (b ∷ bs) zero t = bytes_head b bs t
bytes_at (b ∷ bs) (suc i) t = bytes_at bs i (bytes_tail b bs t)

pub bytes_append : (a b : List ℕ) → T (are_bytes a) → T (are_bytes b) → T (are_bytes (a ++ b))
bytes_append [] b s t = t
bytes_append (x ∷ a) b s t = bytes_cons x (a ++ b) (bytes_head x a s) (bytes_append a b (bytes_tail x a s) t)

pub bytes_left : (a b : List ℕ) → T (are_bytes (a ++ b)) → T (are_bytes a)
bytes_left [] b t = tt
bytes_left (x ∷ a) b t = bytes_cons x a (bytes_head x (a ++ b) t) (bytes_left a b (bytes_tail x (a ++ b) t))

pub bytes_right : (a b : List ℕ) → T (are_bytes (a ++ b)) → T (are_bytes b)
bytes_right [] b t = t
bytes_right (x ∷ a) b t = bytes_right a b (bytes_tail x (a ++ b) t)

pub bytes_take : (n : ℕ) (a : List ℕ) → T (are_bytes a) → T (are_bytes (take n a))
bytes_take zero a t = tt
bytes_take (suc n) [] t = tt
bytes_take (suc n) (x ∷ a) t = bytes_cons x (take n a) (bytes_head x a t) (bytes_take n a (bytes_tail x a t))

pub bytes_drop : (n : ℕ) (a : List ℕ) → T (are_bytes a) → T (are_bytes (drop n a))
bytes_drop zero a t = t
bytes_drop (suc n) [] t = tt
bytes_drop (suc n) (x ∷ a) t = bytes_drop n a (bytes_tail x a t)
