-- Each public call has one result. The promises are those of `comlynx_checksum`, so its laws say it, and more: the call of the same name there has that
-- very result.
-- Assumes nothing.
use mathlib.Core.Path.{◌≡◌}
use mathlib.Core.List.{List}
use Prim.Native.Nat.{ℕ}
use Rattle.comlynx_checksum.specs.Checksum.{IsOf, IsOfBoth, IsOfFirst, IsMore}
use Rattle.comlynx_checksum.proofs.One as table

pub of_one : (s : List ℕ) (r r' : ℕ) → IsOf s r → IsOf s r' → r ≡ r'
of_one = table.of_one

pub of_both_one : (s t : List ℕ) (r r' : ℕ) → IsOfBoth s t r → IsOfBoth s t r' → r ≡ r'
of_both_one = table.of_both_one

pub of_first_one : (s : List ℕ) (n r r' : ℕ) → IsOfFirst s n r → IsOfFirst s n r' → r ≡ r'
of_first_one = table.of_first_one

pub more_one : (f : ℕ) (s : List ℕ) (r r' : ℕ) → IsMore f s r → IsMore f s r' → r ≡ r'
more_one = table.more_one
