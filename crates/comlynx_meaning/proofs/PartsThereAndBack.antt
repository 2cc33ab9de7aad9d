-- The parts of an address, and the address again.
-- Assumes nothing.
use Prim.Native.Nat.{ℕ, ◌+◌, ◌*◌, ◌/◌, ◌%◌, ◌≤◌, ◌<◌}
use mathlib.Core.Path.{◌≡◌, refl, sym, ap, subst}
use mathlib.Core.Bool.{Bool, true, false, ◌&&◌}
use mathlib.Core.List.{[], ◌∷◌}
use lib.Dec.{T, leb, leb→le}
use store.Enc.{and_l, and_r}
use borrow.Author.Tests.{le-leb}
use native.Mathlib.Omega.{arith}
use Rattle.answers.specs.Answer.{answer, need}
use Rattle.answers.specs.Refusal as Refusal
use Rattle.answers.specs.declared.Refusal.TheVariants.{WrongAddressOrExponentTooLow}
use Rattle.comlynx_meaning.specs.Meaning.{address_of, word_of}
use Rattle.comlynx_meaning.specs.Demands.{ThereAndBack, EveryNode}
use Rattle.comlynx_meaning.specs.declared.Address.{Address}

-- what the test of network and subnet tells
pub four_bits : (network subnet : ℕ) → leb network 15 && leb subnet 15 ≡ true → (network ≤ 15) × (subnet ≤ 15)
four_bits network subnet e =
    let t = subst T (sym e) tt in
    (leb→le network 15 (and_l (leb network 15) (leb subnet 15) t), leb→le subnet 15 (and_r (leb network 15) (leb subnet 15) t))

there : (word : ℕ) → word < 65536 → word_of (address_of word) ≡ answer 0 (word ∷ [])
unfolding word_of
there word h =
    let sum : word / 4096 * 4096 + word / 256 % 16 * 256 + word % 256 ≡ word = omega arith in
    rw (le-leb (word / 4096) 15 (omega arith), le-leb (word / 256 % 16) 15 (omega arith)) (ap (λ (n : ℕ). answer 0 (n ∷ [])) sum)

back : (a : Address) (word : ℕ) → a.node < 256 → word_of a ≡ answer 0 (word ∷ []) → address_of word ≡ a
unfolding word_of
back a word h e = go (leb a.network 15 && leb a.subnet 15) refl e
  where
    go : (t : Bool) → leb a.network 15 && leb a.subnet 15 ≡ t
        → need t (Refusal.refused 1 WrongAddressOrExponentTooLow) (answer 0 ((a.network * 4096 + a.subnet * 256 + a.node) ∷ [])) ≡ answer 0 (word ∷ []) → address_of word ≡ a
    go true f e =
        let t = four_bits a.network a.subnet f in
        let n = t.0 in
        let s = t.1 in
        let sum : a.network * 4096 + a.subnet * 256 + a.node ≡ word = cc in
        let network : word / 4096 ≡ a.network = omega arith in
        let subnet : word / 256 % 16 ≡ a.subnet = omega arith in
        let node : word % 256 ≡ a.node = omega arith in
        λ i. record { network = network i; subnet = subnet i; node = node i }
    go false f e = let z : ◌≡◌ {A = ℕ} 16 0 = cc in absurd (omega arith)

pub there_and_back : ThereAndBack
there_and_back = (there, back)

pub every_node : EveryNode
every_node = refl
