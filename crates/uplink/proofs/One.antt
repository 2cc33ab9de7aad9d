-- For each public call: two results, and two later contents, that its promise allows are one. Assumes nothing.
use Rattle.std.specs.Prelude.{Ok, Err}
use Prim.Native.Nat.{ℕ}
use mathlib.Core.Path.{◌≡◌, sym, ap, ◌∙◌}
use mathlib.Core.List.{List}
use native.Mathlib.Omega.{arith}
use Rattle.answers.specs.Refusal as Refusal
use Rattle.answers.specs.Written.{Written}
use Rattle.answers.proofs.NumbersHaveCases.{refusal_alike, refusal_above, written_alike}
use Rattle.uplink.specs.Packet.{Received, told, IsRead, IsWritten}

pub received_alike : (a b : Received) → told a ≡ told b → a ≡ b
received_alike (Ok p) (Ok q) e =
    let port : p.port ≡ q.port = cc in
    let count : p.count ≡ q.count = cc in
    let used : p.used ≡ q.used = cc in
    λ i. Ok (record { port = port i; count = count i; used = used i })
received_alike (Ok p) (Err why) e =
    let zero-told : 0 ≡ Refusal.number why = cc in
    absurd (omega (arith, refusal_above why))
received_alike (Err why) (Ok p) e =
    let zero-told : Refusal.number why ≡ 0 = cc in
    absurd (omega (arith, refusal_above why))
received_alike (Err why) (Err reason) e =
    let same : Refusal.number why ≡ Refusal.number reason = cc in
    ap Err (refusal_alike why reason same)

pub read_one : (s : List ℕ) (a b : Received) → IsRead s a → IsRead s b → a ≡ b
read_one s a b p q = received_alike a b (p ∙ sym q)

pub write_one : (port : ℕ) (piece lent : List ℕ) (v w : Written) (x y : List ℕ)
    → IsWritten port piece lent v x → IsWritten port piece lent w y → (v ≡ w) × (x ≡ y)
write_one port piece lent v w x y p q = (written_alike v w (p.0 ∙ sym q.0), p.1 ∙ sym q.1)
