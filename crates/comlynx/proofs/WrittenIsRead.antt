-- What is written is read: a message's frame, by the rule; and what a frame is made of.
-- Assumes nothing.
use Prim.Native.Nat.{ℕ, suc, ◌+◌, ◌-◌, ◌*◌, ◌/◌, ◌%◌, ◌≤◌, ◌<◌}
use mathlib.Core.Path.{◌≡◌, refl, sym, ap, ap₂, ◌∙◌}
use mathlib.Core.Bool.{Bool, true, false}
use mathlib.Core.Option.{Option, some}
use mathlib.Core.List.{List, [], ◌∷◌, ◌++◌, append-nil, append_assoc}
use lib.ListN.{length, take, drop, get_or, length-append}
use lib.Seq.{take-append_seam}
use lib.Dec.{T}
use lib.Pow.{are_bytes}
use borrow.Author.Tests.{eq-eqb, ne_eqb, le-leb}
use native.Mathlib.Omega.{arith}
use Rattle.comlynx_checksum.specs.Checksum.{sent_after, sent, agrees}
use Rattle.comlynx_checksum.proofs.SentAgrees.{passes, bounds}
use Rattle.stream.specs.Event.{Event, message}
use Rattle.stream.specs.Rule.{Settled}
use Rattle.stream.proofs.BytesOfParts.{bytes_cons, bytes_append}
use Rattle.comlynx.specs.Wire.{Message, Takes, covered, body, message_of, flag, stuffed, wire, payload_max, body_max, body_least}
use Rattle.comlynx.specs.Rules.{sized, begins, judged, judged_body, lost_of, judge, within, before, rule}
use Rattle.comlynx.specs.Demands.{Stretch, special, Room}
use Rattle.comlynx.proofs.UnstuffingUndoes.{unstuffed_stuffed, stuffed_stretch, stuffed_length, special_most, bytes_stuffed}

-- ---- a stretch by the rule

pub within_stretch : (w : List ℕ) → Stretch w → (at : ℕ) (came rest : List ℕ) → within at came (w ++ rest) ≡ within (at + length w) (came ++ w) rest
unfolding within
within_stretch [] k at came rest =
    let e : at ≡ at + 0 = omega arith in
    ap₂ (λ (n : ℕ) (l : List ℕ). within n l rest) e (sym (append-nil came))
within_stretch (b ∷ w) k at came rest =
    let e : at + 1 + length w ≡ at + suc (length w) = omega arith in
    rw (ne_eqb b flag k.0)
    (within_stretch w k.1 (at + 1) (came ++ (b ∷ [])) rest
    ∙ ap₂ (λ (n : ℕ) (l : List ℕ). within n l rest) e (append_assoc came (b ∷ []) w))

pub within_flag : (at : ℕ) (w rest : List ℕ) → 0 < length w → within at w (flag ∷ rest) ≡ some (record { event = judge w; used = at + 1 })
unfolding within
within_flag at w rest k = rw (ne_eqb (length w) 0 (λ e. omega arith))

opened : (w rest : List ℕ) → Stretch w → 0 < length w → within 1 [] (w ++ (flag ∷ rest)) ≡ some (record { event = judge w; used = length w + 2 })
opened w rest k h =
    let e : 1 + length w + 1 ≡ length w + 2 = omega arith in
    within_stretch w k 1 [] (flag ∷ rest)
    ∙ within_flag (1 + length w) w rest h
    ∙ ap {B = Option (Settled (Event Message))} (λ n. some (record { event = judge w; used = n })) e

read_once : (known : Bool) (w rest : List ℕ) → Stretch w → 0 < length w → rule known (flag ∷ (w ++ (flag ∷ rest))) ≡ some (record { event = judge w; used = length w + 2 })
unfolding within before
read_once false w rest k h = opened w rest k h
read_once true w rest k h = opened w rest k h

-- ---- a body

pub body_length : (m : Message) → length (body m) ≡ body_least + length m.payload
unfolding body sent sent_after
body_length m = simp length-append (omega arith)

module _ (m : Message) where
  body_starts : begins (body m) ≡ true
  unfolding body
  body_starts = refl

  body_size : get_or (body m) 6 0 ≡ length (body m) - body_least
  unfolding body
  body_size = omega (arith, body_length m)

  body_agrees : agrees (body m) ≡ true
  unfolding body
  body_agrees = passes (covered m)

  body_data : take (length (body m) - body_least) (drop 8 (body m)) ≡ m.payload
  body_data =
      let n : length (body m) - body_least ≡ length m.payload = omega (arith, body_length m) in
      rw n (unfold body in take-append_seam m.payload _)

  body_source : get_or (body m) 2 0 * 256 + get_or (body m) 3 0 ≡ m.source
  unfolding body
  body_source = omega arith

  body_destination : get_or (body m) 4 0 * 256 + get_or (body m) 5 0 ≡ m.destination
  unfolding body
  body_destination = omega arith

  body_kind : get_or (body m) 7 0 ≡ m.kind
  unfolding body
  body_kind = refl

  body_message : message_of (body m) ≡ m
  body_message i = record { source = body_source i; destination = body_destination i; kind = body_kind i; payload = body_data i }

  body_judged : (lost : ℕ) → length m.payload ≤ payload_max → judged lost (length (body m)) (agrees (body m)) (body m) ≡ message m
  unfolding judged
  body_judged lost h =
      let fits : sized (length (body m)) ≡ true = rw (le-leb body_least (length (body m)) (omega (arith, body_length m)), le-leb (length (body m)) body_max (omega (arith, body_length m))) in
      rw (fits, body_starts, eq-eqb (get_or (body m) 6 0) (length (body m) - body_least) body_size, body_agrees) (ap message body_message)

  pub judge_body : length m.payload ≤ payload_max → judge (stuffed (body m)) ≡ message m
  unfolding judge
  judge_body h = let lost = lost_of (stuffed (body m)) in ap (judged_body lost) (unstuffed_stuffed (body m)) ∙ body_judged lost h

  -- ---- a frame

  pub wire_length : length (wire m) ≡ 12 + length m.payload + special (body m)
  wire_length = omega (arith, length-append (stuffed (body m)) (flag ∷ []), stuffed_length (body m), body_length m)

  pub reads : (known : Bool) → length m.payload ≤ payload_max → rule known (wire m) ≡ some (record { event = message m; used = length (wire m) })
  reads known h =
      let n : length (stuffed (body m)) + 2 ≡ length (wire m) = omega (arith, length-append (stuffed (body m)) (flag ∷ [])) in
      read_once known (stuffed (body m)) [] (stuffed_stretch (body m)) (omega (arith, stuffed_length (body m), body_length m))
      ∙ ap₂ {C = Option (Settled (Event Message))} (λ (e : Event Message) (k : ℕ). some (record { event = e; used = k })) (judge_body h) n

pub room : Room
room m h = (wire_length m, omega (arith, wire_length m, special_most (body m), body_length m))

-- ---- bytes

covered_bytes : (m : Message) → Takes m → T (are_bytes (covered m))
covered_bytes m t =
    let s = m.source in
    let d = m.destination in
    let l₁ = m.kind ∷ m.payload in
    let l₂ = length m.payload ∷ l₁ in
    let l₃ = d % 256 ∷ l₂ in
    let l₄ = d / 256 ∷ l₃ in
    let l₅ = s % 256 ∷ l₄ in
    let l₆ = s / 256 ∷ l₅ in
    bytes_cons 0xFF (0x03 ∷ l₆) (omega arith)
    (bytes_cons 0x03 l₆ (omega arith)
    (bytes_cons (s / 256) l₅ (omega (arith, t.source))
    (bytes_cons (s % 256) l₄ (omega arith)
    (bytes_cons (d / 256) l₃ (omega (arith, t.destination))
    (bytes_cons (d % 256) l₂ (omega arith)
    (bytes_cons (length m.payload) l₁ (omega (arith, t.fits))
    (bytes_cons m.kind m.payload t.kind t.payload)))))))

body_bytes : (m : Message) → Takes m → T (are_bytes (body m))
unfolding body
body_bytes m t = let g = covered_bytes m t in bytes_append (covered m) (sent (covered m)) g (bounds (covered m) g).1

pub wire_bytes : (m : Message) → Takes m → T (are_bytes (wire m))
wire_bytes m t =
    bytes_cons flag (stuffed (body m) ++ (flag ∷ [])) (omega arith) (bytes_append (stuffed (body m)) (flag ∷ []) (bytes_stuffed (body m) (body_bytes m t)) (bytes_cons flag [] (omega arith) tt))
