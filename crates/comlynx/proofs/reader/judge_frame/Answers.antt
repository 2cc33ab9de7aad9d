use Prim.Native.Nat.{ℕ, ◌-◌}
use mathlib.Core.Path.{◌≡◌, sym, ◌∙◌, ap}
use lib.ListN.{get_or}
use native.Mathlib.Omega.{arith}
use Rattle.comlynx.specs.Wire.{body_least}
use Rattle.comlynx.specs.Reader.{told}
use Rattle.comlynx.specs.declared.reader.Header.{Header}
use Rattle.comlynx.specs.declared.reader.Answer.TheVariants.{Message as Read}
use Rattle.comlynx.proofs.JudgedIsDelivered.{held_header, judged_length, judged_start, judged_size, judged_sum, judged_message}
use Rattle.comlynx.proofs.reader.judge_frame.Goals as goal

-- the length that the data then have, as the code finds it
less_ten : (n : ℕ) → n - body_least ≡ n - 8 - 2
less_ten n = omega arith

-- what each test told, where it held
pub returns-then-not-sized : goal.returns-then-not-sized
returns-then-not-sized c came =
    let a = c.args in
    judged_length a.count came a.low a.high a.held.now c.requires (sym c.sized.ensures ∙ c.if-not-sized.true)

pub returns-then-not-begins : goal.returns-then-not-begins
returns-then-not-begins c came =
    let a = c.args in
    judged_start a.count came a.low a.high a.held.now c.requires (sym c.sized.ensures ∙ c.if-not-sized.false) (sym c.begins.ensures ∙ c.if-not-begins.true)

pub returns-then-from-len : goal.returns-then-from-len
returns-then-from-len c came =
    let a = c.args in
    judged_size a.count came a.low a.high a.held.now c.requires (sym c.sized.ensures ∙ c.if-not-sized.false) (sym c.begins.ensures ∙ c.if-not-begins.false)
    (λ e. c.if-from-len.true (c.from.ensures ∙ e ∙ less_ten a.count))

pub returns-then-not-ends : goal.returns-then-not-ends
returns-then-not-ends c came =
    let a = c.args in
    judged_sum a.count came a.low a.high a.held.now c.requires (sym c.sized.ensures ∙ c.if-not-sized.false) (sym c.begins.ensures ∙ c.if-not-begins.false)
    (sym c.from.ensures ∙ c.if-from-len.false ∙ sym (less_ten a.count)) (sym c.ends.ensures ∙ c.if-not-ends.true)

-- the header that was made
pub returns : goal.returns
returns c came =
    let a = c.args in
    let read : record { source = c.from_be_bytes-source.result; destination = c.from_be_bytes-destination.result; kind = get_or a.held.now 7 0; len = a.count - 8 - 2 } ≡ held_header (a.count - body_least) a.held.now =
    rw (c.from_be_bytes-source.ensures, c.from_be_bytes-destination.ensures, less_ten a.count) in
    ap (λ (h : Header). told (Read h)) read
    ∙ judged_message a.count came a.low a.high a.held.now c.requires (sym c.sized.ensures ∙ c.if-not-sized.false) (sym c.begins.ensures ∙ c.if-not-begins.false)
    (sym c.from.ensures ∙ c.if-from-len.false ∙ sym (less_ten a.count)) (sym c.ends.ensures ∙ c.if-not-ends.false)
