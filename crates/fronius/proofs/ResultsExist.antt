-- Each call on a state in range has a result: what a byte leads to is in range, and each damage has a case.
-- Assumes nothing.
use Prim.Native.Nat.{ℕ, ◌+◌, ◌≤◌, ◌<◌}
use mathlib.Core.Path.{◌≡◌, refl, subst}
use mathlib.Core.Bool.{Bool, true, false, cond}
use mathlib.Core.Option.{Option, none, some}
use mathlib.Core.List.{List, ◌∷◌}
use lib.ListN.{length, take}
use lib.Dec.{T, eqb}
use lib.Pow.{are_bytes}
use native.Mathlib.Omega.{arith}
use Rattle.answers.specs.Damage as Damage
use Rattle.answers.specs.declared.Damage.{Damage as What}
use Rattle.answers.specs.declared.Damage.TheVariants.{WrongSum, WrongLengthByte}
use Rattle.stream.specs.Event.{Event, message, damage, outcome}
use Rattle.stream.specs.Pieces.{Called, scan}
use Rattle.stream.specs.Call.{lent_least, answered, delivered, retells}
use Rattle.stream.proofs.PromiseOfStep.{steps_scan}
use Rattle.stream.proofs.FamilyFacts.{HasResult}
use Rattle.stream.proofs.ResultsExist.{Cased, Steady, answerable}
use Rattle.fronius.specs.Reader.{in_range, header, shown}
use Rattle.fronius.specs.Demands.{fronius}
use Rattle.fronius.specs.declared.reader.Reader.{Reader}
use Rattle.fronius.specs.declared.reader.Step.{Step}
use Rattle.fronius.specs.declared.reader.Move.{Move}
use Rattle.fronius.specs.declared.reader.Answer.{Answer}
use Rattle.fronius.specs.declared.reader.Answer.TheVariants.{Done, Message as Read, Damaged}
use Rattle.fronius.specs.Wire.{Message, checksum, message_of}
use Rattle.fronius.specs.Rules.{judged}
use Rattle.fronius.specs.Machine.{advance_of, moved, next}
use Rattle.fronius.specs.declared.reader.Move.TheVariants.{Count, Open, Keep, Close, Bad}
use Rattle.fronius.proofs.StageRanges.{start, body, range_of, in_range_lem, Asked, asked}

-- a number for which there is a case
abbrev Named : ℕ → Type 0
Named n = (what : What) × (Damage.number what ≡ n)

-- ---- what one byte does

judged_cased : (len : ℕ) (bs : List ℕ) (sum : ℕ) → Cased Named (some (judged len bs sum))
unfolding judged
judged_cased len bs sum = go (eqb sum (checksum (len ∷ bs)))
  where
    go : (t : Bool) → Cased Named (some (cond t (message (message_of bs)) (damage 6 (8 + len))))
    go true = tt
    go false = (WrongSum, refl)

moves : (m : Move) (s : Reader) (b : ℕ) → Asked s.stage s.count s.len m → Steady next in_range Named (moved m s b)
unfolding moved
moves (Count n) s b a = (in_range_lem s.stage n s.len (start a.0 a.1 a.2), tt)
moves (Open n) s b a = (in_range_lem 1 0 n (body refl a (omega arith)), tt)
moves Keep s b a = (in_range_lem s.stage (s.count + 1) s.len (body a.0 a.1 (omega (arith, a.2))), tt)
moves Close s b a = (in_range_lem 0 0 0 (start refl (omega arith) refl), judged_cased s.len (take (3 + s.len) s.held) b)
moves Bad s b a = (in_range_lem 0 0 0 (start refl (omega arith) refl), (WrongLengthByte, refl))

steady : (s : Reader) (b : ℕ) → in_range s ≡ true → b < 256 → Steady next in_range Named (next s b)
unfolding next
steady s b i g = moves (advance_of s.stage s.count s.len b) s b (asked s.stage s.count s.len b (range_of s.stage s.count s.len i))

-- ---- the result of a call

-- the answer that tells this
abbrev answer_of : (o : Option (Event Message)) → Cased Named o → Answer
answer_of none k = Done
answer_of (some (message m)) k = Read (header m)
answer_of (some (damage n lost)) k = Damaged k.0 lost

abbrev result_of : (c : Called Reader (Event Message)) → Cased Named c.event → Step
result_of c k = record { reader = c.state; answer = answer_of c.event k; used = c.used }

shows : (t : Reader) (n : ℕ) (o : Option (Event Message)) (k : Cased Named o)
    → shown (result_of (record { state = t; event = o; used = n }) k) ≡ retells header (answered (record { state = t; event = o; used = n }))
shows t n none k = refl
shows t n (some (message m)) k = refl
shows t n (some (damage d lost)) k =
    subst (λ (v : ℕ). shown (result_of (record { state = t; event = some (damage d lost); used = n }) k) ≡ retells header (answered (record { state = t; event = some (damage v lost); used = n })))
    k.1 refl

pub results : (s : Reader) (piece lent : List ℕ) → in_range s ≡ true → T (are_bytes piece) → lent_least ≤ length lent → HasResult fronius s piece lent
results s piece lent i g h =
    let c = scan next s piece in
    let a = answerable next in_range Named steady s piece i g in
    record {
      result = result_of c a.cased;
      later = delivered (λ (m : Message). m.payload) (outcome c.event) lent;
      steps = steps_scan next in_range header (λ m. m.payload) shown s piece lent _ (result_of c a.cased) c i h refl (shows c.state c.used c.event a.cased) refl a.ranged;
    }
