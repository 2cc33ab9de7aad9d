-- Each call on a state in range has a result: what a byte leads to is in range, and each damage has a case.
-- Assumes nothing.
use Prim.Native.Nat.{ℕ, ◌+◌, ◌≤◌, ◌<◌}
use mathlib.Core.Path.{◌≡◌, refl, subst}
use mathlib.Core.Bool.{Bool, true, false, cond, ◌&&◌}
use mathlib.Core.Option.{Option, none, some}
use mathlib.Core.List.{List}
use lib.ListN.{length, take, drop, get_or}
use lib.Dec.{T, eqb, ltb}
use lib.Pow.{are_bytes}
use borrow.Author.Tests.{ltb-true, ltb-false}
use native.Mathlib.Omega.{arith}
use Rattle.answers.specs.Damage as Damage
use Rattle.answers.specs.declared.Damage.{Damage as What}
use Rattle.answers.specs.declared.Damage.TheVariants.{WrongSum}
use Rattle.stream.specs.Event.{Event, message, damage, outcome}
use Rattle.stream.specs.Pieces.{Called, scan}
use Rattle.stream.specs.Call.{lent_least, answered, delivered, retells}
use Rattle.stream.proofs.PromiseOfStep.{steps_scan}
use Rattle.stream.proofs.FamilyFacts.{HasResult}
use Rattle.stream.proofs.ResultsExist.{Cased, Steady, answerable}
use Rattle.eversolar.specs.Reader.{in_range, header, shown}
use Rattle.eversolar.specs.Demands.{eversolar}
use Rattle.eversolar.specs.declared.reader.Reader.{Reader}
use Rattle.eversolar.specs.declared.reader.Step.{Step}
use Rattle.eversolar.specs.declared.reader.Move.{Move}
use Rattle.eversolar.specs.declared.reader.Answer.{Answer}
use Rattle.eversolar.specs.declared.reader.Answer.TheVariants.{Done, Message as Read, Damaged}
use Rattle.eversolar_words.specs.Words.{word}
use Rattle.eversolar.specs.Wire.{Message, second_mark, first_mark, earlier_of, checksum, message_of}
use Rattle.eversolar.specs.Rules.{judged}
use Rattle.eversolar.specs.Machine.{on, holding, looked_of, advance_of, moved, next}
use Rattle.eversolar.specs.declared.reader.Move.TheVariants.{Keep, Size, Close}
use Rattle.eversolar.proofs.StageRanges.{Range, look, lead, body, range_of, in_range_lem, range_idle, keeps_range, Asked, asked}

-- a number for which there is a case
abbrev Named : ℕ → Type 0
Named n = (what : What) × (Damage.number what ≡ n)

-- ---- what one byte does

judged_cased : (six : List ℕ) (n : ℕ) (payload : List ℕ) (sum : ℕ) → Cased Named (some (judged six n payload sum))
unfolding judged
judged_cased six n payload sum = go (eqb sum (checksum (earlier_of six n payload)))
  where
    go : (t : Bool) → Cased Named (some (cond t (message (message_of six payload)) (damage 6 (11 + n))))
    go true = tt
    go false = (WrongSum, refl)

-- looking: the stage after a byte
looked : (stage b count len : ℕ) → count ≡ 0 → len ≡ 0 → Range (looked_of stage b) count len
unfolding looked_of
looked stage b count len c l = go (eqb stage 1 && eqb b second_mark) (eqb b first_mark)
  where
    go : (t u : Bool) → Range (cond t 2 (cond u 1 0)) count len
    go true u = lead refl (omega arith) l
    go false true = look (omega arith) c l
    go false false = look (omega arith) c l

moves : (m : Move) (s : Reader) (b : ℕ) → 2 ≤ s.stage → Range s.stage s.count s.len → b < 256 → Asked s.stage s.count s.len m → Steady next in_range Named (moved m s b)
unfolding moved
moves Keep s b two r g a = (in_range_lem s.stage (s.count + 1) s.len (keeps_range s.stage s.count s.len (s.count + 1) two r (omega arith) (omega (arith, a))), tt)
moves Size s b two r g a = (in_range_lem 3 7 b (body refl (omega arith) (omega arith) (omega arith)), tt)
moves Close s b two r g a = (in_range_lem 0 0 0 (look (omega arith) refl refl), judged_cased (take 6 s.held) s.len (take s.len (drop 7 s.held)) (word (get_or s.held (7 + s.len) 0) b))

steady : (s : Reader) (b : ℕ) → in_range s ≡ true → b < 256 → Steady next in_range Named (next s b)
unfolding next
steady s b i g = go (ltb s.stage 2) refl
  where
    r : Range s.stage s.count s.len
    r = range_of s.stage s.count s.len i

    go : (t : Bool) → ltb s.stage 2 ≡ t
        → Steady next in_range Named (cond t (on (holding (looked_of s.stage b) s.count s.len s.held)) (moved (advance_of s.stage s.count s.len) s b))
    go true e =
        let idle = range_idle s.stage s.count s.len r (ltb-true s.stage 2 e) in
        (in_range_lem (looked_of s.stage b) s.count s.len (looked s.stage b s.count s.len idle.0 idle.1), tt)
    go false e =
        let two = ltb-false s.stage 2 e in
        moves (advance_of s.stage s.count s.len) s b two r g (asked s.stage s.count s.len two r)

-- ---- the result of a call

-- the answer that tells this
abbrev answer_of : (o : Option (Event Message)) → Cased Named o → Answer
answer_of none k = Done
answer_of (some (message m)) k = Read (header m)
answer_of (some (damage n lost)) k = Damaged k.0 lost

abbrev result_of : (c : Called Reader (Event Message)) → Cased Named c.event → Step
result_of c k = record { reader = c.state; answer = answer_of c.event k; used = c.used }

shows : (t : Reader) (n : ℕ) (o : Option (Event Message)) (k : Cased Named o)
    → shown (result_of (record { state = t; event = o; used = n }) k) ≡ retells header (answered (record { state = t; event = o; used = n }))
shows t n none k = refl
shows t n (some (message m)) k = refl
shows t n (some (damage d lost)) k =
    subst (λ (v : ℕ). shown (result_of (record { state = t; event = some (damage d lost); used = n }) k) ≡ retells header (answered (record { state = t; event = some (damage v lost); used = n })))
    k.1 refl

pub results : (s : Reader) (piece lent : List ℕ) → in_range s ≡ true → T (are_bytes piece) → lent_least ≤ length lent → HasResult eversolar s piece lent
results s piece lent i g h =
    let c = scan next s piece in
    let a = answerable next in_range Named steady s piece i g in
    record {
      result = result_of c a.cased;
      later = delivered (λ (m : Message). m.payload) (outcome c.event) lent;
      steps = steps_scan next in_range header (λ m. m.payload) shown s piece lent _ (result_of c a.cased) c i h refl (shows c.state c.used c.event a.cased) refl a.ranged;
    }
