-- Each call on a state in range has a result: what a byte leads to is in range, and each damage has a case.
-- Assumes nothing.
use Prim.Native.Nat.{ℕ, ◌+◌, ◌-◌, ◌≤◌, ◌<◌}
use mathlib.Core.Path.{◌≡◌, refl, subst}
use mathlib.Core.Bool.{Bool, true, false}
use mathlib.Core.Option.{Option, none, some}
use mathlib.Core.List.{List}
use lib.ListN.{length, take, get_or}
use lib.Dec.{T, eqb}
use lib.Pow.{are_bytes}
use native.Mathlib.Omega.{arith}
use Rattle.answers.specs.Damage as Damage
use Rattle.answers.specs.declared.Damage.{Damage as What}
use Rattle.answers.specs.declared.Damage.TheVariants.{BrokenPair, WrongBodyLength, WrongStart, WrongSize, WrongSum}
use Rattle.stream.specs.Event.{Event, message, damage, outcome}
use Rattle.stream.specs.Pieces.{Called, scan}
use Rattle.stream.specs.Call.{lent_least, answered, delivered, retells}
use Rattle.stream.proofs.PromiseOfStep.{steps_scan}
use Rattle.stream.proofs.FamilyFacts.{HasResult}
use Rattle.stream.proofs.ResultsExist.{Cased, Steady, answerable}
use Rattle.comlynx.specs.Reader.{in_range, header, shown}
use Rattle.comlynx.specs.Demands.{comlynx}
use Rattle.comlynx.specs.declared.reader.Reader.{Reader}
use Rattle.comlynx.specs.declared.reader.Step.{Step}
use Rattle.comlynx.specs.declared.reader.Move.{Move}
use Rattle.comlynx.specs.declared.reader.Answer.{Answer}
use Rattle.comlynx.specs.declared.reader.Answer.TheVariants.{Done, Message as Read, Damaged}
use Rattle.answers.specs.Answer.{need}
use Rattle.comlynx_checksum.specs.Checksum.{agrees}
use Rattle.comlynx.specs.Wire.{Message, body_least, message_of}
use Rattle.comlynx.specs.Rules.{sized, begins, judged}
use Rattle.comlynx.specs.Machine as Machine
use Rattle.comlynx.specs.Machine.{too_many, more, advance_of, moved, next}
use Rattle.comlynx.specs.declared.reader.Move.TheVariants.{Skip, Open, Mark, Spoil, Keep, Over, Close, Fail}
use Rattle.comlynx.proofs.StageRanges.{within, range_of, in_range_lem, range_count, Asked, asked}

-- a number for which there is a case
abbrev Named : ℕ → Type 0
Named n = (what : What) × (Damage.number what ≡ n)

-- ---- what one byte does

judged_cased : (lost n : ℕ) (right : Bool) (bs : List ℕ) → Cased Named (some (judged lost n right bs))
unfolding judged
judged_cased lost n right bs = go (sized n) (begins bs) (eqb (get_or bs 6 0) (n - body_least)) right
  where
    go : (f s z r : Bool) → Cased Named (some (need f (damage 3 lost) (need s (damage 4 lost) (need z (damage 5 lost) (need r (damage 6 lost) (message (message_of bs)))))))
    go false s z r = (WrongBodyLength, refl)
    go true false z r = (WrongStart, refl)
    go true true false r = (WrongSize, refl)
    go true true true false = (WrongSum, refl)
    go true true true true = tt

opens : Machine.in_range 1 0 0 ≡ true
opens = in_range_lem 1 0 0 (within (omega arith) (omega arith) (omega arith) (omega arith))

moves : (m : Move) (s : Reader) → in_range s ≡ true → s.count ≤ too_many → Asked s.count m → Steady next in_range Named (moved m s)
unfolding moved
moves Skip s i c a = (i, tt)
moves Open s i c a = (opens, tt)
moves Mark s i c a = (in_range_lem 2 (more s.came 1) s.count (within (omega arith) (omega arith) (omega arith) c), tt)
moves Spoil s i c a = (in_range_lem 3 (more s.came 1) s.count (within (omega arith) (omega arith) (omega arith) c), tt)
moves (Keep v) s i c a = (in_range_lem 1 (more s.came 1) (s.count + 1) (within (omega arith) (omega arith) (omega arith) (omega (arith, a))), tt)
moves Over s i c a = (in_range_lem 1 (more s.came 1) too_many (within (omega arith) (omega arith) (omega arith) (omega arith)), tt)
moves Close s i c a = (opens, judged_cased s.came s.count (agrees (take s.count s.held)) (take s.count s.held))
moves Fail s i c a = (opens, (BrokenPair, refl))

steady : (s : Reader) (b : ℕ) → in_range s ≡ true → b < 256 → Steady next in_range Named (next s b)
unfolding next
steady s b i g = moves (advance_of s.stage s.count b) s i (range_count s.stage s.came s.count (range_of s.stage s.came s.count i)) (asked s.stage s.count b)

-- ---- the result of a call

-- the answer that tells this
abbrev answer_of : (o : Option (Event Message)) → Cased Named o → Answer
answer_of none k = Done
answer_of (some (message m)) k = Read (header m)
answer_of (some (damage n lost)) k = Damaged k.0 lost

abbrev result_of : (c : Called Reader (Event Message)) → Cased Named c.event → Step
result_of c k = record { reader = c.state; answer = answer_of c.event k; used = c.used }

shows : (t : Reader) (n : ℕ) (o : Option (Event Message)) (k : Cased Named o)
    → shown (result_of (record { state = t; event = o; used = n }) k) ≡ retells header (answered (record { state = t; event = o; used = n }))
shows t n none k = refl
shows t n (some (message m)) k = refl
shows t n (some (damage d lost)) k =
    subst (λ (v : ℕ). shown (result_of (record { state = t; event = some (damage d lost); used = n }) k) ≡ retells header (answered (record { state = t; event = some (damage v lost); used = n })))
    k.1 refl

pub results : (s : Reader) (piece lent : List ℕ) → in_range s ≡ true → T (are_bytes piece) → lent_least ≤ length lent → HasResult comlynx s piece lent
results s piece lent i g h =
    let c = scan next s piece in
    let a = answerable next in_range Named steady s piece i g in
    record {
      result = result_of c a.cased;
      later = delivered (λ (m : Message). m.payload) (outcome c.event) lent;
      steps = steps_scan next in_range header (λ m. m.payload) shown s piece lent _ (result_of c a.cased) c i h refl (shows c.state c.used c.event a.cased) refl a.ranged;
    }
