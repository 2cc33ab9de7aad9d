-- Each call on a state in range has a result: what a byte leads to is in range, and each damage has a case.
-- Assumes nothing.
use Prim.Native.Nat.{ℕ, min, ◌+◌, ◌≤◌, ◌<◌}
use mathlib.Core.Path.{◌≡◌, refl, subst}
use mathlib.Core.Bool.{Bool, true, false}
use mathlib.Core.Option.{Option, none, some}
use mathlib.Core.List.{List}
use lib.ListN.{length, take}
use lib.Dec.{T}
use lib.Pow.{are_bytes}
use native.Mathlib.Omega.{arith}
use Rattle.answers.specs.Answer.{need}
use Rattle.answers.specs.Damage as Damage
use Rattle.answers.specs.declared.Damage.{Damage as What}
use Rattle.answers.specs.declared.Damage.TheVariants.{WrongBodyLength, WrongSum, WrongCharacter}
use Rattle.stream.specs.Event.{Event, message, damage, outcome}
use Rattle.stream.specs.Pieces.{Called, scan}
use Rattle.stream.specs.Call.{lent_least, answered, delivered, retells}
use Rattle.stream.proofs.PromiseOfStep.{steps_scan}
use Rattle.stream.proofs.FamilyFacts.{HasResult}
use Rattle.stream.proofs.ResultsExist.{Cased, Steady, answerable}
use Rattle.drives.specs.Reader.{in_range, header, shown}
use Rattle.drives.specs.Demands.{drives}
use Rattle.drives.specs.declared.reader.Reader.{Reader}
use Rattle.drives.specs.declared.reader.Step.{Step}
use Rattle.drives.specs.declared.reader.Move.{Move}
use Rattle.drives.specs.declared.reader.Answer.{Answer}
use Rattle.drives.specs.declared.reader.Answer.TheVariants.{Done, Message as Read, Damaged}
use Rattle.drives.specs.Wire.{Message, proper, message_of}
use Rattle.drives.specs.Rules.{sized, agrees, judged}
use Rattle.drives.specs.Machine.{count_max, advance_of, moved, next}
use Rattle.drives.specs.declared.reader.Move.TheVariants.{Skip, Open, Keep, Over, Close}
use Rattle.drives.proofs.StageRanges.{looks, reads, range_of, in_range_lem, Asked, asked}

-- a number for which there is a case
abbrev Named : ℕ → Type 0
Named n = (what : What) × (Damage.number what ≡ n)

-- ---- what one byte does

judged_cased : (opening n : ℕ) (cs : List ℕ) → Cased Named (some (judged opening n cs))
unfolding judged
judged_cased opening n cs = go (sized opening n) (proper cs) (agrees cs)
  where
    go : (t u v : Bool) → Cased Named (some (need t (damage 3 n) (need u (damage 21 n) (need v (damage 6 n) (message (message_of opening cs))))))
    go true true true = tt
    go true true false = (WrongSum, refl)
    go true false v = (WrongCharacter, refl)
    go false u v = (WrongBodyLength, refl)

moves : (m : Move) (s : Reader) (b : ℕ) → Asked s.stage s.count b m → Steady next in_range Named (moved m s b)
unfolding moved
moves Skip s b a = (in_range_lem s.stage s.count (looks a.0 a.1), tt)
moves Open s b a = (in_range_lem b 0 (reads a.2 (omega arith)), tt)
moves Keep s b a = (in_range_lem s.stage (s.count + 1) (reads a.0 (omega (arith, a.2))), tt)
moves Over s b a = (in_range_lem s.stage (min (s.count + 1) count_max) (reads a.0 (omega arith)), tt)
moves Close s b a = (in_range_lem 0 0 (looks refl refl), judged_cased s.stage (s.count + 2) (take s.count s.held))

steady : (s : Reader) (b : ℕ) → in_range s ≡ true → b < 256 → Steady next in_range Named (next s b)
unfolding next
steady s b i g = moves (advance_of s.stage s.count b) s b (asked s.stage s.count b (range_of s.stage s.count i))

-- ---- the result of a call

-- the answer that tells this
abbrev answer_of : (o : Option (Event Message)) → Cased Named o → Answer
answer_of none k = Done
answer_of (some (message m)) k = Read (header m)
answer_of (some (damage n lost)) k = Damaged k.0 lost

abbrev result_of : (c : Called Reader (Event Message)) → Cased Named c.event → Step
result_of c k = record { reader = c.state; answer = answer_of c.event k; used = c.used }

shows : (t : Reader) (n : ℕ) (o : Option (Event Message)) (k : Cased Named o)
    → shown (result_of (record { state = t; event = o; used = n }) k) ≡ retells header (answered (record { state = t; event = o; used = n }))
shows t n none k = refl
shows t n (some (message m)) k = refl
shows t n (some (damage d lost)) k =
    subst (λ (v : ℕ). shown (result_of (record { state = t; event = some (damage d lost); used = n }) k) ≡ retells header (answered (record { state = t; event = some (damage v lost); used = n })))
    k.1 refl

pub results : (s : Reader) (piece lent : List ℕ) → in_range s ≡ true → T (are_bytes piece) → lent_least ≤ length lent → HasResult drives s piece lent
results s piece lent i g h =
    let c = scan next s piece in
    let a = answerable next in_range Named steady s piece i g in
    record {
      result = result_of c a.cased;
      later = delivered (λ (m : Message). m.payload) (outcome c.event) lent;
      steps = steps_scan next in_range header (λ m. m.payload) shown s piece lent _ (result_of c a.cased) c i h refl (shows c.state c.used c.event a.cased) refl a.ranged;
    }
