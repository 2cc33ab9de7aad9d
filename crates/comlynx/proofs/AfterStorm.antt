-- After any bytes at all the flag that opens a message leads every state to the start of a stretch.
-- Assumes nothing.
use Prim.Native.Nat.{ℕ, zero, suc}
use mathlib.Core.Path.{◌≡◌, refl, sym, ap, ◌∙◌}
use mathlib.Core.Bool.{true}
use mathlib.Core.Option.{Option, none}
use mathlib.Core.List.{List, [], ◌∷◌, ◌++◌}
use lib.ListN.{length, take, length-set}
use lib.Dec.{eqb}
use borrow.Author.Tests.{eqb-true}
use Rattle.numbers.proofs.TestLaws.{both, by_test}
use Rattle.stream.specs.Event.{Event}
use Rattle.stream.specs.Pieces.{Moved}
use Rattle.stream.specs.Written.{written}
use Rattle.stream.proofs.CallsComeTo.{settled_before, after, settled_in}
use Rattle.stream.proofs.AfterStorm as Storm
use Rattle.stream.proofs.AfterStorm.{Opens}
use Rattle.comlynx.specs.Wire.{Message, body_max, body, flag, stuffed, wire}
use Rattle.comlynx.specs.Machine.{inside, advance_of, moved, next}
use Rattle.comlynx.specs.Reader.{in_range}
use Rattle.comlynx.specs.Demands.{comlynx, AfterStorm}
use Rattle.comlynx.specs.declared.reader.Reader.{Reader}
use Rattle.comlynx.specs.declared.reader.Move.{Move}
use Rattle.comlynx.specs.declared.reader.Move.TheVariants.{Skip, Open, Mark, Spoil, Keep, Over, Close, Fail}
use Rattle.comlynx.proofs.MachineMoves.{flag_empty}
use Rattle.comlynx.proofs.FamilyFacts.{facts}

-- ---- what a flag leads to, from any state, out of range too

opened : (s : Reader) → (next s flag).state ≡ inside 0 0 s.held
unfolding next advance_of moved
opened s =
    let Opened : Move → Type 0 = λ m. (moved m s).state ≡ inside 0 0 s.held in
    by_test Opened (eqb s.stage 0) (λ e. refl)
    (λ e. by_test Opened (eqb s.stage 1)
    (λ f. by_test Opened (eqb s.count 0) (λ g. refl) (λ g. refl))
    (λ f. by_test Opened (eqb s.stage 2) (λ g. refl) (λ g. refl)))

-- ---- the held bytes are as many as ever

wide_moved : (m : Move) (s : Reader) → length (moved m s).state.held ≡ length s.held
unfolding moved
wide_moved Skip s = refl
wide_moved Open s = refl
wide_moved Mark s = refl
wide_moved Spoil s = refl
wide_moved (Keep v) s = length-set s.held s.count v
wide_moved Over s = refl
wide_moved Close s = refl
wide_moved Fail s = refl

wide_after : (bs : List ℕ) (s : Reader) → length (after next s bs).held ≡ length s.held
wide_after [] s = refl
wide_after (b ∷ bs) s = wide_after bs (next s b).state ∙ (unfold next in wide_moved (advance_of s.stage s.count b) s)

-- ---- the flag that closes what a storm left open is the flag that opens the first message: from the start of a stretch it tells nothing

flag_again : (at : ℕ) (s : Reader) (rest : List ℕ)
    → settled_in next at s (flag ∷ rest) ≡ settled_before (next s flag).event (suc at) (settled_in next at (inside 0 0 s.held) (flag ∷ rest))
flag_again at s rest =
    ap (settled_before (next s flag).event (suc at))
    (ap (λ (v : Reader). settled_in next (suc at) v rest) (opened s)
    ∙ sym (ap (λ (v : Moved Reader (Event Message)). settled_before v.event (suc at) (settled_in next (suc at) v.state rest)) (flag_empty 0 s.held)))

-- from any state that has all its held bytes, whatever part of the messages has come
opens : (s : Reader) → length s.held ≡ body_max → (ms : List Message) (n : ℕ) → Opens comlynx facts s (take n (written wire ms))
unfolding facts
opens s w ms n = record {
  known = true;
  state = inside 0 0 s.held;
  rests = record { held = s.held; full = w; is = refl };
  first = first_of ms n;
  comes = comes ms n;
}
  where
    first_of : List Message → ℕ → Option (Event Message)
    first_of ms zero = none
    first_of [] (suc n) = none
    first_of (m ∷ ms) (suc n) = (next s flag).event

    comes : (ms : List Message) (n at : ℕ)
        → settled_in next at s (take n (written wire ms)) ≡ settled_before (first_of ms n) (suc at) (settled_in next at (inside 0 0 s.held) (take n (written wire ms)))
    comes ms zero at = refl
    comes [] (suc n) at = refl
    comes (m ∷ ms) (suc n) at = flag_again at s (take n ((stuffed (body m) ++ (flag ∷ [])) ++ written wire ms))

pub after_storm : AfterStorm
unfolding facts
after_storm s h =
    let k = both (eqb (length s.held) body_max) (in_range s) h in
    let wide : length s.held ≡ body_max = eqb-true (length s.held) body_max k.0 in
    let handed = Storm.handed_after_storm comlynx facts s k.1 (λ storm ms n. opens (after next s storm) (wide_after storm s ∙ wide) ms n) in
    (Storm.after_storm comlynx facts s handed, handed)
