-- What one whole stretch is answered with.
-- Assumes nothing.
use Prim.Native.Nat.{ℕ, ◌<◌, ◌≤◌}
use mathlib.Core.Path.{◌≡◌, sym, ap, ◌∙◌, subst}
use mathlib.Core.List.{List}
use lib.ListN.{length}
use borrow.Author.Tests.{eq-eqb, ne_eqb, lt-ltb, le-ltb}
use Rattle.stream.specs.Event.{Told, done, gives, refuses}
use Rattle.stream.specs.Event as Event
use Rattle.stream.specs.Call.{lent_least, delivered, retold}
use Rattle.stream.proofs.PromiseOfStep.{number_retold}
use Rattle.comlynx.specs.Wire.{Message}
use Rattle.comlynx.specs.Rules.{judge}
use Rattle.comlynx.specs.Reader.{number, told, header}
use Rattle.comlynx.specs.Stretch.{judged_whole, IsJudged}
use Rattle.comlynx.specs.Inside.{Settles}
use Rattle.comlynx.specs.declared.reader.Answer.{Answer}
use Rattle.comlynx.proofs.JudgedIsDelivered.{number_told}

-- an answer that tells what the stretch comes to, and the buffer as that leaves it
pub is_judged : (stretch lent later : List ℕ) (r : Answer) (t : Told Message) → judged_whole stretch lent ≡ t → told r ≡ retold header t → later ≡ delivered (λ m. m.payload) t lent
    → IsJudged stretch lent r later
is_judged stretch lent later r t e k l =
    subst (λ (x : Told Message). (number r ≡ Event.number x) × (told r ≡ retold header x) × (later ≡ delivered (λ (m : Message). m.payload) x lent)) (sym e)
    (number_told r ∙ ap Event.number k ∙ number_retold header t, k, l)

pub no_room : (stretch lent : List ℕ) → length lent < lent_least → judged_whole stretch lent ≡ refuses 9
no_room stretch lent h = rw (lt-ltb (length lent) lent_least h)

pub empty : (stretch lent : List ℕ) → lent_least ≤ length lent → length stretch ≡ 0 → judged_whole stretch lent ≡ done
empty stretch lent h e = rw (le-ltb (length lent) lent_least h, eq-eqb (length stretch) 0 e)

pub judged : (stretch lent : List ℕ) → lent_least ≤ length lent → (length stretch ≡ 0 → ⊥) → judged_whole stretch lent ≡ gives (judge stretch)
judged stretch lent h n = rw (le-ltb (length lent) lent_least h, ne_eqb (length stretch) 0 n)

pub settled : (stretch lent later : List ℕ) (r : Answer) → lent_least ≤ length lent → (length stretch ≡ 0 → ⊥) → Settles stretch lent r later → IsJudged stretch lent r later
settled stretch lent later r h n s = is_judged stretch lent later r (gives (judge stretch)) (judged stretch lent h n) s.0 s.1
