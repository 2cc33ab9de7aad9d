-- A family's promise of a call over lent held bytes, as `drain` reads it: by its row in the table of ports.
-- Assumes nothing.
use Prim.Native.Nat.{ℕ}
use mathlib.Core.Path.{◌≡◌, refl, sym, ap, ◌∙◌}
use mathlib.Core.List.{List, ◌++◌}
use lib.ListN.{length}
use Rattle.stream.specs.Event.{message, damage, Told, done, gives, refuses}
use Rattle.stream.specs.Call.{Seen, retold, whole, Steps}
use Rattle.stream.proofs.PromiseOfStep.{steps_seen}
use Rattle.stream.proofs.HostRelies.{step_fits}
use Rattle.stream.proofs.InPlaceIsStep.{in_place_is_step}
use Rattle.ports.specs.Ports.{Seat, row_of}
use Rattle.listing.specs.Inside.{told_by, IsRead}
use Rattle.listing.specs.declared.family.Read.{Read}

-- told by another name, and by another for that
retold_twice : {M N P : Type 0} (f : M → N) (g : N → P) (t : Told M) → retold (λ m. g (f m)) t ≡ retold g (retold f t)
retold_twice f g done = refl
retold_twice f g (gives (message m)) = refl
retold_twice f g (gives (damage n lost)) = refl
retold_twice f g (refuses n) = refl

module _ (at : Seat) {H R : Type 0} (held : (row_of at).family.State → List ℕ) (full : ℕ) (header : (row_of at).family.Message → H) (payload : (row_of at).family.Message → List ℕ)
    (seen : R → Seen (row_of at).family.State H) (join : H → List ℕ → (row_of at).family.Message)
    (joins : (m : (row_of at).family.Message) (rest : List ℕ) → join (header m) (payload m ++ rest) ≡ m)
    (payload_length : H → ℕ) (counts : (m : (row_of at).family.Message) → payload_length (header m) ≡ length (payload m)) where
  pub is_read : (s : (row_of at).family.State) (piece lent lent_later : List ℕ) (r : R) (q : Read H) → length (held s) ≡ full
      → Steps (row_of at).next (whole held full (row_of at).in_range) header payload seen s piece lent r lent_later → length lent_later ≡ length lent
      → told_by q.told ≡ (seen r).told → q.used ≡ (seen r).used
      → IsRead at payload_length (λ h l. (row_of at).show (join h l)) s piece lent q (seen r).state lent_later
  is_read s piece lent lent_later r q all st same told used =
      let step = in_place_is_step held full (row_of at).in_range (row_of at).next header payload seen s piece lent lent_later r all st in
      let is = steps_seen (row_of at).next (row_of at).in_range header payload seen join joins s piece lent lent_later r step in
      record {
        state = ap (λ (v : Seen (row_of at).family.State (row_of at).family.Message). v.state) is;
        tells = ap (retold (λ h. (row_of at).show (join h lent_later))) told ∙ retold_twice (λ h. join h lent_later) (row_of at).show (seen r).told
            ∙ ap (λ (v : Seen (row_of at).family.State (row_of at).family.Message). retold (row_of at).show v.told) is;
        uses = used ∙ ap (λ (v : Seen (row_of at).family.State (row_of at).family.Message). v.used) is;
        stays = step.2;
        fits = λ h e. step_fits (row_of at).next (row_of at).in_range header payload seen payload_length counts s piece lent lent_later r h step same (sym told ∙ e);
      }
