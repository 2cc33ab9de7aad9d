-- One whole stretch as its host meets it: the bytes between two successive flags, handed over without them.
use Rattle.std.specs.Prelude.{◌≡◌, cond, List, ℕ, length, eqb, ltb}
use Rattle.stream.specs.Event.{Told, done, gives, refuses}
use Rattle.stream.specs.Event as Event
use Rattle.stream.specs.Call.{lent_least, delivered, retold}
use Rattle.comlynx.specs.Wire.{Message}
use Rattle.comlynx.specs.Rules.{judge}
use Rattle.comlynx.specs.Reader.{number, told, header}
use Rattle.comlynx.specs.declared.reader.Answer.{Answer}

-- 9 under 255 bytes lent; an empty stretch gives nothing; any other is judged. Where a stretch ends is said by who hands it over: a 7E among
-- its bytes is a byte like any other
abbrev pub judged_whole : List ℕ → List ℕ → Told Message
judged_whole stretch lent = cond (ltb (length lent) lent_least) (refuses 9) (cond (eqb (length stretch) 0) done (gives (judge stretch)))

-- what `judge_stretch` promises, of the stretch, the lent buffer, its answer and the buffer afterwards
abbrev pub IsJudged : List ℕ → List ℕ → Answer → List ℕ → Type 0
IsJudged stretch lent r later =
    let t = judged_whole stretch lent in
    (number r ≡ Event.number t) × (told r ≡ retold header t) × (later ≡ delivered (λ (m : Message). m.payload) t lent)
