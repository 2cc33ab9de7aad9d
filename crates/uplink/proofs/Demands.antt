-- The demands of specs/Demands.antt, each under its name. Assumes nothing.
use Rattle.std.specs.Prelude.{Ok, Err}
use Prim.Native.Nat.{ℕ, ◌+◌, ◌/◌, ◌%◌}
use mathlib.Core.Path.{◌≡◌, refl, sym, ap, ◌∙◌}
use mathlib.Core.Option.{some}
use mathlib.Core.Logic.{◌↔◌}
use mathlib.Core.List.{List, [], ◌∷◌, ◌++◌, append-nil}
use native.Mathlib.Nat.{mod-eq_of_lt}
use mathlib.Core.Bool.{Bool, true, false}
use native.Mathlib.Omega.{arith}
use lib.ListN.{length, take, drop}
use lib.Seq.{slice, take_at}
use Rattle.answers.specs.Answer.{Answer, answer}
use Rattle.answers.specs.Written as Written
use Rattle.answers.specs.Written.{Writes}
use Rattle.answers.specs.declared.Refusal.TheVariants.{WrongPortOrCount}
use Rattle.answers.specs.Written.{Written}
use Rattle.answers.proofs.WriterPromise.{writes_frame, writes_nothing}
use Rattle.uplink.specs.Packet.{version_of, known, takes, lead_length, packet, packet_at, written, IsWritten}
use Rattle.uplink.specs.Demands.{ReadsBack, Begins, Accepts, Kept, Fits, SecondVersion, WrittenForPort4, ReadForPort4}
use Rattle.uplink.proofs.PacketTests.{counted_within, packet_length, by_writer}
use Rattle.uplink.proofs.AcceptedIsWritten.{held, never, tested, port_within, version_small, version_2, begins, reads_packet}

-- ---- what is written

-- where the writer's answer is 0 it took the piece, and the packet stands at the front
pub record Put (port : ℕ) (piece later : List ℕ) (n : ℕ) : Type 0 where
  pub taken : takes port (length piece) ≡ true
  pub long : n ≡ lead_length + length piece
  pub front : take n later ≡ packet port piece

length_told : (w : Written) (n : ℕ) → Written.told w ≡ answer 0 (n ∷ []) → Written.length_of w ≡ some n
length_told (Ok m) n e = let same : m ≡ n = cc in ap some same
length_told (Err why) n e = absurd (never 1 why (n ∷ []) e)

-- a writer's promise, where the piece is taken
as_writer : (port : ℕ) (piece lent later : List ℕ) (w : Written) → takes port (length piece) ≡ true → IsWritten port piece lent w later
    → Writes false (packet port piece) lent w later
as_writer port piece lent later w t p = rw (by_writer port piece lent t) at p

pub put : (port : ℕ) (piece lent later : List ℕ) (w : Written) (n : ℕ) → IsWritten port piece lent w later → Written.told w ≡ answer 0 (n ∷ []) → Put port piece later n
unfolding written
put port piece lent later w n p e =
    let tells : Answer × List ℕ → Answer = λ a. a.0 in
    let t = (held tells (takes port (length piece)) 1 WrongPortOrCount _ _ (n ∷ []) refl (sym p.0 ∙ e)).0 in
    let f = writes_frame false (packet port piece) lent later w n (as_writer port piece lent later w t p) (length_told w n e) in
    record { taken = t; long = f.1 ∙ packet_length port piece; front = f.0 }

pub reads_back : ReadsBack
reads_back port piece lent later rest w n p e =
    let t = put port piece lent later w n p e in
    let whole : take n later ++ rest ≡ packet port piece ++ rest = ap (λ (x : List ℕ). x ++ rest) t.front in (
      λ r q. q ∙ ap packet_at whole ∙ reads_packet port piece rest t.taken ∙ ap (λ (k : ℕ). answer 0 (port ∷ length piece ∷ k ∷ [])) (sym t.long),
      ap (slice lead_length n) whole ∙ ap (drop lead_length) (take_at (packet port piece) rest n (packet_length port piece ∙ sym t.long)),
    )

-- ---- what is accepted

accepted : (s : List ℕ) (port count used : ℕ) → Begins s port count used → packet_at s ≡ answer 0 (port ∷ count ∷ used ∷ [])
accepted s port count used b =
    let piece = b.piece in
    let same : takes port (length piece) ≡ true = ap (takes port) b.counts ∙ b.taken in
    ap packet_at b.bytes ∙ reads_packet port piece b.rest same ∙ simp (b.counts, b.uses)

pub accepts : Accepts
accepts s r port count used p =
    (λ e. begins s port count used (tested s port count used (sym p ∙ e)), λ b. p ∙ accepted s port count used b)

pub fits : Fits
fits s r port count used p e =
    let t = tested s port count used (sym p ∙ e) in
    let ports = port_within port (ap known t.carries ∙ t.sound.knows) in
    let counts = counted_within count t.counts in
    record {
      uses = t.uses;
      there = omega arith;
      some = counts.0;
      most = counts.1;
      first = ports.0;
      last = ports.1;
    }

-- ---- which version it has

two_bytes : {a b c d : ℕ} → a ∷ b ∷ [] ≡ c ∷ d ∷ [] → b ≡ d
two_bytes e = cc

-- what begins with a packet has version 2 exactly if its port is 4
packet_version : (port : ℕ) (piece rest s : List ℕ) → s ≡ packet port piece ++ rest → SecondVersion s ↔ (port ≡ 4)
packet_version port piece rest s e = (
  λ v.
      let low : version_of port % 256 ≡ 2 = two_bytes (ap (slice 3 5) (sym e) ∙ v) in
      (version_2 port).0 (sym (mod-eq_of_lt (version_small port)) ∙ low),
  λ p. let two = (version_2 port).1 p in ap (slice 3 5) e ∙ ap (λ (v : ℕ). v / 256 ∷ v % 256 ∷ []) two,
)

pub written_for_port4 : WrittenForPort4
written_for_port4 port piece lent later w n p e =
    let t = put port piece lent later w n p e in
    packet_version port piece [] (take n later) (t.front ∙ sym (append-nil (packet port piece)))

pub read_for_port4 : ReadForPort4
read_for_port4 s r port count used p e =
    let b = (accepts s r port count used p).0 e in
    packet_version port b.piece b.rest s b.bytes

-- ---- what is refused

pub kept : Kept
unfolding written
kept port piece lent later why p = go (takes port (length piece)) refl
  where
    go : (t : Bool) → takes port (length piece) ≡ t → later ≡ lent
    go true t = writes_nothing false (packet port piece) lent later (Err why) (as_writer port piece lent later (Err why) t p) refl
    go false t = rw t at p.1
