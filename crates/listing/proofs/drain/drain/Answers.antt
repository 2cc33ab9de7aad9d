-- `drain`: what each call leads to, and from it the loop's goals and both ends.
use Prim.Native.Nat.{ℕ, ◌+◌, ◌-◌, ◌*◌, ◌≤◌, ◌<◌}
use mathlib.Core.Path.{◌≡◌, refl, sym, ap, ◌∙◌, subst}
use mathlib.Core.Option.{Option}
use mathlib.Core.List.{List}
use lib.ListN.{length, take, drop, length-drop}
use lib.Seq.{sets}
use native.Mathlib.Nat.{add-zero}
use native.Mathlib.Omega.{arith}
use borrow.Author.Rules.{rules}
use Rattle.std.specs.Prelude.{Ok, Err}
use Rattle.std.specs.declared.option.Option.TheVariants.{None, Some}
use Rattle.answers.specs.Damage.{number as damageNumber}
use Rattle.answers.specs.Refusal.{number}
use Rattle.answers.specs.declared.Refusal.TheVariants.{Spoilt}
use Rattle.answers.proofs.NumbersHaveCases.{refusal_alike}
use Rattle.stream.specs.Event.{Event, message, damage, Told, done, gives}
use Rattle.stream.specs.Call.{lent_least, retold}
use Rattle.stream.proofs.HostRelies.{Fine}
use Rattle.uplink.specs.Packet.{piece_max}
use Rattle.listing_text.specs.Lines.{Shown}
use Rattle.listing.specs.Steps.{room_least}
use Rattle.listing.specs.Inside.{told_by, IsRead}
use Rattle.listing.specs.declared.family.Event.TheVariants.{Message, Damaged}
use Rattle.listing.proofs.LinesFit.{per_byte, held_most}
use Rattle.listing.proofs.DrainReadsPiece.{rest, rest_length, into, line_of, messages_of, damages_of, given as told_event, Went, read_used, went, spoils, Kept, begins, line_used, line_uses, line_room, turns, ends, ends_spoilt}
use Rattle.listing.proofs.drain.drain.Given as given
use Rattle.listing.proofs.drain.drain.Goals as goal
use Rattle.listing.proofs.drain.drain.Goals.{After-read-read}

-- ---- what is known behind a call

-- what was left of the piece, and the lent buffer afterwards
abbrev left_of : (g : given.Over) → After-read-read g → List ℕ
left_of g c = drop c.loop-at.at c.args.piece.now

abbrev lent_later : (g : given.Over) → After-read-read g → List ℕ
lent_later g c = c.read-read.new.lent

was_read : (g : given.Over) (c : After-read-read g)
    → IsRead g.F.Family.seat g.F.Family.payload_length g.F.Family.shown (g.F.Family.state c.loop-at.reader) (left_of g c) c.loop-at.lent c.read-read.result
    (g.F.Family.state c.read-read.new.self) (lent_later g c)
was_read g c =
    subst (λ (p : List ℕ).
    IsRead g.F.Family.seat g.F.Family.payload_length g.F.Family.shown (g.F.Family.state c.loop-at.reader) p c.loop-at.lent c.read-read.result (g.F.Family.state c.read-read.new.self) (lent_later g c))
    (rest c.args.piece.now c.loop-at.at) c.read-read.ensures

lent_enough : (g : given.Over) (c : After-read-read g) → lent_least ≤ length c.loop-at.lent
lent_enough g c = omega (arith, c.loop-at.invariant.1)

-- the buffer keeps its length, so there is room for the piece's lines
wide : (g : given.Over) (c : After-read-read g) → room_least ≤ length c.loop-at.out
wide g c = omega (arith, c.requires.4, c.loop-at.auto.out)

-- ---- a call that was not refused

module _ (g : given.Over) (c : After-read-read g) (t : Told g.row.F-Header.Denot) (is : told_by c.read-read.result.told ≡ t) (fine : Fine t) where
  -- what it told, messages shown
  abbrev event : Option (Event Shown)
  event = told_event (retold (λ h. g.F.Family.shown h (lent_later g c)) t)

  goes : Went g.F.Family.seat (g.F.Family.state c.loop-at.reader) (left_of g c) (g.F.Family.state c.read-read.new.self) event c.read-read.result.used
  goes = went g.F.Family.seat (was_read g c) (lent_enough g c) t is fine

  moves : 0 < c.read-read.result.used
  moves = line_uses g.F.Family.seat c.args.port c.requires.1 c.loop-at.invariant.0 goes c.loop-at-test.true

  -- there is room for its line
  room : c.loop-at.wrote + length (line_of c.args.port event) ≤ held_most + per_byte * piece_max
  room =
      omega
      (arith, line_used g.F.Family.seat c.args.port c.requires.1 c.loop-at.invariant.0 goes, c.requires.3, line_room g.F.Family.seat c.args.port c.requires.1 c.loop-at.invariant.0 goes)

  part_room : length (line_of c.args.port event) ≤ length (take (length c.loop-at.out - c.loop-at.wrote) (drop c.loop-at.wrote c.loop-at.out))
  part_room = omega (arith, room, wide g c, rest_length c.loop-at.out c.loop-at.wrote)

  keeps : (wrote messages damages : ℕ) (out : List ℕ) → wrote ≡ c.loop-at.wrote + length (line_of c.args.port event)
      → messages ≡ c.loop-at.messages + messages_of event → damages ≡ c.loop-at.damages + damages_of event
      → out ≡ sets c.loop-at.out c.loop-at.wrote (line_of c.args.port event)
      → Kept g.F.Family.seat c.args.port (g.F.Family.state c.args.reader.now) c.args.piece.now c.args.out.now (g.F.Family.state c.read-read.new.self) (c.loop-at.at + c.read-read.result.used)
      wrote messages damages out × (length (lent_later g c) ≡ lent_least)
  keeps wrote messages damages out ew em ed eo = (
    turns g.F.Family.seat c.args.port c.requires.1 c.loop-at.invariant.0 goes (was_read g c).stays c.loop-at-test.true wrote messages damages out ew em ed eo,
    c.read-read.auto.lent ∙ c.loop-at.invariant.1,
  )

-- ---- the goals

pub loop-at-init : goal.loop-at-init
loop-at-init g c = (begins g.F.Family.seat c.args.port (g.F.Family.state c.args.reader.now) c.args.piece.now c.args.out.now, refl)

pub overflow_add-at : goal.overflow_add-at
overflow_add-at g c =
    let k = (goal.at.overflow_add-at g c).After-read-read in
    omega (arith, read_used g.F.Family.seat (was_read g k) (lent_enough g k), length-drop k.loop-at.at k.args.piece.now, k.requires.3)

pub returns-in_err-read : goal.returns-in_err-read
returns-in_err-read g c =
    let k = (goal.at.returns-in_err-read g c).After-read-read in
    let why = c.in_err-read.field-0.0 in
    let bad = spoils g.F.Family.seat (was_read g k) (lent_enough g k) (number why) (ap told_by c.in_err-read.was) in
    let is : why ≡ Spoilt = refusal_alike why Spoilt bad.2 in
    let r : c.from_residual.result ≡ Err why = search rules in
    ends_spoilt g.F.Family.seat c.args.port c.requires.1 k.loop-at.invariant.0 c.from_residual.result (g.F.Family.state k.read-read.new.self) (r ∙ ap Err is) bad.1 bad.0

pub loop-at-preserved-in-None : goal.loop-at-preserved-in-None
loop-at-preserved-in-None g c =
    let k = (goal.at.loop-at-preserved-in-None g c).After-read-read in
    let told : k.read-read.result.told ≡ Ok None = search rules in
    keeps g k done (ap told_by told) tt _ _ _ _ (sym (add-zero k.loop-at.wrote)) (sym (add-zero k.loop-at.messages)) (sym (add-zero k.loop-at.damages)) refl

pub line-wrote-requires : goal.line-wrote-requires
line-wrote-requires g c =
    let k = (goal.at.line-wrote-requires g c).After-read-read in
    let h = c.in-Some-Message.header in
    let told : k.read-read.result.told ≡ Ok (Some (Message h)) = search rules in
    let fits = (was_read g k).fits h (ap told_by told) in
    (omega (arith, fits, k.loop-at.invariant.1), omega (arith, fits, k.read-read.auto.lent), part_room g k (gives (message h)) (ap told_by told) tt)

pub loop-at-preserved-in-Some-Message : goal.loop-at-preserved-in-Some-Message
loop-at-preserved-in-Some-Message g c =
    let k = (goal.at.loop-at-preserved-in-Some-Message g c).After-read-read in
    let h = c.in-Some-Message.header in
    let told : k.read-read.result.told ≡ Ok (Some (Message h)) = search rules in
    let t = gives (message h) in
    let put = c.line-wrote in
    keeps g k t (ap told_by told) tt _ _ _ _ (ap (λ (n : ℕ). k.loop-at.wrote + n) put.ensures.0) refl (sym (add-zero k.loop-at.damages))
    (into k.loop-at.out put.new.out _ k.loop-at.wrote (omega (arith, room g k t (ap told_by told) tt, wide g k)) put.ensures.1)

pub damage_line-wrote-requires : goal.damage_line-wrote-requires
damage_line-wrote-requires g c =
    let k = (goal.at.damage_line-wrote-requires g c).After-read-read in
    let d = c.in-Some-Damaged in
    let told : k.read-read.result.told ≡ Ok (Some (Damaged d.what d.lost)) = search rules in
    part_room g k (gives (damage (damageNumber d.what) d.lost)) (ap told_by told) tt

pub loop-at-preserved : goal.loop-at-preserved
loop-at-preserved g c =
    let k = (goal.at.loop-at-preserved g c).After-read-read in
    let d = c.in-Some-Damaged in
    let told : k.read-read.result.told ≡ Ok (Some (Damaged d.what d.lost)) = search rules in
    let t = gives (damage (damageNumber d.what) d.lost) in
    let put = c.damage_line-wrote in
    keeps g k t (ap told_by told) tt _ _ _ _ (ap (λ (n : ℕ). k.loop-at.wrote + n) put.ensures.0) (sym (add-zero k.loop-at.messages)) refl
    (into k.loop-at.out put.new.out _ k.loop-at.wrote (omega (arith, room g k t (ap told_by told) tt, wide g k)) put.ensures.1)

pub returns : goal.returns
returns g c = ends g.F.Family.seat c.args.port c.requires.1 c.loop-at.invariant.0 c.loop-at-test.false c.requires.2 c.requires.3 c.requires.4
