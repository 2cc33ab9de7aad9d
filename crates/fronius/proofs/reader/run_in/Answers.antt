-- `reader::run_in`: what a move says of the state, and what the byte does.
use Rattle.std.proofs.Common.{◌≡◌, ℕ, ◌+◌, ◌<◌, List, get_or, refl, sym, ap, ◌∙◌, arith}
use mathlib.Core.Path.{subst}
use mathlib.Core.Option.{none, some}
use Rattle.stream.specs.Event.{Event}
use Rattle.stream.specs.Pieces.{Called, scan, scan_from}
use Rattle.stream.proofs.LoopScans.{from_goes, from_tells, from_end}
use Rattle.fronius.specs.Wire.{Message}
use Rattle.fronius.specs.Machine.{holding, filling, moved, next}
use Rattle.fronius.specs.Inside.{with_held}
use Rattle.fronius.specs.declared.reader.Reader.{Reader}
use Rattle.fronius.specs.declared.reader.Move.{Move}
use Rattle.fronius.specs.declared.reader.Move.TheVariants.{Count, Open, Keep, Close, Bad}
use Rattle.fronius.proofs.StageRanges.{start, body, range_of, in_range_lem, Asked, asked}
use Rattle.fronius.proofs.reader.run_in.Goals.{After-advance-m}
use Rattle.fronius.proofs.reader.run_in.Goals as goal

-- where a byte's move is known: the state before the byte, the byte, how far, and the call that `enter` left
abbrev St : After-advance-m → Reader
St c = let l = c.loop-i in with_held l.state l.held

abbrev B : After-advance-m → ℕ
B c = get_or c.args.piece.now c.loop-i.i 0

abbrev Left : After-advance-m → Called Reader (Event Message)
Left c =
    let e = c.enter-entered in
    scan_from next (with_held e.result.state e.new.held) c.args.piece.now e.result.at

-- what the move says of the state, and what the byte does
asks : (c : After-advance-m) (m : Move) → c.advance-m.result ≡ m → Asked c.loop-i.state.stage c.loop-i.state.count c.loop-i.state.len m
asks c m e = let l = c.loop-i in subst (Asked l.state.stage l.state.count l.state.len) (sym c.advance-m.ensures ∙ e) (asked _ _ _ (B c) l.invariant.1)

kept : (c : After-advance-m) → c.advance-m.result ≡ Keep → c.loop-i.state.count < 130
kept c e = let h = asks c Keep e in omega arith

does : (c : After-advance-m) (m : Move) → c.advance-m.result ≡ m → next (St c) (B c) ≡ moved m (St c) (B c)
unfolding next
does c m e = ap (λ (x : Move). moved x (St c) (B c)) (sym c.advance-m.ensures ∙ e)

again : (c : After-advance-m) (m : Move) (t : Reader) → c.advance-m.result ≡ m → moved m (St c) (B c) ≡ record { state = t; event = none }
    → scan_from next t c.args.piece.now (c.loop-i.i + 1) ≡ Left c
again c m t e f = sym (from_goes next (St c) t c.args.piece.now c.loop-i.i c.loop-i-test.true (does c m e ∙ f)) ∙ c.loop-i.invariant.2

-- a byte is kept in the body, and a run of bytes behind it: the call goes on behind the run
behind : (c : After-advance-m) (held later : List ℕ) (first n j : ℕ) → c.advance-m.result ≡ Keep → c.loop-i.state.stage ≡ 1
    → moved Keep (St c) (B c) ≡ record { state = holding c.loop-i.state.stage first c.loop-i.state.len held; event = none }
    → scan_from next (filling first c.loop-i.state.len held) c.args.piece.now (c.loop-i.i + 1) ≡ scan_from next (filling n c.loop-i.state.len later) c.args.piece.now j
    → scan_from next (holding c.loop-i.state.stage n c.loop-i.state.len later) c.args.piece.now j ≡ Left c
behind c held later first n j e s f g =
    let p = c.args.piece.now in
    let l = c.loop-i in
    ap (λ (x : ℕ). scan_from next (holding x n l.state.len later) p j) s
    ∙ sym g
    ∙ ap (λ (x : ℕ). scan_from next (holding x first l.state.len held) p (l.i + 1)) (sym s)
    ∙ again c Keep _ e f

tells : (c : After-advance-m) (m : Move) (x : Event Message) (t : Reader) → c.advance-m.result ≡ m → moved m (St c) (B c) ≡ record { state = t; event = some x }
    → scan next (with_held c.args.state c.args.held.now) c.args.piece.now ≡ record { state = t; event = some x; used = c.loop-i.i + 1 }
tells c m x t e f =
    sym c.enter-entered.ensures.goes ∙ sym c.loop-i.invariant.2 ∙ from_tells next (St c) t x c.args.piece.now c.loop-i.i c.loop-i-test.true (does c m e ∙ f)

pub loop-i-init : goal.loop-i-init
loop-i-init c =
    let e = c.enter-entered in
    (e.ensures.within, range_of _ _ _ e.ensures.ranged, refl)

pub loop-i-preserved-in-Count : goal.loop-i-preserved-in-Count
unfolding moved
loop-i-preserved-in-Count c =
    let k = (goal.at.loop-i-preserved-in-Count c).After-advance-m in
    let e = c.in-Count.is in
    let h = asks k (Count _) e in
    (omega arith, start h.0 h.1 h.2, again k (Count _) _ e refl)

pub loop-i-preserved-in-Open : goal.loop-i-preserved-in-Open
unfolding moved
loop-i-preserved-in-Open c =
    let k = (goal.at.loop-i-preserved-in-Open c).After-advance-m in
    let e = c.in-Open.is in
    (omega arith, body refl (asks k (Open _) e) (omega arith), again k (Open _) _ e refl)

pub bounds-held-state : goal.bounds-held-state
bounds-held-state c =
    let h = kept (goal.at.bounds-held-state c).After-advance-m c.in-Keep.is in
    omega arith

pub fill-j-requires : goal.fill-j-requires
fill-j-requires c =
    let h = asks (goal.at.fill-j-requires c).After-advance-m Keep c.in-Keep.is in
    (omega arith, h.1, omega arith)

pub loop-i-preserved : goal.loop-i-preserved
unfolding moved
loop-i-preserved c =
    let k = (goal.at.loop-i-preserved c).After-advance-m in
    let e = c.in-Keep.is in
    let h = asks k Keep e in
    let f = c.fill-j.ensures in (
      f.within,
      body h.0 h.1 f.room,
      behind k _ _ _ _ _ e h.0 refl f.goes,
    )

pub returns-in-Close : goal.returns-in-Close
unfolding moved
returns-in-Close c =
    let k = (goal.at.returns-in-Close c).After-advance-m in
    let e = c.in-Close.is in
    record {
      fits = (asks k Close e).1;
      ranged = in_range_lem _ _ _ (start refl (omega arith) refl);
      scanned = tells k Close _ _ e refl;
    }

pub returns-in-Bad : goal.returns-in-Bad
unfolding moved
returns-in-Bad c =
    let k = (goal.at.returns-in-Bad c).After-advance-m in
    record {
      fits = tt;
      ranged = in_range_lem _ _ _ (start refl (omega arith) refl);
      scanned = tells k Bad _ _ c.in-Bad.is refl;
    }

pub returns : goal.returns
returns c =
    let l = c.loop-i in
    record {
      fits = tt;
      ranged = in_range_lem _ _ _ l.invariant.1;
      scanned = sym c.enter-entered.ensures.goes ∙ sym l.invariant.2 ∙ from_end next (with_held l.state l.held) c.args.piece.now l.i c.loop-i-test.false;
    }
