-- `reader::judge_frame`: by the test that fails first.
use Rattle.drives.specs.Machine.{held_max}
use Rattle.drives.specs.Rules.{sized}
use Rattle.drives.specs.Reader.{told}
use Rattle.drives.proofs.FrameLimits.{sized_bounds}
use Rattle.drives.proofs.JudgedIsDelivered.{all_there, judged_length, judged_character, judged_sum, judged_message}
use native.Mathlib.Omega.{arith}
use Prim.Native.Nat.{ℕ, min, ◌+◌, ◌≤◌}
use mathlib.Core.Path.{◌≡◌, sym, ◌∙◌, ap}
use mathlib.Core.Bool.{true}
use mathlib.Core.List.{List}
use lib.ListN.{length}
use Rattle.drives.proofs.reader.judge_frame.Goals as goal

-- where the length is right there are at least five characters, and all of them are at hand
bounds : (opening count : ℕ) (held : List ℕ) → min count held_max ≤ length held → sized opening (count + 2) ≡ true → (5 ≤ count) × (count ≤ length held)
bounds opening count held r h = ((sized_bounds opening count h).0, all_there opening count held r h)

pub returns-then-not-sized : goal.returns-then-not-sized
returns-then-not-sized c =
    let a = c.args in
    ap told c.damaged.ensures
    ∙ judged_length a.opening a.count a.held.now (sym c.sized.ensures ∙ c.if-not-sized.true)

pub proper-requires : goal.proper-requires
proper-requires c = let a = c.args in bounds a.opening a.count a.held.now c.requires.1 (sym c.sized.ensures ∙ c.if-not-sized.false)

pub returns-then-not-proper : goal.returns-then-not-proper
returns-then-not-proper c =
    let a = c.args in
    ap told c.damaged-then-not-proper.ensures
    ∙ judged_character a.opening a.count a.held.now (sym c.sized.ensures ∙ c.if-not-sized.false) (sym c.proper.ensures ∙ c.if-not-proper.true)

pub agrees-requires : goal.agrees-requires
agrees-requires c = let a = c.args in bounds a.opening a.count a.held.now c.requires.1 (sym c.sized.ensures ∙ c.if-not-sized.false)

pub returns-then-not-agrees : goal.returns-then-not-agrees
returns-then-not-agrees c =
    let a = c.args in
    ap told c.damaged-then-not-agrees.ensures
    ∙ judged_sum a.opening a.count a.held.now (sym c.sized.ensures ∙ c.if-not-sized.false) (sym c.proper.ensures ∙ c.if-not-proper.false) (sym c.agrees.ensures ∙ c.if-not-agrees.true)

pub bounds-held-0 : goal.bounds-held-0
bounds-held-0 c =
    let a = c.args in
    let b = bounds a.opening a.count a.held.now c.requires.1 (sym c.sized.ensures ∙ c.if-not-sized.false) in
    omega arith

pub bounds-held-1 : goal.bounds-held-1
bounds-held-1 c =
    let a = c.args in
    let b = bounds a.opening a.count a.held.now c.requires.1 (sym c.sized.ensures ∙ c.if-not-sized.false) in
    omega arith

pub bounds-held-2 : goal.bounds-held-2
bounds-held-2 c =
    let a = c.args in
    let b = bounds a.opening a.count a.held.now c.requires.1 (sym c.sized.ensures ∙ c.if-not-sized.false) in
    omega arith

pub overflow_sub-header : goal.overflow_sub-header
overflow_sub-header c =
    let a = c.args in
    let b = bounds a.opening a.count a.held.now c.requires.1 (sym c.sized.ensures ∙ c.if-not-sized.false) in
    omega arith

pub returns : goal.returns
returns c =
    let a = c.args in
    judged_message a.opening a.count a.held.now (sym c.sized.ensures ∙ c.if-not-sized.false) (sym c.proper.ensures ∙ c.if-not-proper.false) c.requires.1
    (sym c.agrees.ensures ∙ c.if-not-agrees.false)
