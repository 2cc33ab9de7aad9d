-- `fill`: its calls of `step` go on from each other; packets are counted, so that it ends.
use Rattle.std.proofs.Common.{◌≡◌, ℕ, ◌+◌, ◌-◌, ◌<◌, ◌≤◌, Bool, List, length, take, drop, arith, length-take, length-drop}
use Rattle.listing.specs.Steps.{packets_max, IsStep}
use Rattle.listing.specs.declared.Listing.{Listing}
use Rattle.listing.specs.declared.Listed.{Listed}
use Rattle.listing.specs.declared.Heard.TheVariants.{Packet as Took}
use Rattle.listing_whole.proofs.Demands.{gets_on}
use Rattle.numbers.proofs.Alike.{zero_is_one}
use Rattle.sbrlist.specs.Run.{Counts, IsFilled}
use Rattle.sbrlist.proofs.CallsGoOn.{wrote_fits, Going, going_then, known_then, filled_then, filled, out_then}
use borrow.Rule.Slice.PartMut.{same_len_mid}
use Rattle.sbrlist.proofs.fill.Goals as goal
use Rattle.sbrlist.proofs.fill.Goals.{After-step-s}

-- what is known of a turn's call
module _ (c : After-step-s) where
  abbrev l₀ : Listing
  l₀ = c.args.s.listing

  abbrev l : Listing
  l = c.loop.s.listing

  abbrev input : List ℕ
  input = c.args.input.now

  abbrev ended : Bool
  ended = c.args.ended

  abbrev lent : List ℕ
  lent = c.args.out.now

  abbrev used : ℕ
  used = c.loop.used

  abbrev at : ℕ
  at = c.loop.at

  abbrev out : List ℕ
  out = c.loop.out

  abbrev later : List ℕ
  later = c.step-s.new.out

  abbrev after : Listed
  after = c.step-s.result

  stepped : IsStep l (take (length input - used) (drop used input)) ended (take (length out - at) (drop at out)) after later
  stepped = c.step-s.ensures

  abbrev going : Going l₀ input ended lent l used at out
  going = c.loop.invariant.3

  abbrev out_of : List ℕ
  out_of = out_then l₀ input ended lent l used at out going after later stepped

  abbrev filled_of : Listed
  filled_of = filled l₀ input ended lent l used at out going after later stepped

  known : (used + after.used ≤ length input) × Counts l₀.packets after.listing.packets (used + after.used)
  known = let k = known_then l₀ input ended lent l used at out going after later stepped c.loop.invariant.0 c.loop.invariant.2 in (k.0, k.1)

  same_out : length out_of ≡ length out
  same_out = same_len_mid at (length out - at) out later c.step-s.auto.out

  wrote : at + after.wrote ≤ length out
  wrote =
      let n : length (take (length out - at) (drop at out)) ≡ length out - at = simp (length-take, length-drop) (omega (arith, c.loop.invariant.1)) in
      let w : after.wrote ≤ length (take (length out - at) (drop at out)) = wrote_fits l (take (length input - used) (drop used input)) (take (length out - at) (drop at out)) later ended after stepped c.step-s.auto.out in
      omega (arith, c.loop.invariant.1)

  took : after.heard ≡ Took → (l.packets < packets_max) × (after.listing.packets ≡ l.packets + 1)
  took e =
      let h = (gets_on l (take (length input - used) (drop used input)) (take (length out - at) (drop at out)) later ended after stepped).1 e in
      (h.2, h.3)

  ended_up : IsFilled l₀ input ended lent filled_of out_of
  ended_up = filled_then l₀ input ended lent l used at out going after later stepped c.loop.invariant.0 c.loop.invariant.2

pub overflow_add-used : goal.overflow_add-used
overflow_add-used c = let k = (goal.at.overflow_add-used c).After-step-s in omega (arith, (known k).0)

pub loop-smaller : goal.loop-smaller
loop-smaller c =
    let k = took (goal.at.loop-smaller c).After-step-s c.in-Packet.is in
    omega (arith, k.0, k.1)

pub loop-preserved : goal.loop-preserved
loop-preserved c =
    let k = (goal.at.loop-preserved c).After-step-s in (
      (known k).0,
      omega (arith, same_out k, wrote k),
      (known k).1,
      going_then (l₀ k) (input k) (ended k) (lent k) (l k) (used k) (at k) (out k) (going k) (after k) (later k) (stepped k) (λ e. zero_is_one (let t = c.in-Packet.is in cc)),
    )

pub returns-in-More : goal.returns-in-More
returns-in-More c = ended_up (goal.at.returns-in-More c).After-step-s

pub returns-then-out-at-lt-ROOM : goal.returns-then-out-at-lt-ROOM
returns-then-out-at-lt-ROOM c = ended_up (goal.at.returns-then-out-at-lt-ROOM c).After-step-s
