-- `list`: the run goes on by what `fill`, `flush` and `read_on` did, as far as it goes; `left` falls with each turn.
use Rattle.std.proofs.Common.{◌≡◌, ℕ, ◌+◌, ◌-◌, ◌≤◌, Bool, false, List, length, take, refl, sym, subst, ◌∙◌, arith}
use Rattle.numbers.proofs.Alike.{zero_is_one}
use Rattle.listing.specs.declared.Listing.{Listing}
use Rattle.listing.specs.declared.Listed.{Listed}
use Rattle.listing.specs.declared.Heard.TheVariants.{End}
use Rattle.sbrlist.specs.Run.{part, IsFilled, Handed, Ran, Printed}
use Rattle.sbrlist.proofs.BufferParts.{length_part}
use Rattle.sbrlist.proofs.RunGoesOn.{ran_begins, ran_fills, ran_ends, ran_reads, part_left}
use Rattle.sbrlist.proofs.list.Goals as goal
use Rattle.sbrlist.proofs.list.Goals.{After-fill-s}

-- what is known of a turn's call of `fill`
module _ (g : _) (c : After-fill-s g) where
  abbrev l : Listing
  l = c.loop-heard.s.listing

  abbrev input : List ℕ
  input = c.loop-heard.input

  abbrev from : ℕ
  from = c.loop-heard.from

  abbrev to : ℕ
  to = c.loop-heard.to

  abbrev ended : Bool
  ended = c.loop-heard.ended

  abbrev hand : List ℕ
  hand = part from to input

  abbrev out : List ℕ
  out = c.loop-heard.out

  abbrev later : List ℕ
  later = c.fill-s.new.out

  abbrev after : Listed
  after = c.fill-s.result

  filled : IsFilled l hand ended out after later
  filled = c.fill-s.ensures

  at_hand : length hand ≡ to - from
  at_hand = length_part input from to c.loop-heard.invariant.0 c.loop-heard.invariant.1

  used : after.used ≤ to - from
  used = omega (arith, filled.used, at_hand)

  -- what was filled in was written: the run goes on, or has ended
  module _ (h : Handed (take after.wrote later)) where
    goes_on : (after.heard ≡ End → ⊥) → Ran (part (from + after.used) to input) ended after.listing
    goes_on on =
        subst (λ (s : List ℕ). Ran s ended after.listing) (part_left input from to after.used used)
        (ran_fills hand ended l c.loop-heard.invariant.3 out later after filled h on)

    ends : after.heard ≡ End → Printed input
    ends e = ran_ends hand ended l c.loop-heard.invariant.3 out later after filled h input from to refl e

pub loop-heard-init : goal.loop-heard-init
loop-heard-init g c = (
  omega arith,
  omega arith,
  refl,
  subst (Ran _ false) (sym c.none_taken-s.ensures)
      (ran_begins _ c.args.out.now _ _ c.fresh.ensures c.start-header.ensures c.in_ok-flush.ensures.handed),
)

pub loop-heard-preserved-in-Packet : goal.loop-heard-preserved-in-Packet
loop-heard-preserved-in-Packet g c =
    let k = (goal.at.loop-heard-preserved-in-Packet g c).After-fill-s in (
      omega (arith, used g k),
      c.loop-heard.invariant.1,
      c.loop-heard.invariant.2,
      goes_on g k c.in_ok-flush-2.ensures.handed (λ e. zero_is_one (let t = c.in-Packet.is in cc)),
    )

pub loop-heard-preserved : goal.loop-heard-preserved
loop-heard-preserved g c =
    let k = (goal.at.loop-heard-preserved g c).After-fill-s in
    let wants = (filled g k).wants c.in-More.is in
    let on = c.in_ok-w-in-More.ensures.read in (
      omega (arith, on.at_front, on.longer),
      omega (arith, on.inside, c.read_on.auto.input),
      c.read_on.auto.input ∙ c.loop-heard.invariant.2,
      ran_reads (input g k) c.read_on.new.input (from g k + (after g k).used) (to g k) (ended g k) (after g k).listing c.in_ok-w-in-More.w wants.0
          (goes_on g k c.in_ok-flush-2.ensures.handed (λ e. zero_is_one (let t = c.in-More.is in cc))) on,
    )

pub returns-in-End : goal.returns-in-End
returns-in-End g c =
    let k = (goal.at.returns-in-End g c).After-fill-s in
    ends g k c.in_ok-flush-2.ensures.handed c.in-End.is
