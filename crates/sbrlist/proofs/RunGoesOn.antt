-- A run goes on: by what `fill` took and `flush` printed, and by what `read_on` brought.
-- Assumes nothing.
use Prim.Native.Nat.{ℕ, ◌+◌, ◌-◌, ◌≤◌}
use mathlib.Core.Path.{◌≡◌, sym, ap, ap₂, ◌∙◌, subst}
use mathlib.Core.Bool.{Bool, false}
use mathlib.Core.List.{List, [], ◌++◌, append_assoc, append-nil}
use lib.ListN.{length, take, drop, take-append-drop}
use lib.Seq.{take_at, take-add, drop-drop}
use Rattle.stream.proofs.ListLaws.{drop_take}
use native.Mathlib.Omega.{arith}
use Rattle.numbers.proofs.Alike.{zero_is_one}
use Rattle.listing_text.specs.Lines.{title_line}
use Rattle.listing.specs.Steps.{IsFresh}
use Rattle.listing.specs.Inside.{Put}
use Rattle.listing.specs.declared.Listing.{Listing}
use Rattle.listing.specs.declared.Listed.{Listed}
use Rattle.listing.specs.declared.Heard.TheVariants.{End}
use Rattle.listing_whole.specs.Demands.{Prints}
use Rattle.sbrlist.specs.Run.{part, IsReadOn, IsFilled, Handed, Came, at_first, and_then, Ran, Printed}
use Rattle.sbrlist.specs.declared.Window.{Window}

-- ---- at first

pub ran_begins : (l : Listing) (lent later : List ℕ) (n : ℕ) → IsFresh l → Put title_line lent n later → Handed (take n later) → Ran [] false l
ran_begins l lent later n fresh put h =
    let header : take n later ≡ title_line = ap (take n) put.1 ∙ take_at title_line (drop (length title_line) lent) n (sym put.0) in
    record {
      first = l;
      fresh = fresh;
      gone = [];
      text = [];
      came = subst Came (header ∙ sym (append-nil title_line)) (at_first h);
      goes_on = λ rest more f p. p;
    }

-- ---- packets were taken, and their lines printed

module _ (hand : List ℕ) (ended : Bool) (l : Listing) (ran : Ran hand ended l) (lent later : List ℕ) (r : Listed) (f : IsFilled l hand ended lent r later)
    (h : Handed (take r.wrote later)) where
  stands : take r.wrote later ≡ f.text
  stands = ap (take r.wrote) f.put.1 ∙ take_at f.text (drop (length f.text) lent) r.wrote (sym f.put.0)

  came_then : Came (title_line ++ (ran.text ++ f.text))
  came_then = subst Came (append_assoc title_line ran.text f.text) (and_then ran.came (subst Handed stands h))

  joins : (rest : List ℕ) → (ran.gone ++ take r.used hand) ++ (drop r.used hand ++ rest) ≡ ran.gone ++ (hand ++ rest)
  joins rest =
      append_assoc ran.gone (take r.used hand) (drop r.used hand ++ rest)
      ∙ ap (λ (s : List ℕ). ran.gone ++ s) (sym (append_assoc (take r.used hand) (drop r.used hand) rest) ∙ ap (λ (s : List ℕ). s ++ rest) (take-append-drop r.used hand))

  pub ran_fills : (r.heard ≡ End → ⊥) → Ran (drop r.used hand) ended r.listing
  ran_fills on = record {
    first = ran.first;
    fresh = ran.fresh;
    gone = ran.gone ++ take r.used hand;
    text = ran.text ++ f.text;
    came = came_then;
    goes_on = λ rest more fl p.
        subst (λ (s : List ℕ). Prints ran.first s ((ran.text ++ f.text) ++ more)) (sym (joins rest))
        (subst (λ (s : List ℕ). Prints ran.first (ran.gone ++ (hand ++ rest)) s) (sym (append_assoc ran.text f.text more))
        (ran.goes_on rest (f.text ++ more) fl (f.goes_on on rest more fl p)));
  }

  -- the listing has ended
  pub ran_ends : (buffer : List ℕ) (from to : ℕ) → hand ≡ part from to buffer → r.heard ≡ End → Printed buffer
  ran_ends buffer from to e end = record {
    first = ran.first;
    fresh = ran.fresh;
    gone = ran.gone;
    from = from;
    to = to;
    ended = ended;
    text = ran.text ++ f.text;
    came = came_then;
    prints = λ rest fl.
        subst (λ (s : List ℕ). Prints ran.first (ran.gone ++ (s ++ rest)) (ran.text ++ f.text)) e (ran.goes_on rest f.text fl (f.ends end rest fl));
  }

-- ---- more was read

-- what is at hand now is what was, and more behind it
reads_more : (buffer later : List ℕ) (from to : ℕ) (r : Window) → IsReadOn buffer from to r later
    → part r.from r.to later ≡ part from to buffer ++ take (r.to - (to - from)) (drop (to - from) later)
reads_more buffer later from to r on =
    let whole : r.to - r.from ≡ (to - from) + (r.to - (to - from)) = omega (arith, on.at_front, on.longer) in
    ap₂ (λ (k m : ℕ). take k (drop m later)) whole on.at_front
    ∙ take-add (to - from) (r.to - (to - from)) later
    ∙ ap (λ (s : List ℕ). s ++ take (r.to - (to - from)) (drop (to - from) later)) on.kept

pub ran_reads : (buffer later : List ℕ) (from to : ℕ) (ended : Bool) (l : Listing) (r : Window) → ended ≡ false → Ran (part from to buffer) ended l
    → IsReadOn buffer from to r later → Ran (part r.from r.to later) r.ended l
ran_reads buffer later from to ended l r e ran on =
    let more = take (r.to - (to - from)) (drop (to - from) later) in
    let is = reads_more buffer later from to r on in
    let joins : (rest : List ℕ) → part r.from r.to later ++ rest ≡ part from to buffer ++ (more ++ rest) =
    λ rest. ap (λ (s : List ℕ). s ++ rest) is ∙ append_assoc (part from to buffer) more rest in
    record {
      first = ran.first;
      fresh = ran.fresh;
      gone = ran.gone;
      text = ran.text;
      came = ran.came;
      goes_on = λ rest t fl p.
          subst (λ (s : List ℕ). Prints ran.first (ran.gone ++ s) (ran.text ++ t)) (sym (joins rest))
          (ran.goes_on (more ++ rest) t (λ x. zero_is_one cc) (subst (λ (s : List ℕ). Prints l s t) (joins rest) p));
    }

-- ---- what is left of what is at hand

pub part_left : (buffer : List ℕ) (from to used : ℕ) → used ≤ to - from → drop used (part from to buffer) ≡ part (from + used) to buffer
part_left buffer from to used h =
    let n : to - from ≡ used + (to - (from + used)) = omega arith in
    ap (λ (k : ℕ). drop used (take k (drop from buffer))) n
    ∙ drop_take used (to - (from + used)) (drop from buffer)
    ∙ ap (take (to - (from + used))) (drop-drop used from buffer)
