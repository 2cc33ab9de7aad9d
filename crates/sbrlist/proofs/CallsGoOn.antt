-- Calls of `step` one behind the other, each on what is left of the input and of the buffer, are calls of a host that prints.
-- Assumes nothing.
use Prim.Native.Nat.{ℕ, ◌+◌, ◌-◌, ◌≤◌, ◌<◌}
use mathlib.Core.Path.{◌≡◌, refl, sym, ap, ◌∙◌, subst}
use mathlib.Core.Bool.{Bool, false}
use mathlib.Core.List.{List, [], ◌∷◌, ◌++◌, append_assoc}
use lib.ListN.{length, take, drop, length-take, length-drop, length-append}
use lib.Seq.{take_all, take_at, drop-drop, drop-append-le}
use native.Mathlib.Omega.{arith}
use native.Mathlib.Nat.{le_refl}
use borrow.Rule.Slice.PartMut.{put_mid}
use Rattle.numbers.proofs.Alike.{zero_is_one}
use Rattle.uplink.specs.Packet.{lead_length, piece_max}
use Rattle.listing.specs.Steps.{made, IsStep}
use Rattle.listing.specs.Inside.{Put}
use Rattle.listing.specs.declared.Listing.{Listing}
use Rattle.listing.specs.declared.Listed.{Listed}
use Rattle.listing.specs.declared.Heard.{Heard}
use Rattle.listing.specs.declared.Heard.TheVariants.{More, Packet as Took, End, Refused}
use Rattle.listing.proofs.StepMakes.{put_after}
use Rattle.listing_whole.specs.Demands.{Has, Prints, reads_on, takes, ends}
use Rattle.listing_whole.proofs.Demands.{gets_on, kept}
use Rattle.sbrlist.specs.Run.{Follows, Counts, IsFilled}

nil_of : (t : List ℕ) → 0 ≡ length t → t ≡ []
nil_of [] e = refl
nil_of (b ∷ bs) e = absurd (omega arith)

-- ---- one call

module _ (l : Listing) (front lent later : List ℕ) (ended : Bool) (r : Listed) (st : IsStep l front ended lent r later) where
  abbrev pub text_of : List ℕ
  text_of = (made l front ended (length lent)).text

  pub put_of : Put text_of lent r.wrote later
  put_of = (ap (λ (v : Listed). v.wrote) st.0, st.1)

  stands : take r.wrote later ≡ text_of
  stands = ap (take r.wrote) st.1 ∙ take_at text_of (drop (length text_of) lent) r.wrote (sym put_of.0)

  none_of : r.wrote ≡ 0 → text_of ≡ []
  none_of e = nil_of text_of (sym e ∙ put_of.0)

  pub wrote_fits : length later ≡ length lent → r.wrote ≤ length lent
  wrote_fits same =
      let both : length text_of + length (drop (length text_of) lent) ≡ length lent = sym (length-append text_of (drop (length text_of) lent)) ∙ sym (ap length st.1) ∙ same in
      omega (arith, put_of.0)

  has : (rest : List ℕ) → Follows ended rest → Has ended front (front ++ rest)
  has rest f = record { rest = rest; joins = refl; all = f }

  -- nothing was used or written
  idle : (rest more : List ℕ) (k : Listing) → r.used ≡ 0 → r.wrote ≡ 0 → Prints k (front ++ rest) more → Prints k (front ++ rest) (text_of ++ more)
  idle rest more k u w p = rw (none_of w) p

  call_goes_on : (r.heard ≡ End → ⊥) → (rest more : List ℕ) → Follows ended rest → Prints r.listing (drop r.used front ++ rest) more
      → Prints l (front ++ rest) (text_of ++ more)
  call_goes_on on rest more f p = go r.heard refl
    where
      go : (h : Heard) → r.heard ≡ h → Prints l (front ++ rest) (text_of ++ more)
      go Took e =
          subst (λ (t : List ℕ). Prints l (front ++ rest) (t ++ more)) stands
          (takes front lent later ended r (has rest f) st e
          (subst (λ (s : List ℕ). Prints r.listing s more) (sym (drop-append-le r.used front rest ((gets_on l front lent later ended r st).1 e).1)) p))
      go More e =
          let g = (gets_on l front lent later ended r st).0 e in
          let q = subst (λ (n : ℕ). Prints r.listing (drop n front ++ rest) more) g.3 p in
          idle rest more l g.3 g.4
          (reads_on front lent later r (record { rest = rest; joins = refl; all = λ x. zero_is_one cc }) (subst (λ (b : Bool). IsStep l front b lent r later) g.0 st) e q)
      go End e = absurd (on e)
      go (Refused why) e =
          let k = kept l front lent later ended r why st e in
          let q = subst (λ (n : ℕ). Prints r.listing (drop n front ++ rest) more) k.1 p in
          idle rest more l k.1 k.2 (subst (λ (x : Listing). Prints x (front ++ rest) more) k.0 q)

  call_ends : r.heard ≡ End → (rest : List ℕ) → Follows ended rest → Prints l (front ++ rest) text_of
  call_ends e rest f = subst (λ (t : List ℕ). Prints l (front ++ rest) t) stands (ends front lent later ended r (has rest f) st e)

-- ---- calls one behind the other

-- so far, from the listing l₀ on, of the input and the buffer that were lent
pub record Going (l₀ : Listing) (input : List ℕ) (ended : Bool) (lent : List ℕ) (l : Listing) (used at : ℕ) (out : List ℕ) : Type 0 where
  pub text : List ℕ
  pub put : Put text lent at out
  pub goes_on : (rest more : List ℕ) → Follows ended rest → Prints l (drop used input ++ rest) more → Prints l₀ (input ++ rest) (text ++ more)

pub begins : (l : Listing) (input : List ℕ) (ended : Bool) (lent : List ℕ) → Going l input ended lent l 0 0 lent
begins l input ended lent = record { text = []; put = (refl, refl); goes_on = λ rest more f p. p }

module _ (l₀ : Listing) (input : List ℕ) (ended : Bool) (lent : List ℕ) (l : Listing) (used at : ℕ) (out : List ℕ) (g : Going l₀ input ended lent l used at out)
    (r : Listed) (later : List ℕ) (st : IsStep l (take (length input - used) (drop used input)) ended (take (length out - at) (drop at out)) r later) where
  abbrev front : List ℕ
  front = take (length input - used) (drop used input)

  abbrev room : List ℕ
  room = take (length out - at) (drop at out)

  abbrev text : List ℕ
  text = text_of l front room later ended r st

  abbrev pub out_then : List ℕ
  out_then = put_mid at (length out - at) out later

  all_left : front ≡ drop used input
  all_left = take_all (length input - used) (drop used input) (simp length-drop (le_refl _))

  put_then : Put (g.text ++ text) lent (at + r.wrote) out_then
  put_then = put_after g.text text lent out later at r.wrote g.put (put_of l front room later ended r st)

  left_then : drop r.used front ≡ drop (used + r.used) input
  left_then = ap (drop r.used) all_left ∙ drop-drop r.used used input

  pub goes_then : (r.heard ≡ End → ⊥) → (rest more : List ℕ) → Follows ended rest → Prints r.listing (drop (used + r.used) input ++ rest) more
      → Prints l₀ (input ++ rest) ((g.text ++ text) ++ more)
  goes_then on rest more f p =
      let q = subst (λ (s : List ℕ). Prints r.listing (s ++ rest) more) (sym left_then) p in
      let c = call_goes_on l front room later ended r st on rest more f q in
      subst (λ (t : List ℕ). Prints l₀ (input ++ rest) t) (sym (append_assoc g.text text more))
      (g.goes_on rest (text ++ more) f (subst (λ (s : List ℕ). Prints l (s ++ rest) (text ++ more)) all_left c))

  pub going_then : (r.heard ≡ End → ⊥) → Going l₀ input ended lent r.listing (used + r.used) (at + r.wrote) out_then
  going_then on = record { text = g.text ++ text; put = put_then; goes_on = goes_then on }

  abbrev pub filled : Listed
  filled = record { listing = r.listing; heard = r.heard; used = used + r.used; wrote = at + r.wrote }

  -- by what is heard of the call
  abbrev Known : Heard → Type 0
  Known h = (used + r.used ≤ length input) × Counts l₀.packets r.listing.packets (used + r.used)
      × (h ≡ More → (ended ≡ false) × (length input - (used + r.used) < lead_length + piece_max)) × (h ≡ Took → l₀.packets < r.listing.packets)

  pub known_then : used ≤ length input → Counts l₀.packets l.packets used → Known r.heard
  known_then u k = go r.heard refl
    where
      n : length front ≡ length input - used
      n = simp (length-take, length-drop) (omega arith)

      go : (h : Heard) → r.heard ≡ h → Known h
      go Took e =
          let t = (gets_on l front room later ended r st).1 e in
          (omega (arith, t.1, n), (omega (arith, k.0, t.3), (λ s. omega (arith, k.0, t.3)), λ s. omega (arith, t.2, t.3)), (λ s. zero_is_one cc), λ s. omega (arith, k.0, t.3))
      go More e =
          let t = (gets_on l front room later ended r st).0 e in
          let same : r.listing.packets ≡ l.packets = ap (λ (x : Listing). x.packets) t.2 in
          (omega (arith, t.3), (omega (arith, k.0), (λ s. omega (arith, k.1 (sym same ∙ s), t.3)), λ s. omega (arith, k.2 (omega arith))), (λ s. (t.0, omega (arith, t.1, t.3, n))), λ s. zero_is_one cc)
      go End e =
          let t = (gets_on l front room later ended r st).2 e in
          let same : r.listing.packets ≡ l.packets = ap (λ (x : Listing). x.packets) t.1 in
          (omega (arith, t.0), (omega (arith, k.0), (λ s. omega (arith, k.1 (sym same ∙ s), t.0)), λ s. omega (arith, k.2 (omega arith))), (λ s. zero_is_one cc), λ s. zero_is_one cc)
      go (Refused why) e =
          let t = kept l front room later ended r why st e in
          let same : r.listing.packets ≡ l.packets = ap (λ (x : Listing). x.packets) t.0 in
          (omega (arith, t.1), (omega (arith, k.0), (λ s. omega (arith, k.1 (sym same ∙ s), t.1)), λ s. omega (arith, k.2 (omega arith))), (λ s. zero_is_one cc), λ s. zero_is_one cc)

  pub filled_then : used ≤ length input → Counts l₀.packets l.packets used → IsFilled l₀ input ended lent filled out_then
  filled_then u k =
      let w = known_then u k in
      record {
        text = g.text ++ text;
        put = put_then;
        used = w.0;
        goes_on = goes_then;
        ends = λ e rest f. g.goes_on rest text f (subst (λ (s : List ℕ). Prints l (s ++ rest) text) all_left (call_ends l front room later ended r st e rest f));
        wants = w.2;
        counts = w.1;
        counted = w.3;
      }
