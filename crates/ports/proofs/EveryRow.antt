-- THE ROWS OF THE TABLE: what is shown of each row, once, and of all of them together. Everything else goes by these, for every row alike.
-- Assumes nothing.
use Prim.Native.Nat.{ℕ, zero, suc, ◌≤◌}
use mathlib.Core.Path.{◌≡◌, refl, ap, ◌∙◌}
use mathlib.Core.Bool.{true, cond}
use mathlib.Core.Option.{some}
use mathlib.Core.List.{List}
use lib.Dec.{eqb}
use native.Mathlib.Omega.{arith}
use Rattle.numbers.proofs.Alike.{zero_is_one}
use Rattle.answers.specs.Refusal.{number as refusalNumber}
use Rattle.answers.specs.declared.Refusal.{Refusal}
use Rattle.stream.specs.Event.{refuses}
use Rattle.stream.specs.Call.{retold}
use Rattle.stream.proofs.FamilyFacts.{Facts}
use Rattle.comlynx.specs.Machine as ComlynxMachine
use Rattle.comlynx.specs.Reader as ComlynxReader
use Rattle.comlynx.specs.declared.reader.Reader as Comlynx
use Rattle.comlynx.specs.declared.reader.Answer as ComlynxAnswer
use Rattle.comlynx.specs.declared.reader.Answer.TheVariants as OfComlynx
use Rattle.comlynx.proofs.FamilyFacts as ComlynxFacts
use Rattle.comlynx.proofs.One as ComlynxOne
use Rattle.eversolar.specs.Machine as EversolarMachine
use Rattle.eversolar.specs.Reader as EversolarReader
use Rattle.eversolar.specs.declared.reader.Reader as Eversolar
use Rattle.eversolar.specs.declared.reader.Answer as EversolarAnswer
use Rattle.eversolar.specs.declared.reader.Answer.TheVariants as OfEversolar
use Rattle.eversolar.proofs.FamilyFacts as EversolarFacts
use Rattle.eversolar.proofs.One as EversolarOne
use Rattle.fronius.specs.Machine as FroniusMachine
use Rattle.fronius.specs.Reader as FroniusReader
use Rattle.fronius.specs.declared.reader.Reader as Fronius
use Rattle.fronius.specs.declared.reader.Answer as FroniusAnswer
use Rattle.fronius.specs.declared.reader.Answer.TheVariants as OfFronius
use Rattle.fronius.proofs.FamilyFacts as FroniusFacts
use Rattle.fronius.proofs.One as FroniusOne
use Rattle.drives.specs.Machine as DrivesMachine
use Rattle.drives.specs.Reader as DrivesReader
use Rattle.drives.specs.declared.reader.Reader as Drives
use Rattle.drives.specs.declared.reader.Answer as DrivesAnswer
use Rattle.drives.specs.declared.reader.Answer.TheVariants as OfDrives
use Rattle.drives.proofs.FamilyFacts as DrivesFacts
use Rattle.drives.proofs.One as DrivesOne
use Rattle.ports.specs.Ports.{Seat, comlynx_seat, eversolar_seat, fronius_seat, drives_seat, comlynx_answer, eversolar_answer, fronius_answer, drives_answer, number as answerNumber, seats, port_most, sum_over, row_of, seat_at}
use Rattle.ports.specs.declared.Ports.{Ports}
use Rattle.ports.specs.declared.Answer.TheVariants.{Refused}

-- ---- every row

-- what holds of each row holds of every row
pub each_seat : (P : Seat → Type 0) → P comlynx_seat → P eversolar_seat → P fronius_seat → P drives_seat → (seat : Seat) → P seat
each_seat P a b c d comlynx_seat = a
each_seat P a b c d eversolar_seat = b
each_seat P a b c d fronius_seat = c
each_seat P a b c d drives_seat = d

-- ---- what is shown of a row

pub record RowFacts (seat : Seat) : Type 1 where
  -- its port has it, is one of the ports, and it is among all rows once
  pub own_seat : seat_at (row_of seat).port ≡ some seat
  pub span : (1 ≤ (row_of seat).port) × ((row_of seat).port ≤ port_most)
  pub once : sum_over seats (λ other. cond (eqb (row_of seat).port (row_of other).port) 1 0) ≡ 1
  -- a reader put there is there, the one there may be put there, the last one put there stays, and the others stay
  pub got : (ports : Ports) (s : (row_of seat).family.State) → (row_of seat).get ((row_of seat).put ports s) ≡ s
  pub puts_own : (ports : Ports) → (row_of seat).put ports ((row_of seat).get ports) ≡ ports
  pub puts_again : (ports : Ports) (s t : (row_of seat).family.State) → (row_of seat).put ((row_of seat).put ports s) t ≡ (row_of seat).put ports t
  pub others : (other : Seat) (ports : Ports) (s : (row_of seat).family.State) → (seat ≡ other → ⊥) → (row_of other).get ((row_of seat).put ports s) ≡ (row_of other).get ports
  -- the family's facts speak of the machine of its row and of its range, and its promise fixes its result
  pub facts : Facts (row_of seat).family
  pub machine : facts.next ≡ (row_of seat).next
  pub ranges : facts.in_range ≡ (row_of seat).in_range
  pub fresh_in_range : (row_of seat).in_range (row_of seat).family.fresh ≡ true
  pub one : (s : (row_of seat).family.State) (piece lent a b : List ℕ) (u v : (row_of seat).family.Result)
      → (row_of seat).family.Steps s piece lent u a → (row_of seat).family.Steps s piece lent v b → (u ≡ v) × (a ≡ b)
  -- what its result holds is what a host sees
  pub reader : (r : (row_of seat).family.Result) (later : List ℕ) → ((row_of seat).family.seen r later).state ≡ (row_of seat).reader r
  pub used : (r : (row_of seat).family.Result) (later : List ℕ) → ((row_of seat).family.seen r later).used ≡ (row_of seat).used r
  pub number : (r : (row_of seat).family.Result) (later : List ℕ) → answerNumber ((row_of seat).answer r) ≡ ((row_of seat).family.seen r later).number
  pub refusal : (r : (row_of seat).family.Result) (later : List ℕ) (why : Refusal) → (row_of seat).answer r ≡ Refused why
      → ((row_of seat).family.seen r later).told ≡ refuses (refusalNumber why)

-- ---- ComLynx

comlynx_number : (a : ComlynxAnswer.Answer) → answerNumber (comlynx_answer a) ≡ ComlynxReader.number a
comlynx_number OfComlynx.Done = refl
comlynx_number (OfComlynx.Message h) = refl
comlynx_number (OfComlynx.Damaged what lost) = refl
comlynx_number (OfComlynx.Refused why) = refl

comlynx_refusal : (a : ComlynxAnswer.Answer) (later : List ℕ) (why : Refusal) → comlynx_answer a ≡ Refused why
    → retold (λ h. ComlynxReader.join h later) (ComlynxReader.told a) ≡ refuses (refusalNumber why)
comlynx_refusal OfComlynx.Done later why e = zero_is_one cc
comlynx_refusal (OfComlynx.Message m) later why e = zero_is_one cc
comlynx_refusal (OfComlynx.Damaged what lost) later why e = zero_is_one cc
comlynx_refusal (OfComlynx.Refused reason) later why e = let same : reason ≡ why = cc in ap (λ (w : Refusal). refuses (refusalNumber w)) same

comlynx_row : RowFacts comlynx_seat
unfolding seat_at ComlynxMachine.in_range
comlynx_row = record {
  own_seat = refl;
  span = omega arith;
  once = refl;
  got = λ ports s. refl;
  puts_own = λ ports. refl;
  puts_again = λ ports s t. refl;
  others = each_seat _ (λ ports s n. absurd (n refl)) (λ ports s n. refl) (λ ports s n. refl) (λ ports s n. refl);
  facts = ComlynxFacts.facts;
  machine = ComlynxFacts.machine;
  ranges = ComlynxFacts.ranges;
  fresh_in_range = refl;
  one = ComlynxOne.step_one;
  reader = λ r later. refl;
  used = λ r later. refl;
  number = λ r later. comlynx_number r.answer;
  refusal = λ r. comlynx_refusal r.answer;
}

-- ---- Eversolar

eversolar_number : (a : EversolarAnswer.Answer) → answerNumber (eversolar_answer a) ≡ EversolarReader.number a
eversolar_number OfEversolar.Done = refl
eversolar_number (OfEversolar.Message h) = refl
eversolar_number (OfEversolar.Damaged what lost) = refl
eversolar_number (OfEversolar.Refused why) = refl

eversolar_refusal : (a : EversolarAnswer.Answer) (later : List ℕ) (why : Refusal) → eversolar_answer a ≡ Refused why
    → retold (λ h. EversolarReader.join h later) (EversolarReader.told a) ≡ refuses (refusalNumber why)
eversolar_refusal OfEversolar.Done later why e = zero_is_one cc
eversolar_refusal (OfEversolar.Message m) later why e = zero_is_one cc
eversolar_refusal (OfEversolar.Damaged what lost) later why e = zero_is_one cc
eversolar_refusal (OfEversolar.Refused reason) later why e = let same : reason ≡ why = cc in ap (λ (w : Refusal). refuses (refusalNumber w)) same

eversolar_row : RowFacts eversolar_seat
unfolding seat_at EversolarMachine.in_range
eversolar_row = record {
  own_seat = refl;
  span = omega arith;
  once = refl;
  got = λ ports s. refl;
  puts_own = λ ports. refl;
  puts_again = λ ports s t. refl;
  others = each_seat _ (λ ports s n. refl) (λ ports s n. absurd (n refl)) (λ ports s n. refl) (λ ports s n. refl);
  facts = EversolarFacts.facts;
  machine = EversolarFacts.machine;
  ranges = EversolarFacts.ranges;
  fresh_in_range = refl;
  one = EversolarOne.step_one;
  reader = λ r later. refl;
  used = λ r later. refl;
  number = λ r later. eversolar_number r.answer;
  refusal = λ r. eversolar_refusal r.answer;
}

-- ---- Fronius

fronius_number : (a : FroniusAnswer.Answer) → answerNumber (fronius_answer a) ≡ FroniusReader.number a
fronius_number OfFronius.Done = refl
fronius_number (OfFronius.Message h) = refl
fronius_number (OfFronius.Damaged what lost) = refl
fronius_number (OfFronius.Refused why) = refl

fronius_refusal : (a : FroniusAnswer.Answer) (later : List ℕ) (why : Refusal) → fronius_answer a ≡ Refused why
    → retold (λ h. FroniusReader.join h later) (FroniusReader.told a) ≡ refuses (refusalNumber why)
fronius_refusal OfFronius.Done later why e = zero_is_one cc
fronius_refusal (OfFronius.Message m) later why e = zero_is_one cc
fronius_refusal (OfFronius.Damaged what lost) later why e = zero_is_one cc
fronius_refusal (OfFronius.Refused reason) later why e = let same : reason ≡ why = cc in ap (λ (w : Refusal). refuses (refusalNumber w)) same

fronius_row : RowFacts fronius_seat
unfolding seat_at FroniusMachine.in_range
fronius_row = record {
  own_seat = refl;
  span = omega arith;
  once = refl;
  got = λ ports s. refl;
  puts_own = λ ports. refl;
  puts_again = λ ports s t. refl;
  others = each_seat _ (λ ports s n. refl) (λ ports s n. refl) (λ ports s n. absurd (n refl)) (λ ports s n. refl);
  facts = FroniusFacts.facts;
  machine = FroniusFacts.machine;
  ranges = FroniusFacts.ranges;
  fresh_in_range = refl;
  one = FroniusOne.step_one;
  reader = λ r later. refl;
  used = λ r later. refl;
  number = λ r later. fronius_number r.answer;
  refusal = λ r. fronius_refusal r.answer;
}

-- ---- Drives

drives_number : (a : DrivesAnswer.Answer) → answerNumber (drives_answer a) ≡ DrivesReader.number a
drives_number OfDrives.Done = refl
drives_number (OfDrives.Message h) = refl
drives_number (OfDrives.Damaged what lost) = refl
drives_number (OfDrives.Refused why) = refl

drives_refusal : (a : DrivesAnswer.Answer) (later : List ℕ) (why : Refusal) → drives_answer a ≡ Refused why
    → retold (λ h. DrivesReader.join h later) (DrivesReader.told a) ≡ refuses (refusalNumber why)
drives_refusal OfDrives.Done later why e = zero_is_one cc
drives_refusal (OfDrives.Message m) later why e = zero_is_one cc
drives_refusal (OfDrives.Damaged what lost) later why e = zero_is_one cc
drives_refusal (OfDrives.Refused reason) later why e = let same : reason ≡ why = cc in ap (λ (w : Refusal). refuses (refusalNumber w)) same

drives_row : RowFacts drives_seat
unfolding seat_at DrivesMachine.in_range
drives_row = record {
  own_seat = refl;
  span = omega arith;
  once = refl;
  got = λ ports s. refl;
  puts_own = λ ports. refl;
  puts_again = λ ports s t. refl;
  others = each_seat _ (λ ports s n. refl) (λ ports s n. refl) (λ ports s n. refl) (λ ports s n. absurd (n refl));
  facts = DrivesFacts.facts;
  machine = DrivesFacts.machine;
  ranges = DrivesFacts.ranges;
  fresh_in_range = refl;
  one = DrivesOne.step_one;
  reader = λ r later. refl;
  used = λ r later. refl;
  number = λ r later. drives_number r.answer;
  refusal = λ r. drives_refusal r.answer;
}

-- ---- all of them together

pub facts_of : (seat : Seat) → RowFacts seat
facts_of comlynx_seat = comlynx_row
facts_of eversolar_seat = eversolar_row
facts_of fronius_seat = fronius_row
facts_of drives_seat = drives_row

-- the ports are their readers, and nothing else
together : {a b : Comlynx.Reader} {c d : Eversolar.Reader} {e f : Fronius.Reader} {g h : Drives.Reader} → a ≡ b → c ≡ d → e ≡ f → g ≡ h
    → ◌≡◌ {A = Ports} (record { comlynx = a; eversolar = c; fronius = e; drives = g }) (record { comlynx = b; eversolar = d; fronius = f; drives = h })
together {a} {b} {c} {d} {e} {f} {g} {h} x y z w =
    ap {B = Ports} (λ (v : Comlynx.Reader). record { comlynx = v; eversolar = c; fronius = e; drives = g }) x
    ∙ ap {B = Ports} (λ (v : Eversolar.Reader). record { comlynx = b; eversolar = v; fronius = e; drives = g }) y
    ∙ ap {B = Ports} (λ (v : Fronius.Reader). record { comlynx = b; eversolar = d; fronius = v; drives = g }) z
    ∙ ap {B = Ports} (λ (v : Drives.Reader). record { comlynx = b; eversolar = d; fronius = f; drives = v }) w

pub whole : (a b : Ports) → ((seat : Seat) → (row_of seat).get a ≡ (row_of seat).get b) → a ≡ b
whole a b same = together (same comlynx_seat) (same eversolar_seat) (same fronius_seat) (same drives_seat)

-- a port that has a row
abbrev pub OnSeat : ℕ → Type 0
OnSeat port = (seat : Seat) × ((row_of seat).port ≡ port)

-- each of the ports has one
pub ported : (port : ℕ) → 1 ≤ port → port ≤ port_most → OnSeat port
ported zero h k = absurd (omega arith)
ported (suc zero) h k = (comlynx_seat, refl)
ported (suc (suc zero)) h k = (eversolar_seat, refl)
ported (suc (suc (suc zero))) h k = (fronius_seat, refl)
ported (suc (suc (suc (suc zero)))) h k = (drives_seat, refl)
ported (suc (suc (suc (suc (suc port))))) h k = absurd (omega arith)
