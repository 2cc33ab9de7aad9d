-- What an answer 0 of reader or writer says of each test, and the bytes that such an answer stands on. Assumes nothing.
use Prim.Native.Nat.{ℕ, zero, suc, ◌+◌, ◌*◌, ◌/◌, ◌%◌, ◌≤◌, ◌<◌}
use mathlib.Core.Path.{◌≡◌, refl, sym, ap, ◌∙◌}
use mathlib.Core.Logic.{◌⊎◌, inl, inr, ◌↔◌}
use mathlib.Core.List.{List, [], ◌∷◌, ◌++◌}
use mathlib.Core.Bool.{Bool, true, false, cond, ◌&&◌, ◌||◌}
use native.Mathlib.Nat.{add-zero, div-add-mod, div-eq_of_lt, mod-eq_of_lt}
use native.Mathlib.Omega.{arith}
use lib.ListN.{length, get_or, take, drop, length-append, length-drop, take-append-drop}
use lib.Seq.{drop-cons, length-take-le}
use lib.Dec.{leb, eqb}
use borrow.Author.Tests.{leb-true, le-leb, eqb-true, eq-eqb}
use Rattle.numbers.proofs.TestLaws.{both}
use Rattle.answers.specs.Answer.{Answer, answer, need}
use Rattle.answers.specs.Refusal.{refused}
use Rattle.answers.specs.Refusal as Refusal
use Rattle.answers.specs.declared.Refusal.{Refusal}
use Rattle.answers.specs.declared.Refusal.TheVariants.{WrongMark, WrongVersion, WrongPortOrCount, BytesMissing}
use Rattle.answers.proofs.NumbersHaveCases.{refusal_above}
use Rattle.uplink.specs.Packet.{mark, version_of, known, counted, takes, lead_length, lead, packet, marked, version_in, port_in, count_in, carried, packet_at}
use Rattle.uplink.specs.Demands.{Begins}
use Rattle.uplink.proofs.PacketTests.{Head}

-- ---- tests

-- a refusal is no answer 0
pub never : (n : ℕ) (why : Refusal) (others : List ℕ) → refused n why ≡ answer 0 others → ⊥
never n why others e =
    let zero-told : Refusal.number why ≡ 0 = cc in
    omega (arith, refusal_above why)

-- where the answer is 0 the test held, and what follows it answered
pub held : {A : Type 0} (tells : A → Answer) (test : Bool) (n : ℕ) (why : Refusal) (answered following : A) (others : List ℕ)
    → tells answered ≡ refused n why
    → tells (need test answered following) ≡ answer 0 others
    → (test ≡ true) × (tells following ≡ answer 0 others)
held tells true n why answered following others r e = (refl, e)
held tells false n why answered following others r e = absurd (never n why others (sym r ∙ e))

-- what the tests of a packet that is accepted say
pub record Tested (s : List ℕ) (port count used : ℕ) : Type 0 where
  pub sound : Head s
  pub carries : version_of port ≡ version_in s
  pub counts : counted count ≡ true
  pub there : lead_length + count ≤ length s
  pub port_there : port_in s ≡ port
  pub count_there : count_in s ≡ count
  pub uses : used ≡ lead_length + count

pub tested : (s : List ℕ) (port count used : ℕ) → packet_at s ≡ answer 0 (port ∷ count ∷ used ∷ []) → Tested s port count used
unfolding packet_at carried
tested s port count used e =
    let others : List ℕ = port ∷ count ∷ used ∷ [] in
    let same : Answer → Answer = λ a. a in
    let t1 = held same (leb lead_length (length s)) 3 BytesMissing _ _ others refl e in
    let t2 = held same (marked s) 3 WrongMark _ _ others refl t1.1 in
    let t3 = held same (known (version_in s)) 3 WrongVersion _ _ others refl t2.1 in
    let t4 = held same (carried s) 3 WrongPortOrCount _ _ others refl t3.1 in
    let t5 = held same (leb (lead_length + count_in s) (length s)) 3 BytesMissing _ _ others refl t4.1 in
    let found : answer 0 (port_in s ∷ count_in s ∷ (lead_length + count_in s) ∷ []) ≡ answer 0 others = t5.1 in
    let p : port_in s ≡ port = cc in
    let c : count_in s ≡ count = cc in
    let u : lead_length + count_in s ≡ used = cc in
    let fourth = both (eqb (version_of (port_in s)) (version_in s)) (counted (count_in s)) t4.0 in
    let room : lead_length + count_in s ≤ length s = leb-true (lead_length + count_in s) (length s) t5.0 in
    record {
      sound = record { long = leb-true lead_length (length s) t1.0; begins = t2.0; knows = t3.0 };
      carries = ap version_of (sym p) ∙ eqb-true (version_of (port_in s)) (version_in s) fourth.0;
      counts = ap counted (sym c) ∙ fourth.1;
      there = omega arith;
      port_there = p;
      count_there = c;
      uses = omega arith;
    }

-- ---- versions and ports

-- a version is known by one of the two tests of its port: the port is 1 to 3, or it is 4
by_tests : (t u : Bool) → (eqb (cond t 1 (cond u 2 0)) (version_of 1) || eqb (cond t 1 (cond u 2 0)) (version_of 4)) ≡ true → (t ≡ true) ⊎ (u ≡ true)
unfolding version_of
by_tests true u e = inl refl
by_tests false true e = inr refl
by_tests false false e = inl e

-- a port whose version is known is one of the four
pub port_within : (port : ℕ) → known (version_of port) ≡ true → (1 ≤ port) × (port ≤ 4)
unfolding version_of known
port_within port e = go (by_tests (leb 1 port && leb port 3) (eqb port 4) e)
  where
    go : ((leb 1 port && leb port 3) ≡ true) ⊎ (eqb port 4 ≡ true) → (1 ≤ port) × (port ≤ 4)
    go (inl t) =
        let range = both (leb 1 port) (leb port 3) t in
        (leb-true 1 port range.0, omega (arith, leb-true port 3 range.1))
    go (inr u) = let last = eqb-true port 4 u in (omega arith, omega arith)

-- version 2 is that of port 4, and of no other
second : (t u : Bool) → ◌≡◌ {A = ℕ} (cond t 1 (cond u 2 0)) 2 → u ≡ true
second true u e = absurd (omega arith)
second false true e = refl
second false false e = absurd (omega arith)

pub version_2 : (port : ℕ) → (version_of port ≡ 2) ↔ (port ≡ 4)
unfolding version_of
version_2 port = (λ e. eqb-true port 4 (second (leb 1 port && leb port 3) (eqb port 4) e), λ e. rw e refl)

-- a version is less than 256
small : (t u : Bool) → cond t 1 (cond u 2 0) < 256
small true u = omega arith
small false true = omega arith
small false false = omega arith

pub version_small : (port : ℕ) → version_of port < 256
unfolding version_of
version_small port = small (leb 1 port && leb port 3) (eqb port 4)

-- ---- bytes

-- n elements of s from i on
abbrev gets : List ℕ → ℕ → ℕ → List ℕ
gets s i zero = []
gets s i (suc n) = get_or s i 0 ∷ gets s (suc i) n

gets_drop : (s : List ℕ) (i n : ℕ) → i + n ≤ length s → drop i s ≡ gets s i n ++ drop (i + n) s
gets_drop s i zero h = rw add-zero refl
gets_drop s i (suc n) h =
    let same : suc i + n ≡ i + suc n = omega arith in
    drop-cons s i 0 (omega arith)
    ∙ ap (λ (r : List ℕ). get_or s i 0 ∷ r) (gets_drop s (suc i) n (omega arith) ∙ ap (λ (k : ℕ). gets s (suc i) n ++ drop k s) same)

-- the mark's bytes, where the reader finds the mark
mark_there : (s : List ℕ) → marked s ≡ true → (get_or s 0 0 ≡ get_or mark 0 0) × (get_or s 1 0 ≡ get_or mark 1 0) × (get_or s 2 0 ≡ get_or mark 2 0)
unfolding marked
mark_there s e =
    let two = both (eqb (get_or s 0 0) (get_or mark 0 0) && eqb (get_or s 1 0) (get_or mark 1 0)) (eqb (get_or s 2 0) (get_or mark 2 0)) e in
    let one = both (eqb (get_or s 0 0) (get_or mark 0 0)) (eqb (get_or s 1 0) (get_or mark 1 0)) two.0 in
    (eqb-true (get_or s 0 0) (get_or mark 0 0) one.0, eqb-true (get_or s 1 0) (get_or mark 1 0) one.1, eqb-true (get_or s 2 0) (get_or mark 2 0) two.1)

-- the version's bytes, where the reader finds that version
version_there : (high low version : ℕ) → version < 256 → version ≡ high * 256 + low → (high ≡ version / 256) × (low ≡ version % 256)
version_there high low version h e =
    let none : high ≡ 0 = omega arith in
    let all : low ≡ version = omega arith in
    (none ∙ sym (div-eq_of_lt h), all ∙ sym (mod-eq_of_lt h))

module _ (s : List ℕ) (port count used : ℕ) (t : Tested s port count used) where
  lead_there : gets s 0 lead_length ≡ lead (version_of port) port count
  lead_there =
      let m = mark_there s t.sound.begins in
      let v = version_there (get_or s 3 0) (get_or s 4 0) (version_of port) (version_small port) t.carries in
      simp (m.0, m.1, m.2, v.0, v.1, t.port_there, t.count_there)

  -- the piece that the packet carries, and what follows the packet
  abbrev piece_in : List ℕ
  piece_in = take count (drop lead_length s)

  abbrev rest_in : List ℕ
  rest_in = drop count (drop lead_length s)

  line_length_lem : length piece_in ≡ count
  line_length_lem = length-take-le count (drop lead_length s) (simp length-drop (omega arith))

  packet_there : s ≡ packet port piece_in ++ rest_in
  packet_there =
      gets_drop s 0 lead_length t.sound.long
      ∙ ap (λ (h : List ℕ). h ++ drop lead_length s) (lead_there ∙ ap (lead (version_of port) port) (sym line_length_lem))
      ∙ ap (λ (r : List ℕ). lead (version_of port) port (length piece_in) ++ r) (sym (take-append-drop count (drop lead_length s)))

  takes_there : takes port count ≡ true
  takes_there = simp (t.carries, t.sound.knows, t.counts)

  pub begins : Begins s port count used
  begins = record { piece = piece_in; rest = rest_in; bytes = packet_there; counts = line_length_lem; taken = takes_there; uses = t.uses }

-- ---- a packet that the writer takes, with anything after it, is read as what it is

pub reads_packet : (port : ℕ) (piece rest : List ℕ) → takes port (length piece) ≡ true
    → packet_at (packet port piece ++ rest) ≡ answer 0 (port ∷ length piece ∷ (lead_length + length piece) ∷ [])
unfolding packet_at marked carried
reads_packet port piece rest t =
    let two = both (known (version_of port)) (counted (length piece)) t in
    let long : lead_length + length piece ≤ length (packet port piece ++ rest) = simp length-append (omega arith) in
    let whole : version_of port / 256 * 256 + version_of port % 256 ≡ version_of port = omega (arith, div-add-mod (version_of port) 256) in
    simp (
      le-leb lead_length (length (packet port piece ++ rest)) (omega arith),
      whole,
      two.0,
      two.1,
      eq-eqb (version_of port) (version_of port) refl,
      le-leb (lead_length + length piece) (length (packet port piece ++ rest)) long,
    )
