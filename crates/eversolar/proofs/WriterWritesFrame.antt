-- What the writer's stores make of the lent buffer: a frame, and then what was there.
-- Assumes nothing.
use Rattle.std.specs.Prelude.{Ok, Err}
use Prim.Native.Nat.{ℕ, ◌+◌, ◌-◌, ◌≤◌, ◌<◌}
use mathlib.Core.Path.{◌≡◌, sym, ap, ◌∙◌, subst}
use mathlib.Core.Bool.{false}
use mathlib.Core.List.{List, [], ◌∷◌, ◌++◌}
use lib.ListN.{length, take, drop, set, length-append, length-drop}
use lib.Seq.{sets, take_all, take-append_seam}
use borrow.Author.Tests.{lt-ltb, le-ltb}
use native.Mathlib.Numerals.{add-one}
use native.Mathlib.Omega.{arith}
use Rattle.answers.specs.Written.{Writes}
use Rattle.answers.specs.declared.Refusal.TheVariants.{TooLong, NoRoom}
use Rattle.answers.proofs.WriterPromise.{writes_too_long, writes_no_room, writes_done}
use Rattle.stream.proofs.ListLaws.{sets_append, sets_front}
use Rattle.eversolar_words.specs.Words.{word_bytes}
use Rattle.eversolar.specs.Wire.{Message, payload_max, six_of, earlier_of, checksum, earlier, wire}
use Rattle.eversolar.specs.Writer.{WritesMessage}
use Rattle.eversolar_words.proofs.WordLaws.{word_length}

pub wire_length : (m : Message) → length (wire m) ≡ 9 + length m.payload + 2
wire_length m = simp length-append (omega (arith, word_length (checksum (earlier m))))

module _ (m : Message) (lent : List ℕ) where
  abbrev n : ℕ
  n = length m.payload

  -- the three ends of the writer
  pub too_long : payload_max < n → WritesMessage m lent (Err TooLong) lent
  too_long h = rw (lt-ltb payload_max n h) (writes_too_long (wire m) lent)

  pub no_room : n ≤ payload_max → length lent < 9 + n + 2 → WritesMessage m lent (Err NoRoom) lent
  no_room h r = rw (le-ltb payload_max n h) (writes_no_room (wire m) lent (omega (arith, wire_length m)))

  pub done : (count : ℕ) (later : List ℕ) → n ≤ payload_max → count ≡ 9 + n + 2 → 9 + n + 2 ≤ length lent → later ≡ wire m ++ drop (length (wire m)) lent
      → WritesMessage m lent (Ok count) later
  done count later h is r e =
      rw (le-ltb payload_max n h)
      (subst (λ (l : List ℕ). Writes false (wire m) lent (Ok count) l) (sym e)
      (subst (λ (k : ℕ). Writes false (wire m) lent (Ok k) (wire m ++ drop (length (wire m)) lent)) (wire_length m ∙ sym is)
      (writes_done (wire m) lent (omega (arith, wire_length m)))))

  -- all before the data, and the data, in front of the rest
  abbrev pub first : List ℕ
  first = earlier_of (six_of m) n []

  laid : 9 + n + 2 ≤ length lent → sets (sets lent 0 first) 9 m.payload ≡ earlier m ++ drop (length (earlier m)) lent
  laid r = sets_append lent 0 first m.payload ∙ sets_front (earlier m) lent (omega arith)

  -- what the sum is taken of
  pub all_summed : (k : List ℕ) → k ≡ sets (sets lent 0 first) 9 m.payload → 9 + n + 2 ≤ length lent
      → (let s = take (length k - 2) (drop 2 k) in earlier_of (take 6 s) n (take n (drop 7 s)) ≡ earlier m)
  all_summed k e r =
      let whole : take (length k - 2) (drop 2 k) ≡ drop 2 k = take_all (length k - 2) (drop 2 k) (simp length-drop (omega arith)) in
      rw (whole, e, laid r) (ap (earlier_of (six_of m) n) (take-append_seam m.payload (drop (length (earlier m)) lent)))

  -- and its two bytes behind them
  pub framed : (k : List ℕ) (x y : ℕ) → k ≡ sets (sets lent 0 first) 9 m.payload → (x ∷ y ∷ []) ≡ word_bytes (checksum (earlier m)) → 9 + n + 2 ≤ length lent
      → set (set k (9 + n) x) (9 + n + 1) y ≡ wire m ++ drop (length (wire m)) lent
  framed k x y e s r =
      let sum : List ℕ = word_bytes (checksum (earlier m)) in
      let at : 9 + n ≡ 0 + length (earlier m) = omega arith in
      let both : set (set k (9 + n) x) (9 + n + 1) y ≡ sets k (9 + n) (x ∷ y ∷ []) = rw add-one in
      both ∙ ap (λ (v : List ℕ). sets k (9 + n) v) s ∙ ap (λ (j : ℕ). sets k j sum) at
      ∙ ap (λ (l : List ℕ). sets l (0 + length (earlier m)) sum) (e ∙ sets_append lent 0 first m.payload)
      ∙ sets_append lent 0 (earlier m) sum ∙ sets_front (wire m) lent (omega (arith, wire_length m))
