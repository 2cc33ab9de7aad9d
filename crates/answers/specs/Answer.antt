-- What a call tells, as document 01 numbers it.
use Rattle.std.specs.Prelude.{ℕ, Bool, cond, List}

-- the answer number, and every other number returned (length, bytes used, address, place), in the order of the call's result
pub data Answer : Type 0 where
  answer : ℕ → List ℕ → Answer

-- the answer number alone
abbrev pub number : Answer → ℕ
number (answer n others) = n

-- A test in its order: where it holds, what follows decides; else this is the answer
abbrev pub need : {A : Type 0} → Bool → A → A → A
need test otherwise following = cond test following otherwise
