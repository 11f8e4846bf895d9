-- Corners of one word.
use Rattle.std.specs.Prelude.{ℕ, cond, List, length, Some, None, Option, ◌==◌, nat_lt, slice_index}

-- a number, absent above a limit
abbrev pub within : ℕ → ℕ → Option ℕ
within most n = cond (nat_lt most n) None (Some n)

-- the number in the words, where there is exactly one and it is not above a limit
abbrev pub one_within : ℕ → List ℕ → Option ℕ
one_within most words = cond (length words == 1) (within most (slice_index words 0)) None
