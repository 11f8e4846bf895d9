use Rattle.std.proofs.Common.{ℕ, ◌<◌, ◌≤◌, length, get_or}
use Rattle.leaf.specs.Stored.{EndsAt}
use Rattle.leaf.proofs.index.ends_of.Given as goal

abbrev pub invariant-loop-place : goal.invariant-loop-place
invariant-loop-place l =
    (l.place-counter ≤ length l.end-items) × ((j : ℕ) → j < l.place-counter → EndsAt l.sorted j (get_or l.end-items j 0))
