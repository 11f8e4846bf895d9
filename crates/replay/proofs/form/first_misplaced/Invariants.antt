use Rattle.std.proofs.Common.{◌≡◌, ◌≤◌, false, length, drop}
use Rattle.replay.specs.Listing.{misplaced}
use Rattle.replay.proofs.form.first_misplaced.Given as goal

abbrev pub invariant-loop-k : goal.invariant-loop-k
invariant-loop-k l =
    (l.k ≤ length l.listing) × (misplaced l.customers l.begun l.k (drop l.k l.listing) ≡ misplaced l.customers false 0 l.listing)
