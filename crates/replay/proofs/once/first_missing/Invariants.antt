use Rattle.std.proofs.Common.{◌≡◌, ℕ, ◌+◌, ◌-◌, ◌<◌, ◌≤◌, false, ltb, List, get_or}
use Rattle.routing.specs.Routes.{count}
use Rattle.replay.specs.Listing.{missing}
use Rattle.replay.proofs.once.first_missing.Given as goal

abbrev pub invariant-loop-c : goal.invariant-loop-c
invariant-loop-c l =
    (xs : List ℕ) → ((x : ℕ) → 1 ≤ x → x < 256 → get_or l.seen x false ≡ ltb 0 (count x xs)) → missing xs l.c (l.customers + 1 - l.c) ≡ missing xs 1 l.customers
