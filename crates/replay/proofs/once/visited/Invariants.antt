use Rattle.std.proofs.Common.{◌≡◌, ℕ, ◌<◌, ◌≤◌, false, ltb, [], length, get_or, take, drop}
use Rattle.routing.specs.Routes.{count}
use Rattle.replay.specs.Listing.{repeated}
use Rattle.replay.proofs.once.visited.Given as goal

abbrev pub invariant-loop-index : goal.invariant-loop-index
invariant-loop-index l =
    (l.index ≤ length l.listing) × (length l.seen ≡ 256) × (repeated (take l.index l.listing) l.index (drop l.index l.listing) ≡ repeated [] 0 l.listing) × ((c : ℕ) → 1 ≤ c → c < 256 → get_or l.seen c false ≡ ltb 0 (count c (take l.index l.listing)))
