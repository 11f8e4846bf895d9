use Rattle.std.proofs.Common.{◌≡◌, ℕ, ◌<◌, ◌≤◌, length, get_or, None}
use Rattle.leaf.specs.Answer.{drive}
use Rattle.leaf.proofs.drives.fill_drives.Given as goal

abbrev pub invariant-loop-to : goal.invariant-loop-to
invariant-loop-to g l =
    (l.to ≤ length l.row) × ((j : ℕ) → j < l.to → get_or l.row j None ≡ drive (g.N.Network.meaning l.network) l.from j)
