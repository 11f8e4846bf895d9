use Rattle.std.proofs.Common.{◌≡◌, ℕ, ◌^◌, ◌<◌, ◌≤◌, Result, length}
use Rattle.leaf.specs.declared.faults.LeafFault.{LeafFault}
use Rattle.leaf.proofs.Reading.{ReadSoFar}
use Rattle.leaf.proofs.records.read_each.Given as goal

abbrev pub invariant-loop-k : goal.invariant-loop-k
invariant-loop-k g l =
    (l.k ≤ length l.room) × ((each : ℕ → Result g.row.T.Denot LeafFault) → ((i : ℕ) (r : Result g.row.T.Denot LeafFault) → i < 2 ^ 64 → goal.F-post g l.read i r → r ≡ each i) → ReadSoFar each l.at l.size (length l.initial.room) l.k l.room)
