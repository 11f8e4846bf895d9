use Rattle.std.proofs.Common.{◌≡◌, ◌+◌, ◌*◌, ◌≤◌, map, length, drop}
use Rattle.leaf.specs.Answer.{entries_answer}
use Rattle.leaf.specs.Held.{leaf_of}
use Rattle.leaf.specs.Record.{entries_at, entry_size}
use Rattle.leaf.specs.Stored.{decoded}
use Rattle.leaf.proofs.checker.LeafCheck.check_entries.Given as goal

abbrev pub invariant-loop-entry : goal.invariant-loop-entry
invariant-loop-entry g l =
    let x = l.self in
    let μ = g.M.Measure.meaning x.measure.now in
    let m = g.N.Network.meaning x.network.now in
    let size = entry_size μ.words in
    let at = entries_at m.customers in
    record {
      within : l.entry-index ≤ length x.leaf.entries.now;
      same : l.drives.network.now ≡ x.network.now;
      rest : entries_answer μ m (leaf_of μ x.leaf) (at + size * l.entry-index) size (map (decoded μ x.leaf.bytes.now) (drop l.entry-index x.leaf.entries.now)) ≡ entries_answer μ m (leaf_of μ x.leaf) at size (leaf_of μ x.leaf).entries;
    }
