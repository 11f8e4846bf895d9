use Rattle.std.proofs.Common.{arith}
use Rattle.leaf.proofs.Ordered.{rising_from_sort}
use Rattle.leaf.proofs.index.sort_entries.Goals as goal

pub returns-clause-rising : goal.returns-clause-rising
returns-clause-rising c =
    rising_from_sort c.sort_unstable.new.self (λ k d low lt. c.sort_unstable.ensures.sorted k d low (omega (arith, c.sort_unstable.ensures.len)))
