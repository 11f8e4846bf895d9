use Rattle.std.proofs.Common.{◌≡◌, ◌+◌, ◌-◌, ◌*◌}
use Rattle.trees.specs.Tree.{pairs_answer}
use Rattle.trees.proofs.pairs.judge_pairs.Given as goal

abbrev pub invariant-loop-k : goal.invariant-loop-k
invariant-loop-k l = pairs_answer l.bytes l.k l.from (l.count - l.k) ≡ pairs_answer l.bytes 0 (8 + 8 * l.count) l.count
