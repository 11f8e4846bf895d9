use Rattle.std.proofs.Common.{◌≡◌, ◌*◌, ◌≤◌, length, drop, ◌+ℤ◌, nat_abs}
use Rattle.leaf.specs.Rule.{sum_z}
use Rattle.leaf.proofs.held.Held.dual_sum.Given as goal

abbrev pub invariant-loop-dual : goal.invariant-loop-dual
invariant-loop-dual l = record {
  within : l.dual-index ≤ length l.self.duals.now;
  small : nat_abs l.sum ≤ 1000000000000 * l.dual-index;
  rest : l.sum +ℤ sum_z (drop l.dual-index l.self.duals.now) ≡ sum_z l.self.duals.now;
}
