use Rattle.std.proofs.Common.{pos, arith}
use Rattle.std.proofs.lemmas.Int.{ints}
use Rattle.leaf.proofs.Sums.{sum_more}
use Rattle.leaf.proofs.held.Held.dual_sum.Goals as goal

pub loop-dual-preserved : goal.loop-dual-preserved
loop-dual-preserved c =
    let s = c.loop-dual in
    let h = c.args.self.now in
    let small = h.duals_small s.dual-index (pos 0) c.loop-dual-test.true in
    let more = sum_more h.duals.now s.dual-index c.loop-dual-test.true in
    record { within = omega arith; small = omega (arith, ints); rest = omega (arith, ints) }
