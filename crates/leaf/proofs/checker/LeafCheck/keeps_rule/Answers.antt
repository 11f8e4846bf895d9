use Rattle.std.proofs.Common.{◌-◌, ◌≡◌, ◌≤◌, get_or, pos, nat_abs, Some, sym, ap, ◌∙◌, ap₂, arith, w64}
use lib.Signed.{le_z}
use Rattle.std.proofs.lemmas.Int.{ints, to_z-of_z}
use Rattle.leaf.specs.Answer.{drive}
use Rattle.leaf.specs.Held.{leaf_of}
use Rattle.leaf.proofs.Allowed.{ok_onward}
use Rattle.leaf.proofs.checker.LeafCheck.keeps_rule.Goals as goal

pub returns : goal.returns
returns g c =
    let x = c.args.self.now in
    let μ = g.M.Measure.meaning x.measure.now in
    let m = g.N.Network.meaning x.network.now in
    let i = c.args.drives.now.from in
    let is : drive m i c.args.to ≡ Some c.in-Some.drive = ap (λ n. drive (g.N.Network.meaning n) i c.args.to) (sym c.requires.same) ∙ sym c.in-Some.ensures in
    let dual_small : nat_abs (get_or x.leaf.duals.now (c.args.to - 1) (pos 0)) ≤ 1000000000000 = x.leaf.duals_small (c.args.to - 1) (pos 0) (omega (arith, c.if-to-eq0.false, c.requires.there, x.all_duals)) in
    ap₂ le_z (to_z-of_z w64 c.args.value c.ranges.value) (omega (arith, ints, c.scaled-cost.ensures.value, c.scaled-cost.ensures.small, c.in-Some-best_value.ensures.small))
    ∙ sym (ok_onward μ (leaf_of μ x.leaf) c.args.value c.args.state c.args.to (drive m i c.args.to) c.in-Some.drive c.in-Some-step.reached is (sym c.in-Some-step.ensures) c.if-to-eq0.false (Some c.in-Some-best_value.potential) (sym c.in-Some-best_value.ensures.value))
