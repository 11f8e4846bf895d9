use Rattle.leaf.proofs.Granted.{judged}
use Rattle.leaf.proofs.check.check_leaf.Goals as goal

pub returns-then-count-le256-clause-judges : goal.returns-then-count-le256-clause-judges
returns-then-count-le256-clause-judges g c =
    judged (g.M.Measure.meaning c.args.measure.now) (g.N.Network.meaning c.args.network.now) c.args.record.now c.args.cost (g.M.Measure.laws c.args.measure.now) (g.N.Network.limits c.args.network.now) _ c.check_sized.ensures

pub returns-then-count-le4096-clause-judges : goal.returns-then-count-le4096-clause-judges
returns-then-count-le4096-clause-judges g c =
    judged (g.M.Measure.meaning c.args.measure.now) (g.N.Network.meaning c.args.network.now) c.args.record.now c.args.cost (g.M.Measure.laws c.args.measure.now) (g.N.Network.limits c.args.network.now) _ c.check_sized-then-count-le4096.ensures

pub returns-else-count-le4096-clause-judges : goal.returns-else-count-le4096-clause-judges
returns-else-count-le4096-clause-judges g c =
    judged (g.M.Measure.meaning c.args.measure.now) (g.N.Network.meaning c.args.network.now) c.args.record.now c.args.cost (g.M.Measure.laws c.args.measure.now) (g.N.Network.limits c.args.network.now) _ c.check_sized-else-count-le4096.ensures
