use Rattle.decisions.specs.Branches.{kept}
use Rattle.decisions.proofs.Parts.{part_decided, plans_below}
use Rattle.decisions.proofs.layers.DecisionLayer.below.Goals as goal

pub returns-clause-part : goal.returns-clause-part
returns-clause-part g c = part_decided (g.N.Network.meaning c.args.self.now.below) (kept c.args.self.now.decisions)

pub returns-clause-plans : goal.returns-clause-plans
returns-clause-plans g c = plans_below (g.N.Network.meaning c.args.self.now.below) (kept c.args.self.now.decisions)
