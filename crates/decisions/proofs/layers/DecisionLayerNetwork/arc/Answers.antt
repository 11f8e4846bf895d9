use Rattle.std.proofs.Common.{sym, ◌∙◌}
use Rattle.std.proofs.lemmas.Bool.{cond-true, cond-false}
use Rattle.decisions.specs.Branches.{kept}
use Rattle.decisions.proofs.Decided.{decided_arc}
use Rattle.decisions.proofs.layers.DecisionLayerNetwork.arc.Goals as goal

pub returns-then-removes : goal.returns-then-removes
returns-then-removes g c =
    let m = g.N.Network.meaning c.args.self.now.below in
    let ds = kept c.args.self.now.decisions in
    sym (decided_arc m ds c.args.i c.args.j ∙ cond-true _ _ _ (sym c.if-removes.ensures))

pub returns : goal.returns
returns g c =
    let m = g.N.Network.meaning c.args.self.now.below in
    let ds = kept c.args.self.now.decisions in
    c.arc.ensures ∙ sym (decided_arc m ds c.args.i c.args.j ∙ cond-false _ _ _ (sym c.if-removes.ensures))
