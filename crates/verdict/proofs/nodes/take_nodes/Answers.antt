use Rattle.std.proofs.Common.{Err, ap, ◌∙◌, arith}
use Rattle.std.proofs.lemmas.Result.{err_from_is_err_and}
use Rattle.checking.specs.States.{network_of}
use Rattle.verdict.proofs.Stepping.{goes_on, ends}
use Rattle.verdict.proofs.nodes.take_nodes.Goals as goal

pub returns-in_err-take_node : goal.returns-in_err-take_node
returns-in_err-take_node g c =
    let s = c.loop-node in
    let told = c.in_err-take_node.ensures in
    let p = err_from_is_err_and c.from_residual.result c.from_residual.ensures.1 in
    record {
      network = told.network ∙ s.invariant.0;
      state = ends (g.M.Measure.meaning c.args.measure.now) g.N.Network.meaning c.args.tree.now s.check c.take_node.new.check (network_of c.args.check.now) s.node c.args.count (omega arith) s.invariant.0 _ s.invariant.1 _ c.from_residual.result (p.1 ∙ ap Err p.2) told.state;
    }

pub loop-node-preserved : goal.loop-node-preserved
loop-node-preserved g c =
    let s = c.loop-node in
    let told = c.in_ok-take_node.ensures in (
      told.network ∙ s.invariant.0,
      goes_on (g.M.Measure.meaning c.args.measure.now) g.N.Network.meaning c.args.tree.now s.check c.take_node.new.check (network_of c.args.check.now) s.node c.args.count (omega arith) s.invariant.0 _ s.invariant.1 tt told.state,
    )
