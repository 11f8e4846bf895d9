use Rattle.std.proofs.Common.{◌≡◌, ◌-◌}
use Rattle.checking.specs.States.{network_of, state_of}
use Rattle.verdict.specs.Nodes.{walk}
use Rattle.verdict.proofs.nodes.take_nodes.Given as goal

abbrev pub invariant-loop-node : goal.invariant-loop-node
invariant-loop-node g l =
    let m = g.N.Network.meaning (network_of l.initial.check) in
    let μ = g.M.Measure.meaning l.measure in
    (network_of l.check ≡ network_of l.initial.check) × (walk μ m l.tree (state_of l.check) l.node (l.count - l.node) ≡ walk μ m l.tree (state_of l.initial.check) 0 l.count)
