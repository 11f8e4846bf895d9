-- The number, arc and place of each fault, the file that it is found in, and its node.
use Rattle.std.specs.Prelude.{ℕ, ◌+◌, ◌-◌, ◌^◌, min}
use Rattle.routing.specs.declared.denials.Denial.{Denial}
use Rattle.files.specs.Faults.{refused_denial, refused_part}
use Rattle.files.specs.declared.faults.Part.{Part}
use Rattle.files.specs.declared.faults.Part.TheVariants.{Plan, Tree}
use Rattle.checking.specs.Faults.{check_denial}
use Rattle.trees.specs.Faults.{tree_denial}
use Rattle.verdict.specs.declared.faults.JudgeFault.{JudgeFault}
use Rattle.verdict.specs.declared.faults.JudgeFault.TheVariants.{Refused, NotPresented, TreeRefused, AtNode}
use Rattle.verdict.specs.declared.faults.NodeFault.{NodeFault}

-- a place counted from the record's first byte, as one of the file; places are numbers of 64 bits, and no file is that long
abbrev pub moved : ℕ → Denial → Denial
moved offset d = record { number = d.number; from = d.from; to = d.to; place = min (offset + d.place) (2 ^ 64 - 1) }

abbrev pub node_denial : NodeFault → Denial
node_denial n = moved n.offset (check_denial n.fault)

abbrev pub judge_denial : JudgeFault → Denial
judge_denial (Refused f) = refused_denial f
judge_denial (NotPresented f) = check_denial f
judge_denial (TreeRefused f) = tree_denial f
judge_denial (AtNode n) = node_denial n

abbrev pub judge_part : JudgeFault → Part
judge_part (Refused f) = refused_part f
judge_part (NotPresented f) = Plan
judge_part (TreeRefused f) = Tree
judge_part (AtNode n) = Tree

abbrev pub judge_node : JudgeFault → ℕ
judge_node (Refused f) = 0
judge_node (NotPresented f) = 0
judge_node (TreeRefused f) = 0
judge_node (AtNode n) = n.node
