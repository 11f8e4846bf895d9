use Rattle.trees.proofs.Whole.{reads_tree}
use Rattle.trees.proofs.head.read_tree.Goals as goal

pub returns-clause-files : goal.returns-clause-files
returns-clause-files c = reads_tree c.args.bytes.now c.args.customers _ c.type_inv.bytes c.judge_tree.ensures
