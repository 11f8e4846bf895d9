-- The number, arc and place of each fault of a tree file.
use Rattle.std.specs.Prelude.{ℕ}
use Rattle.routing.specs.declared.denials.Denial.{Denial}
use Rattle.trees.specs.declared.faults.TreeFault.{TreeFault}
use Rattle.trees.specs.declared.faults.TreeFault.TheVariants.{Mark, Head, Pair}

abbrev at : ℕ → ℕ → Denial
at number place = record { number = number; from = 0; to = 0; place = place }

abbrev pub tree_denial : TreeFault → Denial
tree_denial Mark = at 5 0
tree_denial (Head place) = at 6 place
tree_denial (Pair place) = at 7 place
