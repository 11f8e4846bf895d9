-- The number, arc and place of each fault of a leaf.
use Rattle.std.specs.Prelude.{ℕ}
use Rattle.routing.specs.declared.denials.Denial.{Denial}
use Rattle.leaf.specs.declared.faults.LeafFault.{LeafFault}
use Rattle.leaf.specs.declared.faults.LeafFault.TheVariants.{Length, Field, Entry, Depot, Bound}

abbrev at : ℕ → ℕ → Denial
at number place = record { number = number; from = 0; to = 0; place = place }

abbrev pub leaf_denial : LeafFault → Denial
leaf_denial Length = at 8 0
leaf_denial (Field offset) = at 9 offset
leaf_denial (Entry from to offset) = record { number = 22; from = from; to = to; place = offset }
leaf_denial (Depot to) = record { number = 23; from = 0; to = to; place = 0 }
leaf_denial Bound = at 24 0
