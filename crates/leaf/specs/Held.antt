-- What a leaf that was read says.
use Rattle.measures.specs.Measure.{Measuring}
use Rattle.leaf.specs.declared.held.Held.{Held}
use Rattle.leaf.specs.Rule.{Leaf}
use Rattle.leaf.specs.Stored.{leaf_with}

abbrev pub leaf_of : {S : Type 0} → Measuring S → Held → Leaf S
leaf_of μ h = leaf_with μ h.bytes.now h.scale h.price h.duals.now h.entries.now
