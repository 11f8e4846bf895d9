-- What a layer of decisions leaves of the network below it.
use Rattle.routing.specs.Network.{Meaning}
use Rattle.decisions.specs.declared.layers.DecisionLayer.{DecisionLayer}
use Rattle.decisions.specs.Decisions.{decided}
use Rattle.decisions.specs.Branches.{kept}

-- from the meaning of each network below
abbrev pub left_of : {N : Type 0} → (N → Meaning) → DecisionLayer N → Meaning
left_of meaning x = decided (meaning x.below) (kept x.decisions)
