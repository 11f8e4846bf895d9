-- A leaf is granted exactly when its record says a leaf whose rule holds; and then no plan costs less.
use Rattle.std.specs.Prelude.{◌≡◌, ℕ, ◌≤◌, List, Ok, Result}
use Rattle.routing.specs.Network.{Meaning}
use Rattle.routing.specs.Routes.{Plan, plan_cost}
use Rattle.measures.specs.Measure.{Measuring}
use Rattle.leaf.specs.declared.faults.LeafFault.{LeafFault}
use Rattle.leaf.specs.Record.{Reads}
use Rattle.leaf.specs.Rule.{Leaf, Holds}

pub record Judges {S : Type 0} (μ : Measuring S) (m : Meaning) (bytes : List ℕ) (z : ℕ) (r : Result (Unit {0}) LeafFault) : Type 0 where
  pub granted_holds : r ≡ Ok tt → (leaf : Leaf S) × Reads μ m.customers bytes leaf × Holds μ m leaf z
  pub holds_granted : (leaf : Leaf S) → Reads μ m.customers bytes leaf → Holds μ m leaf z → r ≡ Ok tt
  pub granted_bounds : r ≡ Ok tt → (routes : List (List ℕ)) → Plan m routes → z ≤ plan_cost m routes
