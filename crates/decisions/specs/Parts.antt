-- A network with the places of another and some of its arcs.
use Rattle.std.specs.Prelude.{◌≡◌, ℕ, List, Some}
use Rattle.routing.specs.declared.cells.Road.{Road}
use Rattle.routing.specs.Network.{Meaning}
use Rattle.routing.specs.Routes.{Plan, plan_cost}

pub record Part (n m : Meaning) : Type 0 where
  pub customers : n.customers ≡ m.customers
  pub place : (i : ℕ) → n.place i ≡ m.place i
  pub capacity : n.capacity ≡ m.capacity
  pub fleet : n.fleet ≡ m.fleet
  pub arcs : (i j : ℕ) (road : Road) → n.arc i j ≡ Some road → m.arc i j ≡ Some road

-- each plan of the one is a plan of the other, at the same cost
pub record PlanBelow (n m : Meaning) (routes : List (List ℕ)) : Type 0 where
  pub plan : Plan m routes
  pub cost : plan_cost n routes ≡ plan_cost m routes

abbrev pub PlansBelow : Meaning → Meaning → Type 0
PlansBelow n m = (routes : List (List ℕ)) → Plan n routes → PlanBelow n m routes
