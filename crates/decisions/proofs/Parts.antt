-- A plan of a part of a network is a plan of the network, at the same cost.
use Rattle.std.proofs.Common.{◌≡◌, ℕ, ◌+◌, List, [], ◌∷◌, sym, refl, ap, ◌∙◌, ap₂}
use Rattle.std.specs.List.{AllByRecursion}
use Rattle.routing.specs.Network.{Meaning}
use Rattle.routing.specs.Routes.{Drive, OnTime, Drivable, Plan, arc_cost, cost_from, plan_cost}
use Rattle.routing.specs.Routes.OnTime.{home, stop}
use Rattle.decisions.specs.declared.decision.Decision.{Decision}
use Rattle.decisions.specs.Decisions.{removes, under, decided, removed}
use Rattle.decisions.specs.Arcs.{plan_arcs}
use Rattle.decisions.specs.Lawful.{left}
use Rattle.decisions.specs.Parts.{Part, PlansBelow}
use Rattle.decisions.proofs.Carried.{Carries, plan_over}
use Rattle.decisions.proofs.Decided.{decided_arc}

module _ (n m : Meaning) (part : Part n m) where
  carries : (arcs : List (ℕ × ℕ)) → AllByRecursion (Carries n m) arcs
  carries [] = tt
  carries (a ∷ arcs) = (part.arcs a.0 a.1, carries arcs)

  drive_cost : {i j : ℕ} → Drive n i j → arc_cost (n.arc i j) ≡ arc_cost (m.arc i j)
  drive_cost {i} {j} d = ap arc_cost (d.arc_is ∙ sym (part.arcs i j d.road d.arc_is))

  on_time_cost : {i ready : ℕ} {rest : List ℕ} → OnTime n i ready rest → cost_from n i rest ≡ cost_from m i rest
  on_time_cost (home d back there closed) = drive_cost d
  on_time_cost (stop d start there opened closed on) = ap₂ ◌+◌ (drive_cost d) (on_time_cost on)

  plan_cost_same : (routes : List (List ℕ)) → AllByRecursion (Drivable n) routes → plan_cost n routes ≡ plan_cost m routes
  plan_cost_same [] all = refl
  plan_cost_same (route ∷ routes) all = ap₂ ◌+◌ (on_time_cost all.0.schedule.on_time) (plan_cost_same routes all.1)

  pub plan_part : PlansBelow n m
  plan_part routes p = record {
    plan = plan_over n m record { customers = part.customers; place = part.place; capacity = part.capacity; fleet = part.fleet } routes p (carries (plan_arcs routes));
    cost = plan_cost_same routes p.drivable;
  }

pub part_under : (m : Meaning) (d : Decision) → Part (under d m) m
part_under m d = record {
  customers = refl;
  place = λ i. refl;
  capacity = refl;
  fleet = refl;
  arcs = λ i j. left (removes d i j) (m.arc i j);
}

-- decisions keep the customers, the places, the capacity and the fleet, and an arc that is left is the same arc
pub part_decided : (m : Meaning) (ds : List Decision) → Part (decided m ds) m
part_decided m ds = record {
  customers = refl;
  place = λ i. refl;
  capacity = refl;
  fleet = refl;
  arcs = λ i j a e. left (removed ds i j) (m.arc i j) a (sym (decided_arc m ds i j) ∙ e);
}

pub plans_below_under : (m : Meaning) (d : Decision) → PlansBelow (under d m) m
plans_below_under m d = plan_part (under d m) m (part_under m d)

pub plans_below : (m : Meaning) (ds : List Decision) → PlansBelow (decided m ds) m
plans_below m ds = plan_part (decided m ds) m (part_decided m ds)

pub cost_below : (m : Meaning) (ds : List Decision) (routes : List (List ℕ)) → Plan (decided m ds) routes → plan_cost (decided m ds) routes ≡ plan_cost m routes
cost_below m ds routes p = (plans_below m ds routes p).cost
