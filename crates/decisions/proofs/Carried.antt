-- A plan is a plan of any network alike that has its arcs too.
use Rattle.std.proofs.Common.{◌≡◌, ℕ, List, [], ◌∷◌, ◌++◌, Some, sym, refl, ap, ◌∙◌, arith}
use Rattle.std.proofs.ByRecursion.{All-weaker}
use Rattle.std.specs.List.{AllByRecursion}
use Rattle.routing.specs.declared.cells.Road.{Road}
use Rattle.routing.specs.Network.{Meaning}
use Rattle.routing.specs.Routes.{Drive, OnTime, Schedule, Customer, Drivable, Plan, place_load, route_load}
use Rattle.routing.specs.Routes.OnTime.{home, stop}
use Rattle.decisions.specs.Arcs.{arcs_from, route_arcs, plan_arcs}

-- the same but for the arcs
pub record Alike (n m : Meaning) : Type 0 where
  pub customers : n.customers ≡ m.customers
  pub place : (i : ℕ) → n.place i ≡ m.place i
  pub capacity : n.capacity ≡ m.capacity
  pub fleet : n.fleet ≡ m.fleet

-- an arc of the one that the other has too
abbrev pub Carries : Meaning → Meaning → ℕ × ℕ → Type 0
Carries n m a = (road : Road) → n.arc a.0 a.1 ≡ Some road → m.arc a.0 a.1 ≡ Some road

all_split : {X : Type 0} (P : X → Type 0) (xs ys : List X) → AllByRecursion P (xs ++ ys) → AllByRecursion P xs × AllByRecursion P ys
all_split P [] ys all = (tt, all)
all_split P (x ∷ xs) ys all = let rest = all_split P xs ys all.1 in ((all.0, rest.0), rest.1)

module _ (n m : Meaning) (alike : Alike n m) where
  drive_over : {i j : ℕ} → Carries n m (i, j) → Drive n i j → Drive m i j
  drive_over {i} {j} carried d = record {
    left = d.left;
    left_is = sym (alike.place i) ∙ d.left_is;
    reached = d.reached;
    reached_is = sym (alike.place j) ∙ d.reached_is;
    road = d.road;
    arc_is = carried d.road d.arc_is;
  }

  on_time_over : {i ready : ℕ} {rest : List ℕ} → OnTime n i ready rest → AllByRecursion (Carries n m) (arcs_from i rest) → OnTime m i ready rest
  unfolding drive_over
  on_time_over (home d back there closed) carried = home (drive_over carried.0 d) back there closed
  on_time_over (stop d start there opened closed on) carried = stop (drive_over carried.0 d) start there opened closed (on_time_over on carried.1)

  schedule_over : {stops : List ℕ} → Schedule n stops → AllByRecursion (Carries n m) (route_arcs stops) → Schedule m stops
  schedule_over s carried = record {
    depot = s.depot;
    depot_is = sym (alike.place 0) ∙ s.depot_is;
    departure = s.departure;
    opened = s.opened;
    on_time = on_time_over s.on_time carried;
  }

  customer_over : (c : ℕ) → Customer n c → Customer m c
  customer_over c within = (within.0, omega (arith, alike.customers, within.1))

  load_same : (stops : List ℕ) → route_load n stops ≡ route_load m stops
  load_same [] = refl
  load_same (i ∷ stops) = omega (arith, ap place_load (alike.place i), load_same stops)

  drivable_over : (stops : List ℕ) → Drivable n stops → AllByRecursion (Carries n m) (route_arcs stops) → Drivable m stops
  drivable_over stops d carried = record {
    route = record { some = d.route.some; customers = All-weaker (Customer n) (Customer m) customer_over stops d.route.customers; distinct = d.route.distinct };
    light = omega (arith, d.light, load_same stops, alike.capacity);
    schedule = schedule_over d.schedule carried;
  }

  all_over : (routes : List (List ℕ)) → AllByRecursion (Drivable n) routes → AllByRecursion (Carries n m) (plan_arcs routes) → AllByRecursion (Drivable m) routes
  all_over [] all carried = tt
  all_over (route ∷ routes) all carried =
      let parts = all_split (Carries n m) (route_arcs route) (plan_arcs routes) carried in
      (drivable_over route all.0 parts.0, all_over routes all.1 parts.1)

  pub plan_over : (routes : List (List ℕ)) → Plan n routes → AllByRecursion (Carries n m) (plan_arcs routes) → Plan m routes
  plan_over routes p carried = record {
    least = omega (arith, p.least, ap (λ f. f.least) alike.fleet);
    most = omega (arith, p.most, ap (λ f. f.most) alike.fleet);
    drivable = all_over routes p.drivable carried;
    once = λ c within. p.once c (within.0, omega (arith, alike.customers, within.1));
  }
