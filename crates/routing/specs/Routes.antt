-- Routes, schedules and plans of the vehicle routing problem with time windows, over a network's meaning.
use Rattle.std.specs.Prelude.{◌≡◌, ℕ, ◌+◌, ◌≤◌, cond, List, [], ◌∷◌, length, Some, None, Option, ◌==◌}
use Rattle.std.specs.List.{flat_map, AllByRecursion}
use Rattle.routing.specs.declared.cells.Place.{Place}
use Rattle.routing.specs.declared.cells.Road.{Road}
use Rattle.routing.specs.Network.{Meaning}

-- how often a customer stands in a list
abbrev pub count : ℕ → List ℕ → ℕ
count c [] = 0
count c (x ∷ xs) = cond (c == x) 1 0 + count c xs

-- the sum of a number over a list
abbrev pub total : {X : Type 0} → (X → ℕ) → List X → ℕ
total f [] = 0
total f (x ∷ xs) = f x + total f xs

abbrev pub arc_cost : Option Road → ℕ
arc_cost None = 0
arc_cost (Some road) = road.cost

abbrev pub place_load : Option Place → ℕ
place_load None = 0
place_load (Some p) = p.load

-- the cost of driving from a place through the stops and home
abbrev pub cost_from : Meaning → ℕ → List ℕ → ℕ
cost_from m i [] = arc_cost (m.arc i 0)
cost_from m i (j ∷ rest) = arc_cost (m.arc i j) + cost_from m j rest

abbrev pub route_cost : Meaning → List ℕ → ℕ
route_cost m = cost_from m 0

abbrev pub route_load : Meaning → List ℕ → ℕ
route_load m = total (λ i. place_load (m.place i))

-- a drive from one place to another, where both and the arc are there
pub record Drive (m : Meaning) (i j : ℕ) : Type 0 where
  pub left : Place
  pub left_is : m.place i ≡ Some left
  pub reached : Place
  pub reached_is : m.place j ≡ Some reached
  pub road : Road
  pub arc_is : m.arc i j ≡ Some road

-- ready to leave a place at a minute, a van can serve the stops and be home in time:
-- some start of service inside each window, some return not after the depot's closing
pub data OnTime (m : Meaning) : ℕ → ℕ → List ℕ → Type 0 where
  home : {i ready : ℕ} (d : Drive m i 0) (back : ℕ) → ready + d.road.travel ≤ back → back ≤ d.reached.closing → OnTime m i ready []
  stop : {i j ready : ℕ} {rest : List ℕ} (d : Drive m i j) (start : ℕ) → ready + d.road.travel ≤ start → d.reached.opening ≤ start → start ≤ d.reached.closing → OnTime m j (start + d.reached.service) rest → OnTime m i ready (j ∷ rest)

-- some departure, not before the depot's opening, from which the route is on time
pub record Schedule (m : Meaning) (stops : List ℕ) : Type 0 where
  pub depot : Place
  pub depot_is : m.place 0 ≡ Some depot
  pub departure : ℕ
  pub opened : depot.opening ≤ departure
  pub on_time : OnTime m 0 departure stops

abbrev pub Customer : Meaning → ℕ → Type 0
Customer m c = (1 ≤ c) × (c ≤ m.customers)

-- a route of one or more distinct customers
pub record Route (m : Meaning) (stops : List ℕ) : Type 0 where
  pub some : 1 ≤ length stops
  pub customers : AllByRecursion (Customer m) stops
  pub distinct : (c : ℕ) → count c stops ≤ 1

-- a route that can be driven: its arcs exist and it has a schedule, within the capacity
pub record Drivable (m : Meaning) (stops : List ℕ) : Type 0 where
  pub route : Route m stops
  pub light : route_load m stops ≤ m.capacity
  pub schedule : Schedule m stops

abbrev pub visits : List (List ℕ) → List ℕ
visits = flat_map (λ route. route)

-- least to most routes that can be driven, which visit every customer exactly once
pub record Plan (m : Meaning) (routes : List (List ℕ)) : Type 0 where
  pub least : m.fleet.least ≤ length routes
  pub most : length routes ≤ m.fleet.most
  pub drivable : AllByRecursion (Drivable m) routes
  pub once : (c : ℕ) → Customer m c → count c (visits routes) ≡ 1

abbrev pub plan_cost : Meaning → List (List ℕ) → ℕ
plan_cost m = total (route_cost m)
