-- The two-stop case, and what its plans and its leaf come to.
use Rattle.std.specs.Prelude.{◌≡◌, ℕ, zero, suc, ◌/◌, ◌%◌, ◌≤◌, List, [], ◌∷◌, ◌++◌, Some, None, Ok, Err, Option, Result}
use Rattle.std.proofs.Common.{arith}
use Rattle.routing.specs.declared.cells.Fleet.{Fleet}
use Rattle.routing.specs.declared.cells.Place.{Place}
use Rattle.routing.specs.declared.cells.Road.{Road}
use Rattle.routing.specs.Network.{Meaning}
use Rattle.replay.specs.declared.faults.ListingFault.TheVariants.{TooLate, TooHeavy}
use Rattle.replay.specs.declared.vans.Priced.{Priced}
use Rattle.replay.specs.Answer.{price_answer}
use Rattle.measures.specs.Load.{load_measuring}
use Rattle.leaf.specs.declared.faults.LeafFault.TheVariants.{Entry, Depot, Bound}
use Rattle.checking.specs.declared.calls.Grant.{Grant}
use Rattle.checking.specs.declared.calls.Grant.TheVariants.{Presented, Closed, Stands}
use Rattle.checking.specs.declared.calls.Standing.TheVariants.{Proved}
use Rattle.checking.specs.declared.faults.CheckFault.{CheckFault}
use Rattle.checking.specs.declared.faults.CheckFault.TheVariants.{NotCheaper, Leaf}
use Rattle.checking.specs.Calls.{opening, Request, presenting, closing, asking, answers}

abbrev pub depot : (from : ℕ) → from ≤ 100 → Place
depot from early = record { load = 0; opening = from; closing = 100; service = 0; loads = omega arith; opens = early; closes = omega arith; serves = omega arith }

abbrev pub stop : (load to : ℕ) → load ≤ 10 → to ≤ 100 → Place
stop load to light soon = record { load = load; opening = 0; closing = to; service = 0; loads = omega arith; opens = omega arith; closes = omega arith; serves = omega arith }

-- an arc as dear as it is long
abbrev road : (length : ℕ) → length ≤ 5 → Road
road length near = record { cost = length; travel = length; cheap = omega arith; short = omega arith }

abbrev arc : ℕ → ℕ → Option Road
arc zero zero = None
arc zero (suc zero) = Some (road 4 (omega arith))
arc zero (suc (suc zero)) = Some (road 5 (omega arith))
arc zero (suc (suc (suc j))) = None
arc (suc zero) zero = Some (road 4 (omega arith))
arc (suc zero) (suc zero) = None
arc (suc zero) (suc (suc zero)) = Some (road 3 (omega arith))
arc (suc zero) (suc (suc (suc j))) = None
arc (suc (suc zero)) zero = Some (road 5 (omega arith))
arc (suc (suc zero)) (suc zero) = Some (road 3 (omega arith))
arc (suc (suc zero)) (suc (suc j)) = None
arc (suc (suc (suc i))) j = None

abbrev places : Place → Place → ℕ → Option Place
places d first zero = Some d
places d first (suc zero) = Some first
places d first (suc (suc zero)) = Some (stop 5 50 (omega arith) (omega arith))
places d first (suc (suc (suc i))) = None

-- the case with this depot, this first customer and this capacity
abbrev pub case_with : Place → Place → ℕ → Meaning
case_with d first capacity = record { customers = 2; place = places d first; capacity = capacity; fleet = record { least = 0; most = 2; least_few = omega arith; most_few = omega arith }; arc = arc }

abbrev usual : Place
usual = depot 0 (omega arith)

abbrev first_stop : Place
first_stop = stop 4 50 (omega arith) (omega arith)

abbrev pub two_stops : Meaning
two_stops = case_with usual first_stop 10

-- the depot opens at 6, and customer 1 closes at this minute
abbrev pub late : (to : ℕ) → to ≤ 100 → Meaning
late to soon = case_with (depot 6 (omega arith)) (stop 4 to (omega arith) soon) 10

-- a number in so many bytes, the least part first
abbrev bytes_of : ℕ → ℕ → List ℕ
bytes_of zero n = []
bytes_of (suc size) n = n % 256 ∷ bytes_of size (n / 256)

abbrev entry : ℕ → ℕ → ℕ → List ℕ
entry place corner value = place ∷ (bytes_of 8 value ++ bytes_of 8 corner)

-- leaf K by load, with this van price, this first dual and this first value
abbrev pub leaf_k : ℕ → ℕ → ℕ → List ℕ
leaf_k price dual value =
    76 ∷ (bytes_of 2 1 ++ (bytes_of 8 price ++ (bytes_of 8 dual ++ (bytes_of 8 7 ++ (bytes_of 2 4 ++ (entry 1 4 value ++ (entry 1 9 4 ++ (entry 2 5 2 ++ entry 2 9 5))))))))

-- a log over a case, by load
abbrev pub log : Meaning → List Request → List (Result Grant CheckFault)
log m calls = answers load_measuring m opening calls

abbrev pub one_route : List ℕ
one_route = 1 ∷ 2 ∷ 0 ∷ []

abbrev pub two_routes : List ℕ
two_routes = 1 ∷ 0 ∷ 2 ∷ 0 ∷ []

abbrev pub at_cost : ℕ → ℕ → Priced
at_cost cost routes = record { cost = cost; routes = routes }

pub record Worked : Type 0 where
  pub one_route_costs_12 : price_answer two_stops one_route ≡ Ok (at_cost 12 1)
  pub two_routes_cost_18 : price_answer two_stops two_routes ≡ Ok (at_cost 18 2)
  pub dearer_denied : log two_stops (presenting one_route ∷ presenting two_routes ∷ []) ≡ Ok (Presented (at_cost 12 1)) ∷ Err (NotCheaper 18) ∷ []
  pub closes_proved : log two_stops (presenting one_route ∷ closing (leaf_k 0 5 1) ∷ asking ∷ []) ≡ Ok (Presented (at_cost 12 1)) ∷ Ok Closed ∷ Ok (Stands (Proved 12)) ∷ []
  pub value_too_high : log two_stops (presenting one_route ∷ closing (leaf_k 0 5 2) ∷ []) ≡ Ok (Presented (at_cost 12 1)) ∷ Err (Leaf (Entry 1 2 29)) ∷ []
  pub price_too_high : log two_stops (presenting one_route ∷ closing (leaf_k 1 5 1) ∷ []) ≡ Ok (Presented (at_cost 12 1)) ∷ Err (Leaf (Depot 1)) ∷ []
  pub dual_too_low : log two_stops (presenting one_route ∷ closing (leaf_k 0 4 1) ∷ []) ≡ Ok (Presented (at_cost 12 1)) ∷ Err (Leaf Bound) ∷ []
  pub too_late : price_answer (late 9 (omega arith)) one_route ≡ Err (TooLate 0 1 0)
  pub just_in_time : price_answer (late 10 (omega arith)) one_route ≡ Ok (at_cost 12 1)
  pub too_heavy : price_answer (case_with usual first_stop 8) one_route ≡ Err (TooHeavy 1 2 1)
  pub just_light : price_answer (case_with usual first_stop 9) one_route ≡ Ok (at_cost 12 1)
