-- Along a route that can be driven, the van price is at most the scaled cost less the duals of the stops.
use Rattle.std.proofs.Common.{◌≡◌, ℕ, ◌*◌, ◌≤◌, true, List, length, ℤ, pos, ◌-ℤ◌, ◌≤ℤ◌, Some, None, Option, refl, ap, subst, arith}
use Rattle.std.proofs.ByRecursion.{All-weaker}
use Rattle.std.proofs.lemmas.Int.{ints}
use Rattle.std.specs.List.{AllByRecursion}
use Rattle.routing.specs.declared.cells.Place.{Place}
use Rattle.routing.specs.declared.cells.Road.{Road}
use Rattle.routing.specs.Network.{Meaning, Limits}
use Rattle.routing.specs.Routes.{Drivable, Customer, cost_from, arc_cost, route_cost}
use Rattle.measures.specs.Measure.{Measuring, Laws, Steps, after_arc, moved, move_of, move}
use Rattle.measures.specs.Measure.Steps.{home, stop}
use Rattle.measures.specs.declared.moves.Move.{Move}
use Rattle.leaf.specs.Rule.{Leaf, Home, Onward, EntryHolds, Holds, dual}
use Rattle.leaf.proofs.Best.{best_reached}
use Rattle.leaf.proofs.Sums.{total_z}

-- a step that is there has its arc there
moved_arc : {S : Type 0} (μ : Measuring S) (m : Meaning) (s y : S) (i j : ℕ) (left reached : Option Place) (arc : Option Road) → moved μ s (move_of m i j left reached arc) ≡ Some y → (a : Road) × (arc ≡ Some a)
moved_arc μ m s y i j None reached arc e = absurd (let z : ◌≡◌ {A = ℕ} 0 1 = cc in omega arith)
moved_arc μ m s y i j (Some p) None arc e = absurd (let z : ◌≡◌ {A = ℕ} 0 1 = cc in omega arith)
moved_arc μ m s y i j (Some p) (Some q) None e = absurd (let z : ◌≡◌ {A = ℕ} 0 1 = cc in omega arith)
moved_arc μ m s y i j (Some p) (Some q) (Some a) e = (a, refl)

pub step_arc : {S : Type 0} (μ : Measuring S) (m : Meaning) (s y : S) (i j : ℕ) → after_arc μ m s i j ≡ Some y → (a : Road) × (m.arc i j ≡ Some a)
step_arc μ m s y i j e = moved_arc μ m s y i j (m.place i) (m.place j) (m.arc i j) e

-- a state at most another has a step wherever that has one, and to a state at most its end
pub moves_alike : {S : Type 0} (μ : Measuring S) → Laws μ → (a b y : S) (by : Option Move) → μ.at_most a b ≡ true → moved μ b by ≡ Some y → (x : S) × (moved μ a by ≡ Some x) × (μ.at_most x y ≡ true)
moves_alike μ laws a b y None le e = absurd (let z : ◌≡◌ {A = ℕ} 0 1 = cc in omega arith)
moves_alike μ laws a b y (Some by) le e = laws.steps_alike a b by y le e

-- what the rule asks of a value at a state and a place, towards every customer
abbrev OnwardAll : {S : Type 0} → Measuring S → Meaning → Leaf S → ℤ → S → ℕ → Type 0
OnwardAll μ m leaf v s i = (j : ℕ) → 1 ≤ j → Onward μ m leaf v s i j

module _ {S : Type 0} (μ : Measuring S) (m : Meaning) (leaf : Leaf S) (laws : Laws μ) (z : ℕ) (rule : Holds μ m leaf z) where
  -- a value that the rule keeps at a state p is, from any state that p is at most, at most the scaled cost of the stops and home less their duals
  along : {s : S} {i : ℕ} {stops : List ℕ} → Steps μ m s i stops → AllByRecursion (λ c. 1 ≤ c) stops → (v : ℤ) (p : S) → μ.at_most p s ≡ true → (length stops ≡ 0 → Home μ m leaf v p i) → OnwardAll μ m leaf v p i → v ≤ℤ (pos (leaf.scale * cost_from m i stops) -ℤ total_z (dual leaf) stops)
  along {s} {i} (home y is) all v p low at_home onward =
      let arc = step_arc μ m s y i 0 is in
      let x = moves_alike μ laws p s y (move m i 0) low is in
      let last = at_home refl arc.0 arc.1 x.0 x.1 in
      omega (arith, ints, ap (λ o. leaf.scale * arc_cost o) arc.1)
  along {s} {i} (stop {j = j} y is on) all v p low at_home onward =
      let arc = step_arc μ m s y i j is in
      let x = moves_alike μ laws p s y (move m i j) low is in
      let next = onward j all.0 arc.0 arc.1 x.0 x.1 in
      let reached = best_reached μ j x.0 (EntryHolds μ m leaf) leaf.entries next.0 rule.entries next.1 in
      let e = reached.0 in
      let kept : EntryHolds μ m leaf e = reached.1 in
      let left = along on all.1 e.value e.corner (laws.transitive _ _ _ reached.2.below x.2) (λ _. subst (Home μ m leaf e.value e.corner) reached.2.at kept.0) (subst (OnwardAll μ m leaf e.value e.corner) reached.2.at kept.1) in
      omega (arith, ints, ap (λ o. leaf.scale * arc_cost o) arc.1)

  -- the van price, over a route that can be driven
  pub route_bounds : Limits m → (stops : List ℕ) → Drivable m stops → leaf.van_price ≤ℤ (pos (leaf.scale * route_cost m stops) -ℤ total_z (dual leaf) stops)
  route_bounds limits stops d =
      let depot = d.schedule.depot in
      let is = d.schedule.depot_is in
      along (laws.never_absent m limits depot is stops d) (All-weaker (Customer m) (λ c. 1 ≤ c) (λ c h. h.0) stops d.route.customers) leaf.van_price (μ.start depot.opening) (laws.reflexive _) (λ none. absurd (omega (arith, d.route.some))) (rule.depot depot is)
