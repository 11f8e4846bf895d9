-- A leaf whose rule holds bounds every plan's cost from below.
use Rattle.std.proofs.Common.{◌≡◌, ℕ, zero, suc, ◌*◌, ◌<◌, ◌≤◌, List, [], ◌∷◌, length, ℤ, pos, negsuc, ◌-ℤ◌, ◌*ℤ◌, ◌≤ℤ◌, ◌<ℤ◌, ap, mul-le-mul_left, arith}
use native.Mathlib.Nat.{lt_of_mul-lt-mul_left}
use Rattle.std.proofs.ByRecursion.{All-append}
use Rattle.std.proofs.lemmas.Int.{ints}
use Rattle.std.proofs.lemmas.Bool.{cond-false, le-ltb}
use Rattle.std.specs.List.{AllByRecursion}
use Rattle.routing.specs.Network.{Meaning, Limits}
use Rattle.routing.specs.Routes.{Customer, Drivable, Plan, plan_cost, visits}
use Rattle.measures.specs.Measure.{Measuring, Laws}
use Rattle.leaf.specs.Rule.{Leaf, Holds, bound, dual, vans_counted}
use Rattle.leaf.proofs.AlongRoute.{route_bounds}
use Rattle.leaf.proofs.Sums.{total_z, totalZ_append, totalZ_once}

-- the vans that the price counts cost at most those of any fleet in the limits
counted_least : (m : Meaning) (r : ℤ) (k : ℕ) → m.fleet.least ≤ k → k ≤ m.fleet.most → (r *ℤ pos (vans_counted m r)) ≤ℤ (r *ℤ pos k)
counted_least m (pos a) k least most =
    let counted : vans_counted m (pos a) ≡ m.fleet.least = cond-false _ _ _ (le-ltb a 0 (omega arith)) in
    omega (arith, ints, ap (λ n. a * n) counted, mul-le-mul_left a least)
counted_least m (negsuc a) k least most = omega (arith, ints, mul-le-mul_left (suc a) most)

-- the customers of a plan's routes
visited : (m : Meaning) (routes : List (List ℕ)) → AllByRecursion (Drivable m) routes → AllByRecursion (Customer m) (visits routes)
visited m [] all = tt
visited m (route ∷ routes) all = All-append (Customer m) route (visits routes) all.0.route.customers (visited m routes all.1)

module _ {S : Type 0} (μ : Measuring S) (m : Meaning) (leaf : Leaf S) (laws : Laws μ) (z : ℕ) (rule : Holds μ m leaf z) where
  -- the van price of each route, over routes that can be driven
  routes_bound : Limits m → (routes : List (List ℕ)) → AllByRecursion (Drivable m) routes → (leaf.van_price *ℤ pos (length routes)) ≤ℤ (pos (leaf.scale * plan_cost m routes) -ℤ total_z (dual leaf) (visits routes))
  routes_bound limits [] all = omega (arith, ints)
  routes_bound limits (route ∷ routes) all =
      omega (
        arith,
        ints,
        route_bounds μ m leaf laws z rule limits route all.0,
        routes_bound limits routes all.1,
        totalZ_append (dual leaf) route (visits routes),
      )

-- what is less than the scaled cost, in whole numbers
scaled : (d z c : ℕ) (b : ℤ) → (pos d *ℤ (pos z -ℤ pos 1)) <ℤ b → b ≤ℤ pos (d * c) → z ≤ c
scaled d zero c b under over = omega arith
scaled d (suc k) c b under over =
    let less : pos (suc k) -ℤ pos 1 ≡ pos k = omega (arith, ints) in
    let below : pos (d * k) <ℤ b = rw less at under in
    let lt : d * k < d * c = omega (arith, ints) in
    lt_of_mul-lt-mul_left d lt

-- no plan costs less than z
pub leaf_bounds : {S : Type 0} (μ : Measuring S) (m : Meaning) (leaf : Leaf S) (z : ℕ) → Laws μ → Limits m → length leaf.duals ≡ m.customers → 1 ≤ leaf.scale → Holds μ m leaf z → (routes : List (List ℕ)) → Plan m routes → z ≤ plan_cost m routes
leaf_bounds μ m leaf z laws limits long some rule routes plan =
    let vans = counted_least m leaf.van_price (length routes) plan.least plan.most in
    let priced = routes_bound μ m leaf laws z rule limits routes plan.drivable in
    let customers : AllByRecursion (λ c. (1 ≤ c) × (c ≤ length leaf.duals)) (visits routes) = rw long (visited m routes plan.drivable) in
    let duals = totalZ_once leaf.duals (pos 0) (visits routes) customers (λ c low high. plan.once c (low, omega arith)) in
    scaled leaf.scale z (plan_cost m routes) (bound m leaf) rule.bounds (omega (arith, ints))
