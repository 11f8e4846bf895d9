-- A listing is priced exactly when it is one of a plan, at that plan's cost.
use Rattle.std.specs.Prelude.{◌≡◌, ℕ, List, length, Ok, Result}
use Rattle.routing.specs.Network.{Meaning}
use Rattle.routing.specs.Routes.{Plan, plan_cost}
use Rattle.replay.specs.declared.faults.ListingFault.{ListingFault}
use Rattle.replay.specs.declared.vans.Priced.{Priced}
use Rattle.replay.specs.Listing.{written}

abbrev pub price_of : Meaning → List (List ℕ) → Priced
price_of m routes = record { cost = plan_cost m routes; routes = length routes }

pub record Prices (m : Meaning) (l : List ℕ) (r : Result Priced ListingFault) : Type 0 where
  pub plan_is_priced : (routes : List (List ℕ)) → l ≡ written routes → Plan m routes → r ≡ Ok (price_of m routes)
  pub priced_is_plan : (p : Priced) → r ≡ Ok p → (routes : List (List ℕ)) × (l ≡ written routes) × Plan m routes × (p ≡ price_of m routes)
