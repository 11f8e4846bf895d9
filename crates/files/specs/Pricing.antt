-- What two files are answered: the price of the plan on the case's network, or the first fault.
use Rattle.std.specs.Prelude.{◌≡◌, ℕ, List, Ok, Err, Result}
use Rattle.routing.specs.Network.{Meaning}
use Rattle.routing.specs.Routes.{Plan}
use Rattle.replay.specs.declared.vans.Priced.{Priced}
use Rattle.replay.specs.declared.faults.ListingFault.{ListingFault}
use Rattle.replay.specs.Answer.{price_answer}
use Rattle.replay.specs.Listing.{written}
use Rattle.replay.specs.Prices.{price_of}
use Rattle.texts.specs.Plans.{plan_answer}
use Rattle.texts.specs.Written.{PlanText}
use Rattle.files.specs.declared.faults.FileFault.{FileFault}
use Rattle.files.specs.declared.faults.FileFault.TheVariants.{Refused, Listing}
use Rattle.files.specs.Reading.{CaseNetwork, Denied}

abbrev pub listing_answer : Result Priced ListingFault → Result Priced FileFault
listing_answer (Ok p) = Ok p
listing_answer (Err f) = Err (Listing f)

-- both texts are read: the answer is that of the plan's listing on the case's network
pub record BothRead (case plan : List ℕ) (r : Result Priced FileFault) : Type 0 where
  pub network : Meaning
  pub is_network : CaseNetwork case network
  pub listing : List ℕ
  pub is_listing : plan_answer plan 120 ≡ Ok listing
  pub answer : r ≡ listing_answer (price_answer network listing)

-- priced: the case is that of a network, the plan text lists a plan of it, and this is that plan's price
pub record PricedPlan (case plan : List ℕ) (p : Priced) : Type 0 where
  pub network : Meaning
  pub is_network : CaseNetwork case network
  pub routes : List (List ℕ)
  pub is_listing : PlanText plan (written routes)
  pub is_plan : Plan network routes
  pub price : p ≡ price_of network routes

abbrev pub FilesPriced : List ℕ → List ℕ → Result Priced FileFault → Type 0
FilesPriced case plan (Ok p) = BothRead case plan (Ok p) × PricedPlan case plan p
FilesPriced case plan (Err (Refused f)) = Denied case plan f
FilesPriced case plan (Err (Listing f)) = BothRead case plan (Err (Listing f))
