use Rattle.std.proofs.Common.{sym, subst}
use Rattle.files.specs.Reading.{CaseNetwork, PlanListing}
use Rattle.files.proofs.Joining.{priced}
use Rattle.files.proofs.pricing.price_read.Goals as goal

pub returns : goal.returns
returns c case plan read =
    priced case plan c.listing.result.now _ (subst (CaseNetwork case) (sym c.network.ensures) read.network) (subst (PlanListing plan) (sym c.listing.ensures) read.listing) c.price.result c.price.ensures.value c.price.ensures.plans
