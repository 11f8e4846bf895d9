-- The number, arc and place of each fault of a listing.
use Rattle.std.specs.Prelude.{ℕ}
use Rattle.routing.specs.declared.denials.Denial.{Denial}
use Rattle.replay.specs.declared.faults.ListingFault.{ListingFault}
use Rattle.replay.specs.declared.faults.ListingFault.TheVariants.{Misplaced, Repeated, Missing, NoArc, TooLate, TooHeavy, FleetSize}

abbrev at : ℕ → ℕ → Denial
at number place = record { number = number; from = 0; to = 0; place = place }

abbrev pub listing_denial : ListingFault → Denial
listing_denial (Misplaced index) = at 10 index
listing_denial (Repeated index) = at 11 index
listing_denial (Missing customer) = at 12 customer
listing_denial (NoArc from to index) = record { number = 13; from = from; to = to; place = index }
listing_denial (TooLate from to index) = record { number = 14; from = from; to = to; place = index }
listing_denial (TooHeavy from to index) = record { number = 15; from = from; to = to; place = index }
listing_denial (FleetSize routes) = at 16 routes
