-- The answer due to a listing: its cost and routes, or the first fault in the order of the rules.
use Rattle.std.specs.Prelude.{ℕ, false, cond, ◌||◌, List, [], Some, None, Ok, Err, Option, Result, nat_lt}
use Rattle.routing.specs.declared.cells.Fleet.{Fleet}
use Rattle.routing.specs.Network.{Meaning}
use Rattle.replay.specs.declared.faults.ListingFault.{ListingFault}
use Rattle.replay.specs.declared.faults.ListingFault.TheVariants.{Misplaced, Repeated, Missing, FleetSize}
use Rattle.replay.specs.declared.vans.Priced.{Priced}
use Rattle.replay.specs.Drive.{drive_answer}
use Rattle.replay.specs.Listing.{misplaced, repeated, missing}

-- granted where nothing was found, else the fault at what was found
abbrev pub unless : Option ℕ → (ℕ → ListingFault) → Result (Unit {0}) ListingFault → Result (Unit {0}) ListingFault
unless None fault next = next
unless (Some k) fault next = Err (fault k)

abbrev pub form_answer : ℕ → List ℕ → Result (Unit {0}) ListingFault
form_answer n l = unless (misplaced n false 0 l) Misplaced (Ok tt)

abbrev pub once_answer : ℕ → List ℕ → Result (Unit {0}) ListingFault
once_answer n l = unless (repeated [] 0 l) Repeated (unless (missing l 1 n) Missing (Ok tt))

abbrev pub fleet_answer : Fleet → Priced → Result Priced ListingFault
fleet_answer fleet p = cond (nat_lt p.routes fleet.least || nat_lt fleet.most p.routes) (Err (FleetSize p.routes)) (Ok p)

abbrev pub after : {X Y : Type 0} → Result X ListingFault → (X → Result Y ListingFault) → Result Y ListingFault
after (Err f) go = Err f
after (Ok x) go = go x

abbrev pub price_answer : Meaning → List ℕ → Result Priced ListingFault
price_answer m l =
    after (form_answer m.customers l) λ _. after (once_answer m.customers l) λ _. after (drive_answer m l) λ p. fleet_answer m.fleet p
