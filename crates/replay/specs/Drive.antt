-- Driving a listing as early as the windows allow: each stop in turn, or the first arc that cannot be driven.
use Rattle.std.specs.Prelude.{ℕ, ◌+◌, max, cond, List, [], ◌∷◌, Some, None, Ok, Err, Option, Result, ◌==◌, nat_lt}
use Rattle.routing.specs.declared.cells.Place.{Place}
use Rattle.routing.specs.declared.cells.Road.{Road}
use Rattle.routing.specs.Network.{Meaning}
use Rattle.replay.specs.declared.faults.ListingFault.{ListingFault}
use Rattle.replay.specs.declared.faults.ListingFault.TheVariants.{NoArc, TooLate, TooHeavy}
use Rattle.replay.specs.declared.vans.Van.{Van}
use Rattle.replay.specs.declared.vans.Priced.{Priced}

-- at the depot, ready from its opening on
abbrev pub ready_van : Place → ℕ → ℕ → Van
ready_van depot cost routes = record { at = 0; ready = depot.opening; load = 0; cost = cost; routes = routes }

-- service begun at the stop as early as can be, or back home
abbrev pub served : Van → ℕ → Road → Place → Van
served v j road p =
    cond (j == 0) (ready_van p (v.cost + road.cost) (v.routes + 1))
    (record { at = j; ready = max (v.ready + road.travel) p.opening + p.service; load = v.load + p.load; cost = v.cost + road.cost; routes = v.routes })

-- too late where even the earliest start is after the closing, too heavy where the load passes the capacity
abbrev pub timed : ℕ → Van → ℕ → ℕ → Road → Place → Result Van ListingFault
timed capacity v k j road p =
    cond (nat_lt p.closing (max (v.ready + road.travel) p.opening)) (Err (TooLate v.at j k))
    (cond (nat_lt capacity (v.load + p.load)) (Err (TooHeavy v.at j k)) (Ok (served v j road p)))

abbrev pub arrived : Meaning → Van → ℕ → ℕ → Option Road → Option Place → Result Van ListingFault
arrived m v k j None p = Err (NoArc v.at j k)
arrived m v k j (Some road) None = Err (NoArc v.at j k)
arrived m v k j (Some road) (Some p) = timed m.capacity v k j road p

-- the arc to the listing's number j, which stands at index k
abbrev pub stepped : Meaning → Van → ℕ → ℕ → Result Van ListingFault
stepped m v k j = arrived m v k j (m.arc v.at j) (m.place j)

abbrev pub followed : Result Van ListingFault → (Van → Result Priced ListingFault) → Result Priced ListingFault
followed (Err f) go = Err f
followed (Ok v) go = go v

-- the rest of a listing from index k on
abbrev pub driven : Meaning → Van → ℕ → List ℕ → Result Priced ListingFault
driven m v k [] = Ok (record { cost = v.cost; routes = v.routes })
driven m v k (j ∷ l) = followed (stepped m v k j) (λ w. driven m w (k + 1) l)

abbrev pub drive_from : Meaning → Option Place → List ℕ → Result Priced ListingFault
drive_from m None l = Err (NoArc 0 0 0)
drive_from m (Some depot) l = driven m (ready_van depot 0 0) 0 l

abbrev pub drive_answer : Meaning → List ℕ → Result Priced ListingFault
drive_answer m l = drive_from m (m.place 0) l
