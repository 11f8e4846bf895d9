-- What a case's tables mean: places from the depot on, arcs row by row.
use Rattle.std.specs.Prelude.{ℕ, ◌+◌, ◌*◌, cond, not, ◌&&◌, List, Some, None, Option, ◌==◌, nat_le}
use Rattle.std.proofs.Common.{arith}
use Rattle.std.specs.List.{slice_get}
use Rattle.routing.specs.declared.cells.Place.{Place}
use Rattle.routing.specs.declared.cells.Road.{Road}
use Rattle.routing.specs.declared.cells.Head.{Head}
use Rattle.routing.specs.Network.{Meaning}

-- the same window with no load and no service
abbrev pub unladen : Place → Place
unladen p = record { load = 0; opening = p.opening; closing = p.closing; service = 0; loads = omega arith; opens = p.opens; closes = p.closes; serves = omega arith }

abbrev pub depot_of : Option Place → Option Place
depot_of None = None
depot_of (Some p) = Some (unladen p)

abbrev pub arc_of : Option (Option Road) → Option Road
arc_of None = None
arc_of (Some road) = road

-- the depot is without load and service whatever the table holds, and no place has an arc to itself
abbrev pub table_place : Head → List Place → ℕ → Option Place
table_place h places i = cond (i == 0) (depot_of (slice_get places 0)) (cond (nat_le i h.customers) (slice_get places i) None)

abbrev pub table_arc : Head → List (Option Road) → ℕ → ℕ → Option Road
table_arc h arcs i j =
    cond (nat_le i h.customers && (nat_le j h.customers && not (i == j))) (arc_of (slice_get arcs (i * (h.customers + 1) + j))) None

abbrev pub table_meaning : Head → List Place → List (Option Road) → Meaning
table_meaning h places arcs = record {
  customers = h.customers;
  place = table_place h places;
  capacity = h.capacity;
  fleet = h.fleet;
  arc = table_arc h arcs;
}
