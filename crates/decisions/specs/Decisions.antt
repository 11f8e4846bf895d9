-- Branching decisions on arcs, and what is left of a network under them.
use Rattle.std.specs.Prelude.{ℕ, Bool, true, false, cond, not, ◌&&◌, ◌||◌, List, [], ◌∷◌, None, Option, ◌==◌}
use Rattle.std.specs.List.{list_any}
use Rattle.routing.specs.declared.cells.Road.{Road}
use Rattle.routing.specs.Network.{Meaning}
use Rattle.decisions.specs.declared.decision.Decision.{Decision}
use Rattle.decisions.specs.declared.decision.Side.{Side}
use Rattle.decisions.specs.declared.decision.Side.TheVariants.{First, Second}

-- the two sides of a fork on an arc
abbrev pub forbid : ℕ → ℕ → Decision
forbid i j = record { from = i; to = j; side = First }

abbrev pub force : ℕ → ℕ → Decision
force i j = record { from = i; to = j; side = Second }

abbrev pub turned : Decision → Decision
turned d = force d.from d.to

abbrev pub is_second : Side → Bool
is_second First = false
is_second Second = true

abbrev pub second : Decision → Bool
second d = is_second d.side

-- the arc from i to j is the decision's own
abbrev pub own : Decision → ℕ → ℕ → Bool
own d i j = i == d.from && j == d.to

-- the arc from i to j shares a customer with the decision's own, at its start or at its end
abbrev pub rivals : Decision → ℕ → ℕ → Bool
rivals d i j = (i == d.from && not (i == 0)) || (j == d.to && not (j == 0))

-- forbidden, the decision's own arc is gone; forced, every other arc that shares a customer with it
abbrev pub removes_on : Side → Decision → ℕ → ℕ → Bool
removes_on First d i j = own d i j
removes_on Second d i j = not (own d i j) && rivals d i j

abbrev pub removes : Decision → ℕ → ℕ → Bool
removes d = removes_on d.side d

abbrev pub Arcs : Type 0
Arcs = ℕ → ℕ → Option Road

-- the arcs that a decision leaves
abbrev pub left_by : Decision → Arcs → Arcs
left_by d arcs i j = cond (removes d i j) None (arcs i j)

-- the arcs that decisions leave, from the first to the last
abbrev pub left_by_all : List Decision → Arcs → Arcs
left_by_all [] arcs = arcs
left_by_all (d ∷ ds) arcs = left_by_all ds (left_by d arcs)

-- the same network with other arcs
abbrev pub with_arcs : Meaning → Arcs → Meaning
with_arcs m arcs = record { customers = m.customers; place = m.place; capacity = m.capacity; fleet = m.fleet; arc = arcs }

-- the network under one decision, and under decisions
abbrev pub under : Decision → Meaning → Meaning
under d m = with_arcs m (left_by d m.arc)

abbrev pub decided : Meaning → List Decision → Meaning
decided m ds = with_arcs m (left_by_all ds m.arc)

-- some decision removes the arc from i to j
abbrev pub removed : List Decision → ℕ → ℕ → Bool
removed ds i j = list_any (λ d. removes d i j) ds
