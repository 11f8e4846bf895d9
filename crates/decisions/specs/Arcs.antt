-- The arcs that routes use.
use Rattle.std.specs.Prelude.{ℕ, Bool, false, ◌&&◌, ◌||◌, List, [], ◌∷◌, ◌==◌}
use Rattle.std.specs.List.{flat_map}

-- from a place through the stops and home
abbrev pub arcs_from : ℕ → List ℕ → List (ℕ × ℕ)
arcs_from i [] = (i, 0) ∷ []
arcs_from i (j ∷ rest) = (i, j) ∷ arcs_from j rest

-- from the depot to the first stop, from each to the next, and from the last home
abbrev pub route_arcs : List ℕ → List (ℕ × ℕ)
route_arcs = arcs_from 0

abbrev pub plan_arcs : List (List ℕ) → List (ℕ × ℕ)
plan_arcs = flat_map route_arcs

abbrev pub same_arc : ℕ × ℕ → ℕ × ℕ → Bool
same_arc a b = a.0 == b.0 && a.1 == b.1

-- whether an arc is among those used
abbrev pub uses : ℕ × ℕ → List (ℕ × ℕ) → Bool
uses arc [] = false
uses arc (a ∷ arcs) = same_arc a arc || uses arc arcs
