-- The decisions of a branch as a list, and how a search goes from one branch to the next.
use Rattle.std.specs.Prelude.{Bool, false, cond, ◌-◌, List, [], ◌∷◌, length, take, Some, None, Option, slice_get}
use Rattle.decisions.specs.declared.decision.Decision.{Decision}
use Rattle.decisions.specs.declared.decisions.Decisions.{Decisions}
use Rattle.decisions.specs.Decisions.{second, turned}

-- the decisions kept, from the first to the last
abbrev pub kept : Decisions → List Decision
kept x = take x.len x.entries

-- the last decision on its second side
abbrev pub turned_last : List Decision → List Decision
turned_last [] = []
turned_last (d ∷ []) = turned d ∷ []
turned_last (d ∷ (e ∷ ds)) = d ∷ turned_last (e ∷ ds)

-- whether there is a last decision, and on its second side
abbrev pub some_second : Option Decision → Bool
some_second None = false
some_second (Some d) = second d

abbrev pub ends_second : List Decision → Bool
ends_second ds = some_second (slice_get ds (length ds - 1))

-- a decision before others: dropped where it is last and on its second side
abbrev pub unless_second : Decision → List Decision → List Decision
unless_second d [] = cond (second d) [] (d ∷ [])
unless_second d (e ∷ ds) = d ∷ (e ∷ ds)

-- without the second sides at the end
abbrev pub trimmed : List Decision → List Decision
trimmed [] = []
trimmed (d ∷ ds) = unless_second d (trimmed ds)

-- the next branch, once a branch is done
abbrev pub backed_up : List Decision → List Decision
backed_up ds = turned_last (trimmed ds)
