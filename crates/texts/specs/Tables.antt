-- The tables of a case: a line for each place, and a row of arcs for each place.
use Rattle.std.specs.Prelude.{ℕ, List, Ok, Err, Option}
use Rattle.std.specs.List.{flat_map}
use Rattle.texts.specs.Judging.{State, Judged, times}
use Rattle.texts.specs.Lines.{Stop, place_due, row_due}

-- the first place is the depot
abbrev pub places_due : ℕ → State → Judged (List Stop)
places_due side s = times place_due 0 side s

-- rows one after another
abbrev pub flat : {X : Type 0} → Judged (List (List X)) → Judged (List X)
flat (Ok p) = Ok (flat_map (λ row. row) p.0, p.1)
flat (Err f) = Err f

abbrev pub rows_due : ℕ → State → Judged (List (Option (ℕ × ℕ)))
rows_due side s = flat (times (row_due side) 0 side s)
