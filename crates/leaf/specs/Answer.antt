-- The answer due to a leaf: granted, or the first fault in the order of the rules.
use Rattle.std.specs.Prelude.{ℕ, zero, suc, ◌+◌, ◌*◌, Bool, true, false, cond, List, [], ◌∷◌, map, ℤ, pos, ◌+ℤ◌, ◌-ℤ◌, ◌*ℤ◌, Some, None, Ok, Err, Option, Result, ◌==◌, int_le, int_lt}
use Rattle.std.specs.List.{range_with_len}
use Rattle.routing.specs.declared.cells.Place.{Place}
use Rattle.routing.specs.declared.cells.Road.{Road}
use Rattle.routing.specs.Network.{Meaning}
use Rattle.measures.specs.Measure.{Measuring, move}
use Rattle.measures.specs.declared.moves.Move.{Move}
use Rattle.leaf.specs.declared.drives.Drive.{Drive}
use Rattle.leaf.specs.declared.faults.LeafFault.{LeafFault}
use Rattle.leaf.specs.declared.faults.LeafFault.TheVariants.{Entry, Depot, Bound}
use Rattle.leaf.specs.declared.potentials.Potential.{Potential}
use Rattle.leaf.specs.Fields.{after, read_leaf}
use Rattle.leaf.specs.Record.{entries_at, entry_size}
use Rattle.leaf.specs.Rule.{Leaf, best, bound, dual}

abbrev pub drive_along : Option Road → Option Move → Option Drive
drive_along None by = None
drive_along (Some road) None = None
drive_along (Some road) (Some by) = Some (record { road = road; by = by })

-- the drive along the arc from i to j, where there is one
abbrev pub drive : Meaning → ℕ → ℕ → Option Drive
drive m i j = drive_along (m.arc i j) (move m i j)

-- the drives from i to each place, home first
unfoldable pub drives : Meaning → ℕ → List (Option Drive)
drives m i = map (drive m i) (range_with_len 0 (m.customers + 1))

-- a value is at most what is left; an absent potential breaks the rule
abbrev pub potential_ok : ℤ → ℤ → Option ℤ → Bool
potential_ok v least None = false
potential_ok v least (Some h) = int_le v (least +ℤ h)

-- an absent step asks nothing
abbrev pub step_ok : {S : Type 0} → Measuring S → Leaf S → ℤ → ℕ → ℕ → Option S → Bool
step_ok μ leaf v j cost None = true
step_ok μ leaf v j cost (Some y) =
    cond (j == 0) (int_le v (pos (leaf.scale * cost))) (potential_ok v (pos (leaf.scale * cost) -ℤ dual leaf j) (best μ leaf.entries j y))

-- an absent arc asks nothing
abbrev pub drive_ok : {S : Type 0} → Measuring S → Leaf S → ℤ → S → ℕ → Option Drive → Bool
drive_ok μ leaf v s j None = true
drive_ok μ leaf v s j (Some d) = step_ok μ leaf v j d.road.cost (μ.step s d.by)

-- whether a value at a state and a place keeps the rule along the arc to j
abbrev pub arc_ok : {S : Type 0} → Measuring S → Meaning → Leaf S → ℤ → S → ℕ → ℕ → Bool
arc_ok μ m leaf v s i j = drive_ok μ leaf v s j (drive m i j)

-- the first end from j on, of so many, that fails
abbrev pub first_refused : (ℕ → Bool) → ℕ → ℕ → Option ℕ
first_refused ok j zero = None
first_refused ok j (suc more) = cond (ok j) (first_refused ok (j + 1) more) (Some j)

abbrev pub unless : Option ℕ → (ℕ → LeafFault) → Result (Unit {0}) LeafFault → Result (Unit {0}) LeafFault
unless None fault next = next
unless (Some j) fault next = Err (fault j)

-- the entries from an offset on, each of so many bytes: home first, then the customers
abbrev pub entries_answer : {S : Type 0} → Measuring S → Meaning → Leaf S → ℕ → ℕ → List (Potential S) → Result (Unit {0}) LeafFault
entries_answer μ m leaf at size [] = Ok tt
entries_answer μ m leaf at size (e ∷ es) =
    unless (first_refused (arc_ok μ m leaf e.value e.corner e.place) 0 (m.customers + 1)) (λ j. Entry e.place j at) (entries_answer μ m leaf (at + size) size es)

-- the arcs from the depot, at its opening
abbrev pub depot_answer : {S : Type 0} → Measuring S → Meaning → Leaf S → Option Place → Result (Unit {0}) LeafFault
depot_answer μ m leaf None = Ok tt
depot_answer μ m leaf (Some p) =
    unless (first_refused (arc_ok μ m leaf leaf.van_price (μ.start p.opening) 0) 1 m.customers) Depot (Ok tt)

abbrev pub bound_answer : {S : Type 0} → Meaning → Leaf S → ℕ → Result (Unit {0}) LeafFault
bound_answer m leaf z = cond (int_lt (pos leaf.scale *ℤ (pos z -ℤ pos 1)) (bound m leaf)) (Ok tt) (Err Bound)

abbrev pub rule_answer : {S : Type 0} → Measuring S → Meaning → Leaf S → ℕ → Result (Unit {0}) LeafFault
rule_answer μ m leaf z =
    after (entries_answer μ m leaf (entries_at m.customers) (entry_size μ.words) leaf.entries) λ _.
    after (depot_answer μ m leaf (m.place 0)) λ _.
    bound_answer m leaf z

abbrev pub leaf_answer : {S : Type 0} → Measuring S → Meaning → List ℕ → ℕ → Result (Unit {0}) LeafFault
leaf_answer μ m bytes z = after (read_leaf μ m.customers bytes) λ leaf. rule_answer μ m leaf z
