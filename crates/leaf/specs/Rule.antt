-- The leaf rule, over any meaning of a network and of a measure.
use Rattle.std.specs.Prelude.{◌≡◌, ℕ, ◌-◌, ◌*◌, ◌≤◌, cond, ◌&&◌, List, [], ◌∷◌, ℤ, pos, ◌+ℤ◌, ◌-ℤ◌, ◌*ℤ◌, ◌≤ℤ◌, ◌<ℤ◌, Some, None, Option, ◌==◌, int_lt, slice_index_or}
use Rattle.std.specs.Int.{int_max}
use Rattle.std.specs.List.{AllByRecursion}
use Rattle.routing.specs.declared.cells.Place.{Place}
use Rattle.routing.specs.declared.cells.Road.{Road}
use Rattle.routing.specs.Network.{Meaning}
use Rattle.measures.specs.Measure.{Measuring, after_arc}
use Rattle.leaf.specs.declared.potentials.Potential.{Potential}

-- the scale of all values, the van price, a dual for each customer from 1 on, and the entries
pub record Leaf (S : Type 0) : Type 0 where
  pub scale : ℕ
  pub van_price : ℤ
  pub duals : List ℤ
  pub entries : List (Potential S)

abbrev pub dual : {S : Type 0} → Leaf S → ℕ → ℤ
dual leaf c = slice_index_or leaf.duals (c - 1) (pos 0)

abbrev pub larger : ℤ → Option ℤ → ℤ
larger v None = v
larger v (Some w) = int_max v w

-- the greatest value among the entries at j whose corner is at most y
abbrev pub best : {S : Type 0} → Measuring S → List (Potential S) → ℕ → S → Option ℤ
best μ [] j y = None
best μ (e ∷ es) j y = cond (e.place == j && μ.at_most e.corner y) (Some (larger e.value (best μ es j y))) (best μ es j y)

-- what the arc from i to a customer j asks of a value at a state: wherever the step is there, so is a potential at its end,
-- and the value is at most the scaled cost less the dual plus that potential
abbrev pub Onward : {S : Type 0} → Measuring S → Meaning → Leaf S → ℤ → S → ℕ → ℕ → Type 0
Onward {S} μ m leaf v s i j =
    (road : Road) → m.arc i j ≡ Some road → (y : S) → after_arc μ m s i j ≡ Some y → (h : ℤ) × (best μ leaf.entries j y ≡ Some h) × (v ≤ℤ ((pos (leaf.scale * road.cost) -ℤ dual leaf j) +ℤ h))

-- what the arc home asks
abbrev pub Home : {S : Type 0} → Measuring S → Meaning → Leaf S → ℤ → S → ℕ → Type 0
Home {S} μ m leaf v s i =
    (road : Road) → m.arc i 0 ≡ Some road → (y : S) → after_arc μ m s i 0 ≡ Some y → v ≤ℤ pos (leaf.scale * road.cost)

abbrev pub EntryHolds : {S : Type 0} → Measuring S → Meaning → Leaf S → Potential S → Type 0
EntryHolds μ m leaf e =
    Home μ m leaf e.value e.corner e.place × ((j : ℕ) → 1 ≤ j → Onward μ m leaf e.value e.corner e.place j)

abbrev pub sum_z : List ℤ → ℤ
sum_z [] = pos 0
sum_z (x ∷ xs) = x +ℤ sum_z xs

-- how many vans the van price counts: the least, or the most where it is negative
abbrev pub vans_counted : Meaning → ℤ → ℕ
vans_counted m r = cond (int_lt r (pos 0)) m.fleet.most m.fleet.least

abbrev pub bound : {S : Type 0} → Meaning → Leaf S → ℤ
bound m leaf = sum_z leaf.duals +ℤ (leaf.van_price *ℤ pos (vans_counted m leaf.van_price))

-- the rule at a network, for the cost z of a plan
pub record Holds {S : Type 0} (μ : Measuring S) (m : Meaning) (leaf : Leaf S) (z : ℕ) : Type 0 where
  pub entries : AllByRecursion (EntryHolds μ m leaf) leaf.entries
  pub depot : (p : Place) → m.place 0 ≡ Some p → (j : ℕ) → 1 ≤ j → Onward μ m leaf leaf.van_price (μ.start p.opening) 0 j
  pub bounds : (pos leaf.scale *ℤ (pos z -ℤ pos 1)) <ℤ bound m leaf
