-- What a network means, and the limits that every network keeps.
use Rattle.std.specs.Prelude.{◌≡◌, ℕ, ◌<◌, ◌≤◌, true, is_some, Some, None, Option}
use Rattle.routing.specs.declared.cells.Fleet.{Fleet}
use Rattle.routing.specs.declared.cells.Place.{Place}
use Rattle.routing.specs.declared.cells.Road.{Road}

-- the number of customers; each place's record; the capacity; the fleet; and for each ordered pair of places an arc, or none
pub record Meaning : Type 0 where
  pub customers : ℕ
  pub place : ℕ → Option Place
  pub capacity : ℕ
  pub fleet : Fleet
  pub arc : ℕ → ℕ → Option Road

-- what holds of an arc from i to j
pub record ArcLimits (m : Meaning) (i j : ℕ) : Type 0 where
  pub start : i ≤ m.customers
  pub end : j ≤ m.customers
  pub apart : i ≡ j → ⊥

pub record Limits (m : Meaning) : Type 0 where
  pub some : 1 ≤ m.customers
  pub few : m.customers ≤ 60
  pub present : (i : ℕ) → i ≤ m.customers → is_some (m.place i) ≡ true
  pub absent : (i : ℕ) → m.customers < i → m.place i ≡ None
  pub depot : (p : Place) → m.place 0 ≡ Some p → (p.load ≡ 0) × (p.service ≡ 0)
  pub capacity : m.capacity ≤ 10000
  pub arcs : (i j : ℕ) (road : Road) → m.arc i j ≡ Some road → ArcLimits m i j
