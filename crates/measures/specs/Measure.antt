-- What a measure means, and the four laws that every measure keeps.
use Rattle.std.specs.Prelude.{◌≡◌, ℕ, ◌≤◌, Bool, true, cond, List, [], ◌∷◌, Some, None, Option, ◌==◌}
use Rattle.routing.specs.declared.cells.Place.{Place}
use Rattle.routing.specs.declared.cells.Road.{Road}
use Rattle.routing.specs.Network.{Meaning, Limits}
use Rattle.routing.specs.Routes.{Drivable}
use Rattle.measures.specs.declared.moves.Move.{Move}

-- how many words of eight bytes a corner takes; the state at the depot, from its opening; the state after a move, or none;
-- whether one state is at most another; the state that a corner's words read as, or none
pub record Measuring (S : Type 0) : Type 0 where
  pub words : ℕ
  pub start : ℕ → S
  pub step : S → Move → Option S
  pub at_most : S → S → Bool
  pub read : List ℕ → Option S

-- the service at the place left, 0 at the depot
abbrev pub service_left : ℕ → Place → ℕ
service_left i p = cond (i == 0) 0 p.service

abbrev pub move_along : Meaning → ℕ → ℕ → Place → Place → Road → Move
move_along m i j left reached road = record {
  to = j;
  opening = reached.opening;
  closing = reached.closing;
  load = reached.load;
  service = service_left i left;
  travel = road.travel;
  capacity = m.capacity;
}

abbrev pub move_of : Meaning → ℕ → ℕ → Option Place → Option Place → Option Road → Option Move
move_of m i j (Some left) (Some reached) (Some road) = Some (move_along m i j left reached road)
move_of m i j (Some left) (Some reached) None = None
move_of m i j (Some left) None arc = None
move_of m i j None reached arc = None

-- the move along the arc from i to j, where there is one
abbrev pub move : Meaning → ℕ → ℕ → Option Move
move m i j = move_of m i j (m.place i) (m.place j) (m.arc i j)

abbrev pub moved : {S : Type 0} → Measuring S → S → Option Move → Option S
moved μ s None = None
moved μ s (Some by) = μ.step s by

-- the state after the arc from i to j
abbrev pub after_arc : {S : Type 0} → Measuring S → Meaning → S → ℕ → ℕ → Option S
after_arc μ m s i j = moved μ s (move m i j)

-- from a state at a place, no step through the stops and home is absent
pub data Steps {S : Type 0} (μ : Measuring S) (m : Meaning) : S → ℕ → List ℕ → Type 0 where
  home : {s : S} {i : ℕ} (y : S) → after_arc μ m s i 0 ≡ Some y → Steps μ m s i []
  stop : {s : S} {i j : ℕ} {rest : List ℕ} (y : S) → after_arc μ m s i j ≡ Some y → Steps μ m y j rest → Steps μ m s i (j ∷ rest)

pub record Laws {S : Type 0} (μ : Measuring S) : Type 0 where
  pub few_words : μ.words ≤ 100
  pub reflexive : (a : S) → μ.at_most a a ≡ true
  pub transitive : (a b c : S) → μ.at_most a b ≡ true → μ.at_most b c ≡ true → μ.at_most a c ≡ true
  pub steps_alike : (a b : S) (by : Move) (y : S) → μ.at_most a b ≡ true → μ.step b by ≡ Some y → (x : S) × (μ.step a by ≡ Some x) × (μ.at_most x y ≡ true)
  pub never_absent : (m : Meaning) → Limits m → (depot : Place) → m.place 0 ≡ Some depot → (stops : List ℕ) → Drivable m stops → Steps μ m (μ.start depot.opening) 0 stops
