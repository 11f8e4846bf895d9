-- What one arc comes to.
use Rattle.std.proofs.Common.{◌≡◌, ℕ, ◌+◌, ◌≤◌, max, Some, Ok, ◌∙◌, ap₂}
use Rattle.std.proofs.lemmas.Bool.{cond-false, le-ltb}
use Rattle.routing.specs.declared.cells.Place.{Place}
use Rattle.routing.specs.declared.cells.Road.{Road}
use Rattle.routing.specs.Network.{Meaning}
use Rattle.replay.specs.declared.vans.Van.{Van}
use Rattle.replay.specs.Drive.{stepped, arrived, timed, served}

module _ (m : Meaning) (v : Van) (k j : ℕ) (road : Road) (p : Place) where
  -- where the arc and its end are there
  pub stepped_timed : m.arc v.at j ≡ Some road → m.place j ≡ Some p → stepped m v k j ≡ timed m.capacity v k j road p
  stepped_timed arc place = ap₂ (arrived m v k j) arc place

  pub stepped_served : m.arc v.at j ≡ Some road → m.place j ≡ Some p → max (v.ready + road.travel) p.opening ≤ p.closing → v.load + p.load ≤ m.capacity → stepped m v k j ≡ Ok (served v j road p)
  stepped_served arc place early light =
      stepped_timed arc place ∙ cond-false _ _ _ (le-ltb p.closing _ early) ∙ cond-false _ _ _ (le-ltb m.capacity _ light)
