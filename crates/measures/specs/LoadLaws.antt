-- Load keeps the laws of a measure.
use Rattle.std.specs.Prelude.{◌≡◌, ℕ, ◌+◌, ◌≤◌, true, List, Some, nat_le}
use Rattle.std.proofs.Common.{ap, ◌∙◌, arith}
use Rattle.std.proofs.lemmas.Bool.{le-leb, leb-true}
use Rattle.routing.specs.Network.{Meaning, Limits}
use Rattle.routing.specs.Routes.{OnTime, place_load, route_load}
use Rattle.routing.specs.Routes.OnTime.{home, stop}
use Rattle.measures.specs.declared.moves.Move.{Move}
use Rattle.measures.specs.Measure.{Laws, Steps}
use Rattle.measures.specs.Measure.Steps.{home as last, stop as next}
use Rattle.measures.specs.Along.{within_some, within_let, after_drive}
use Rattle.measures.specs.Load.{load_measuring, load_step}

-- from a lighter state the same move leads to a lighter state
alike : (a b : ℕ) (by : Move) (y : ℕ) → nat_le a b ≡ true → load_step b by ≡ Some y → (x : ℕ) × (load_step a by ≡ Some x) × (nat_le x y ≡ true)
alike a b by y le e =
    let low = leb-true a b le in
    let later = within_let by.capacity (b + by.load) y e in
    let x = a + by.load in
    (x, within_some by.capacity x (omega arith), le-leb x y (omega arith))

module _ (m : Meaning) (limits : Limits m) where
  -- a van whose stops to come fit is never too full; the depot adds nothing
  fits : {i ready : ℕ} {rest : List ℕ} → OnTime m i ready rest → (s : ℕ) → s + route_load m rest ≤ m.capacity → Steps load_measuring m s i rest
  fits {i} (home d back there closed) s light =
      let bare = (limits.depot d.reached d.reached_is).0 in
      let y = s + d.reached.load in
      last y (after_drive load_measuring m s i 0 d ∙ within_some m.capacity y (omega arith))
  fits {i} (stop {j = j} {rest = rest} d start there opened closed on) s light =
      let carried = ap place_load d.reached_is in
      let y = s + d.reached.load in
      next y (after_drive load_measuring m s i j d ∙ within_some m.capacity y (omega arith)) (fits on y (omega arith))

pub load_laws : Laws load_measuring
load_laws = record {
  few_words = omega arith;
  reflexive = λ a. le-leb a a (omega arith);
  transitive = λ a b c p q. let low = leb-true a b p in let high = leb-true b c q in le-leb a c (omega arith);
  steps_alike = alike;
  never_absent = λ m limits depot depot_is stops drivable. fits m limits drivable.schedule.on_time 0 (omega (arith, drivable.light));
}
