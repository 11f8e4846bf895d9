-- Time keeps the laws of a measure.
use Rattle.std.specs.Prelude.{◌≡◌, ℕ, ◌+◌, ◌≤◌, max, true, List, Some, nat_le}
use Rattle.std.proofs.Common.{ap, ◌∙◌, arith}
use Rattle.std.proofs.lemmas.Bool.{cond-false, ne_eqb, le-leb, leb-true}
use Rattle.std.proofs.ByRecursion.{All-weaker}
use Rattle.std.specs.List.{AllByRecursion}
use Rattle.routing.specs.declared.cells.Place.{Place}
use Rattle.routing.specs.Network.{Meaning}
use Rattle.routing.specs.Routes.{OnTime, Customer}
use Rattle.routing.specs.Routes.OnTime.{home, stop}
use Rattle.measures.specs.declared.moves.Move.{Move}
use Rattle.measures.specs.Measure.{Laws, Steps, service_left}
use Rattle.measures.specs.Measure.Steps.{home as last, stop as next}
use Rattle.measures.specs.Along.{within_some, within_let, after_drive}
use Rattle.measures.specs.Time.{time_measuring, time_step}

-- from an earlier state the same move leads to an earlier state
alike : (a b : ℕ) (by : Move) (y : ℕ) → nat_le a b ≡ true → time_step b by ≡ Some y → (x : ℕ) × (time_step a by ≡ Some x) × (nat_le x y ≡ true)
alike a b by y le e =
    let low = leb-true a b le in
    let later = within_let by.closing (max by.opening (b + by.service + by.travel)) y e in
    let x = max by.opening (a + by.service + by.travel) in
    (x, within_some by.closing x (omega arith), le-leb x y (omega arith))

module _ (m : Meaning) where
  -- the service at a customer that is left
  left_stop : (i : ℕ) (p : Place) → 1 ≤ i → service_left i p ≡ p.service
  left_stop i p some = cond-false _ _ _ (ne_eqb i 0 (λ e. omega arith))

  -- a van that is never behind some schedule is never late
  keeps_up : {i ready : ℕ} {rest : List ℕ} → OnTime m i ready rest → AllByRecursion (λ c. 1 ≤ c) rest → (s : ℕ) → ((p : Place) → m.place i ≡ Some p → s + service_left i p ≤ ready) → Steps time_measuring m s i rest
  keeps_up {i} (home d back there closed) all s early =
      let soon = early d.left d.left_is in
      let opens = d.reached.opens in
      let y = max d.reached.opening (s + service_left i d.left + d.road.travel) in
      last y (after_drive time_measuring m s i 0 d ∙ within_some d.reached.closing y (omega arith))
  keeps_up {i} (stop {j = j} {rest = rest} d start there opened closed on) all s early =
      let soon = early d.left d.left_is in
      let y = max d.reached.opening (s + service_left i d.left + d.road.travel) in
      let served : (p : Place) → m.place j ≡ Some p → y + service_left j p ≤ start + d.reached.service = λ p e.
      let same : p ≡ d.reached = cc d.reached_is in
      let left = left_stop j p all.0 in
      let takes = ap (λ q. q.service) same in
      omega arith in
      next y (after_drive time_measuring m s i j d ∙ within_some d.reached.closing y (omega arith)) (keeps_up on all.1 y served)

pub time_laws : Laws time_measuring
time_laws = record {
  few_words = omega arith;
  reflexive = λ a. le-leb a a (omega arith);
  transitive = λ a b c p q. let low = leb-true a b p in let high = leb-true b c q in le-leb a c (omega arith);
  steps_alike = alike;
  never_absent = λ m limits depot depot_is stops drivable.
      let at = drivable.schedule in
      let named = All-weaker (Customer m) (λ c. 1 ≤ c) (λ c h. h.0) stops drivable.route.customers in
      let same : at.depot ≡ depot = cc at.depot_is in
      let opens = ap (λ p. p.opening) same in
      keeps_up m at.on_time named depot.opening (λ p e. omega (arith, at.opened));
}
