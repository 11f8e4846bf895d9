-- A listing is priced exactly when it is one of a plan.
use Rattle.std.proofs.Common.{◌≡◌, ℕ, ◌+◌, ◌≤◌, Bool, true, false, cond, ◌||◌, ltb, List, [], ◌∷◌, ◌++◌, length, Some, None, Ok, Err, Option, Result, sym, refl, ap, ◌∙◌, ap₂, ⊎_elim, arith, length-append}
use Rattle.std.proofs.ByRecursion.{All-weaker, All-append}
use Rattle.std.proofs.lemmas.Bool.{cases_lt, cond-false, le-ltb, ltb-false, or_from, or_parts}
use Rattle.std.specs.List.{AllByRecursion}
use Rattle.routing.specs.declared.cells.Place.{Place}
use Rattle.routing.specs.Network.{Meaning, Limits}
use Rattle.routing.specs.Routes.{Schedule, Drivable, Plan, count, visits, route_load, route_cost, plan_cost}
use Rattle.routing.proofs.Counts.{count_append, length_once}
use Rattle.replay.specs.declared.faults.ListingFault.{ListingFault}
use Rattle.replay.specs.declared.faults.ListingFault.TheVariants.{Misplaced, Repeated, Missing}
use Rattle.replay.specs.declared.vans.Priced.{Priced}
use Rattle.replay.specs.Answer.{price_answer, form_answer, once_answer, fleet_answer, unless, after}
use Rattle.replay.specs.Drive.{driven, drive_answer, drive_from, ready_van}
use Rattle.replay.specs.Listing.{written, misplaced, repeated, missing}
use Rattle.replay.specs.Prices.{Prices, price_of}
use Rattle.replay.proofs.Formed.{In, Stops, formed, fits, written_cons}
use Rattle.replay.proofs.OnWay.{drives, homed, known}
use Rattle.replay.proofs.Visits.{at_most_once, never_repeated, none_missing, never_missing, count_written, count_none}

-- from the depot on, with so much cost and so many routes behind it
abbrev pub From : Meaning → Place → ℕ → ℕ → ℕ → List ℕ → Result Priced ListingFault
From m depot cost routes k l = driven m (ready_van depot cost routes) k l

abbrev sum_of : ℕ → ℕ → Priced
sum_of cost routes = record { cost = cost; routes = routes }

ok_same : (p q : Priced) → ◌≡◌ {A = Result Priced ListingFault} (Ok p) (Ok q) → p ≡ q
ok_same p q e = cc

went_after : {X : Type 0} (r : Result X ListingFault) (go : X → Result Priced ListingFault) (p : Priced) → after r go ≡ Ok p → (x : X) × (r ≡ Ok x) × (go x ≡ Ok p)
went_after (Err f) go p e = absurd (let z : ◌≡◌ {A = ℕ} 0 1 = cc in omega arith)
went_after (Ok x) go p e = (x, refl, e)

pub passed_unless : (o : Option ℕ) (fault : ℕ → ListingFault) (next : Result (Unit {0}) ListingFault) (u : Unit {0}) → unless o fault next ≡ Ok u → (o ≡ None) × (next ≡ Ok u)
passed_unless None fault next u e = (refl, e)
passed_unless (Some k) fault next u e = absurd (let z : ◌≡◌ {A = ℕ} 0 1 = cc in omega arith)

counted : (b : Bool) (f : ListingFault) (q p : Priced) → cond b (Err f) (Ok q) ≡ Ok p → (b ≡ false) × (q ≡ p)
counted true f q p e = absurd (let z : ◌≡◌ {A = ℕ} 0 1 = cc in omega arith)
counted false f q p e = (refl, ok_same q p e)

module _ (m : Meaning) (lawful : Limits m) (depot : Place) (depot_is : m.place 0 ≡ Some depot) where
  positive : (stops : List ℕ) → AllByRecursion (In m.customers) stops → AllByRecursion (λ c. 1 ≤ c) stops
  positive stops all = All-weaker (In m.customers) (λ c. 1 ≤ c) (λ c h. h.0) stops all

  plan_driven : (routes : List (List ℕ)) → AllByRecursion (Drivable m) routes → (cost so_far k : ℕ) → From m depot cost so_far k (written routes) ≡ Ok (sum_of (cost + plan_cost m routes) (so_far + length routes))
  plan_driven [] all cost so_far k = ap₂ (λ c r. Ok (sum_of c r)) (omega arith) (omega arith)
  plan_driven (route ∷ routes) all cost so_far k =
      let d = all.0 in
      let schedule = d.schedule in
      let same : schedule.depot ≡ depot = cc schedule.depot_is in
      let opens = ap (λ p. p.opening) same in
      let first = drives m lawful depot depot_is schedule.on_time depot.opening 0 cost so_far (written routes) (omega (arith, schedule.opened)) (positive route d.route.customers) (omega (arith, d.light)) k in
      ap (From m depot cost so_far k) (written_cons route routes) ∙ first.1 ∙ plan_driven routes all.1 (cost + route_cost m route) (so_far + 1) first.0 ∙ ap₂ (λ c r. Ok (sum_of c r)) (omega arith) (omega arith)

  record Sound (routes : List (List ℕ)) (cost so_far : ℕ) (p : Priced) : Type 0 where
    light : AllByRecursion (λ route. route_load m route ≤ m.capacity) routes
    schedules : AllByRecursion (Schedule m) routes
    is : p ≡ sum_of (cost + plan_cost m routes) (so_far + length routes)

  sound : (routes : List (List ℕ)) → AllByRecursion (Stops m.customers) routes → (cost so_far k : ℕ) (p : Priced) → From m depot cost so_far k (written routes) ≡ Ok p → Sound routes cost so_far p
  sound [] all cost so_far k p e =
      record { light = tt; schedules = tt; is = sym (ok_same _ _ e) ∙ ap₂ sum_of (omega arith) (omega arith) }
  sound (route ∷ routes) all cost so_far k p e =
      let first = homed m lawful depot depot_is route (written routes) 0 depot.opening 0 cost so_far (positive route all.0.1) k p (ap (From m depot cost so_far k) (sym (written_cons route routes)) ∙ e) in
      let rest = sound routes all.1 (cost + route_cost m route) (so_far + 1) first.next p first.after in
      record {
        light = (omega (arith, first.light), rest.light);
        schedules = (record { depot = depot; depot_is = depot_is; departure = depot.opening; opened = omega arith; on_time = first.on_time }, rest.schedules);
        is = rest.is ∙ ap₂ sum_of (omega arith) (omega arith);
      }

-- the customers of routes
all_visits : (n : ℕ) (routes : List (List ℕ)) → AllByRecursion (Stops n) routes → AllByRecursion (In n) (visits routes)
all_visits n [] all = tt
all_visits n (route ∷ routes) all = All-append (In n) route (visits routes) all.0.1 (all_visits n routes all.1)

module _ (m : Meaning) where
  distinct : (route : List ℕ) (others : ℕ → ℕ) → AllByRecursion (In m.customers) route → ((c : ℕ) → 1 ≤ c → count c route + others c ≤ 1) → (c : ℕ) → count c route ≤ 1
  distinct route others all once c =
      ⊎_elim (λ some. omega (arith, once c some)) (λ none. omega (arith, count_none c route (All-weaker (In m.customers) (λ x. c ≡ x → ⊥) (λ x h e. omega (arith, h.0)) route all))) (cases_lt 0 c)

  drivables : (routes : List (List ℕ)) → AllByRecursion (Stops m.customers) routes → ((c : ℕ) → 1 ≤ c → count c (visits routes) ≤ 1) → AllByRecursion (λ route. route_load m route ≤ m.capacity) routes → AllByRecursion (Schedule m) routes → AllByRecursion (Drivable m) routes
  drivables [] stops once light schedules = tt
  drivables (route ∷ routes) stops once light schedules =
      let split : (c : ℕ) → 1 ≤ c → count c route + count c (visits routes) ≤ 1 = λ c some. omega (arith, once c some, count_append c route (visits routes)) in (
        record {
          route = record { some = stops.0.0; customers = stops.0.1; distinct = distinct route (λ c. count c (visits routes)) stops.0.1 split };
          light = light.0;
          schedule = schedules.0;
        },
        drivables routes stops.1 (λ c some. omega (arith, split c some)) light.1 schedules.1,
      )

  stops_of : (routes : List (List ℕ)) → AllByRecursion (Drivable m) routes → AllByRecursion (Stops m.customers) routes
  stops_of routes all = All-weaker (Drivable m) (Stops m.customers) (λ route d. (d.route.some, d.route.customers)) routes all

-- where the form is kept and each customer stands once
pub record Listed (n : ℕ) (l : List ℕ) : Type 0 where
  pub routes : List (List ℕ)
  pub is : l ≡ written routes
  pub stops : AllByRecursion (Stops n) routes
  pub few : (c : ℕ) → 1 ≤ c → count c (visits routes) ≤ 1
  pub once : (c : ℕ) → 1 ≤ c → c ≤ n → count c (visits routes) ≡ 1

pub listed : (n : ℕ) (l : List ℕ) → misplaced n false 0 l ≡ None → repeated [] 0 l ≡ None → missing l 1 n ≡ None → Listed n l
listed n l placed distinct all =
    let whole = formed n false 0 l placed in
    let same : (c : ℕ) → 1 ≤ c → count c l ≡ count c (visits whole.routes) = λ c some. ap (count c) whole.is ∙ count_written c some whole.routes in
    let few : (c : ℕ) → 1 ≤ c → count c (visits whole.routes) ≤ 1 = λ c some. omega (arith, at_most_once [] 0 l distinct c some (omega arith), same c some) in
    record {
      routes = whole.routes;
      is = whole.is;
      stops = whole.stops;
      few = few;
      once = λ c some high. omega (arith, few c some, none_missing l 1 n all c some (omega arith), same c some);
    }

length_written : (n : ℕ) (routes : List (List ℕ)) → AllByRecursion (Stops n) routes → (length (written routes) ≡ length (visits routes) + length routes) × (length routes ≤ length (visits routes))
length_written n [] all = (refl, omega arith)
length_written n (route ∷ routes) all =
    let rest = length_written n routes all.1 in
    let long = length-append (route ++ (0 ∷ [])) (written routes) in
    let one = length-append route (0 ∷ []) in
    let seen = length-append route (visits routes) in
    (omega (arith, rest.0), omega (arith, rest.1, all.0.0))

-- a listing that visits each customer once is short
pub short : (n : ℕ) (l : List ℕ) → Listed n l → length l ≤ n + n
short n l h =
    let lengths = length_written n h.routes h.stops in
    omega (arith, ap length h.is, lengths.0, lengths.1, length_once n (visits h.routes) (all_visits n h.routes h.stops) h.once)

-- both directions
module _ (m : Meaning) (lawful : Limits m) (l : List ℕ) where
  some_route : (routes : List (List ℕ)) → Plan m routes → 1 ≤ length routes
  some_route [] plan = absurd (omega (arith, plan.once 1 (omega arith, lawful.some)))
  some_route (route ∷ routes) plan = omega arith

  never_twice : (routes : List (List ℕ)) → Plan m routes → (c : ℕ) → 1 ≤ c → count c (written routes) ≤ 1
  never_twice routes plan c some =
      ⊎_elim
      (λ above. omega (arith, count_written c some routes, count_none c (visits routes) (All-weaker (In m.customers) (λ x. c ≡ x → ⊥) (λ x h e. omega (arith, h.1)) (visits routes) (all_visits m.customers routes (stops_of m routes plan.drivable)))))
      (λ within. omega (arith, count_written c some routes, plan.once c (some, within)))
      (cases_lt m.customers c)

  pub plan_is_priced : (routes : List (List ℕ)) → l ≡ written routes → Plan m routes → price_answer m l ≡ Ok (price_of m routes)
  plan_is_priced routes is plan =
      let n = m.customers in
      let depot = known (m.place 0) (lawful.present 0 (omega arith)) in
      let placed : misplaced n false 0 l ≡ None = ap (misplaced n false 0) is ∙ fits n routes (stops_of m routes plan.drivable) (some_route routes plan) in
      let distinct : repeated [] 0 l ≡ None = never_repeated [] 0 l (λ c some. omega (arith, ap (count c) is, never_twice routes plan c some)) in
      let all : missing l 1 n ≡ None = never_missing l 1 n (λ c low high. omega (arith, ap (count c) is, count_written c low routes, plan.once c (low, omega arith))) in
      let form : form_answer n l ≡ Ok tt = ap (λ o. unless o Misplaced (Ok tt)) placed in
      let once : once_answer n l ≡ Ok tt = ap (λ o. unless o Repeated (unless (missing l 1 n) Missing (Ok tt))) distinct ∙ ap (λ o. unless o Missing (Ok tt)) all in
      let drove : drive_answer m l ≡ Ok (price_of m routes) =
      ap (drive_from m (m.place 0)) is ∙ ap (λ o. drive_from m o (written routes)) depot.1 ∙ plan_driven m lawful depot.0 depot.1 routes plan.drivable 0 0 0 ∙ ap₂ (λ c r. Ok (sum_of c r)) (omega arith) (omega arith) in
      let fleet : fleet_answer m.fleet (price_of m routes) ≡ Ok (price_of m routes) = cond-false _ _ _ (or_from _ _ (le-ltb (length routes) m.fleet.least plan.least) (le-ltb m.fleet.most (length routes) plan.most)) in
      ap (λ r. after r (λ _. after (once_answer n l) (λ _. after (drive_answer m l) (λ p. fleet_answer m.fleet p)))) form
      ∙ ap (λ r. after r (λ _. after (drive_answer m l) (λ p. fleet_answer m.fleet p))) once
      ∙ ap (λ r. after r (λ p. fleet_answer m.fleet p)) drove
      ∙ fleet

  pub priced_is_plan : (p : Priced) → price_answer m l ≡ Ok p → (routes : List (List ℕ)) × (l ≡ written routes) × Plan m routes × (p ≡ price_of m routes)
  priced_is_plan p e =
      let n = m.customers in
      let depot = known (m.place 0) (lawful.present 0 (omega arith)) in
      let formed_ok = went_after (form_answer n l) (λ _. after (once_answer n l) (λ _. after (drive_answer m l) (λ p. fleet_answer m.fleet p))) p e in
      let once_ok = went_after (once_answer n l) (λ _. after (drive_answer m l) (λ p. fleet_answer m.fleet p)) p formed_ok.2 in
      let drove_ok = went_after (drive_answer m l) (λ p. fleet_answer m.fleet p) p once_ok.2 in
      let q = drove_ok.0 in
      let fleet_ok = counted (ltb q.routes m.fleet.least || ltb m.fleet.most q.routes) _ q p drove_ok.2 in
      let within = or_parts _ _ fleet_ok.0 in
      let placed = passed_unless (misplaced n false 0 l) Misplaced (Ok tt) formed_ok.0 formed_ok.1 in
      let distinct = passed_unless (repeated [] 0 l) Repeated (unless (missing l 1 n) Missing (Ok tt)) once_ok.0 once_ok.1 in
      let all = passed_unless (missing l 1 n) Missing (Ok tt) once_ok.0 distinct.1 in
      let h = listed n l placed.0 distinct.0 all.0 in
      let drove : From m depot.0 0 0 0 (written h.routes) ≡ Ok q =
      ap (λ o. drive_from m o (written h.routes)) (sym depot.1) ∙ ap (drive_from m (m.place 0)) (sym h.is) ∙ drove_ok.1 in
      let s = sound m lawful depot.0 depot.1 h.routes h.stops 0 0 0 q drove in
      let price : q ≡ price_of m h.routes = s.is ∙ ap₂ sum_of (omega arith) (omega arith) in
      let number = ap (λ x. x.routes) price in (
        h.routes,
        h.is,
        record {
          least = omega (arith, ltb-false q.routes m.fleet.least within.0);
          most = omega (arith, ltb-false m.fleet.most q.routes within.1);
          drivable = drivables m h.routes h.stops h.few s.light s.schedules;
          once = λ c customer. h.once c customer.0 customer.1;
        },
        sym fleet_ok.1 ∙ price,
      )

  pub prices : Prices m l (price_answer m l)
  prices = record { plan_is_priced = plan_is_priced; priced_is_plan = priced_is_plan }
