-- Driving as early as possible succeeds exactly where some schedule does.
use Rattle.std.proofs.Common.{◌≡◌, ℕ, ◌+◌, ◌≤◌, max, Bool, true, false, cond, List, [], ◌∷◌, ◌++◌, is_some, Some, None, Ok, Err, Option, Result, sym, refl, ap, ◌∙◌, ap₂, arith}
use Rattle.std.proofs.lemmas.Bool.{cond-false, ne_eqb, ltb-false}
use Rattle.std.specs.List.{AllByRecursion}
use Rattle.routing.specs.declared.cells.Place.{Place}
use Rattle.routing.specs.declared.cells.Road.{Road}
use Rattle.routing.specs.Network.{Meaning, Limits}
use Rattle.routing.specs.Routes.{OnTime, route_load, cost_from, arc_cost, place_load}
use Rattle.routing.specs.Routes.OnTime.{home, stop}
use Rattle.replay.specs.declared.faults.ListingFault.{ListingFault}
use Rattle.replay.specs.declared.vans.Van.{Van}
use Rattle.replay.specs.declared.vans.Priced.{Priced}
use Rattle.replay.specs.Drive.{arrived, served, followed, driven, ready_van}
use Rattle.replay.proofs.Steps.{stepped_served}

abbrev pub van : ℕ → ℕ → ℕ → ℕ → ℕ → Van
van i ready load cost routes = record { at = i; ready = ready; load = load; cost = cost; routes = routes }

-- a test that led to Ok
granted : (b : Bool) (f : ListingFault) (r : Result Van ListingFault) (w : Van) → cond b (Err f) r ≡ Ok w → (b ≡ false) × (r ≡ Ok w)
granted true f r w e = absurd (let z : ◌≡◌ {A = ℕ} 0 1 = cc in omega arith)
granted false f r w e = (refl, e)

ok_same : (v w : Van) → ◌≡◌ {A = Result Van ListingFault} (Ok v) (Ok w) → v ≡ w
ok_same v w e = cc

went_on : (r : Result Van ListingFault) (go : Van → Result Priced ListingFault) (p : Priced) → followed r go ≡ Ok p → (w : Van) × (r ≡ Ok w) × (go w ≡ Ok p)
went_on (Err f) go p e = absurd (let z : ◌≡◌ {A = ℕ} 0 1 = cc in omega arith)
went_on (Ok w) go p e = (w, refl, e)

pub known : (o : Option Place) → is_some o ≡ true → (p : Place) × (o ≡ Some p)
known None e = absurd (let z : ◌≡◌ {A = ℕ} 0 1 = ap (λ b. cond {A = ℕ} b 1 0) e in omega arith)
known (Some p) e = (p, refl)

module _ (m : Meaning) (lawful : Limits m) (depot : Place) (depot_is : m.place 0 ≡ Some depot) where
  -- what is left of a listing after the route is driven home
  abbrev pub After : ℕ → ℕ → ℕ → List ℕ → List ℕ → ℕ → Result Priced ListingFault
  After i cost routes rest l k = driven m (ready_van depot (cost + cost_from m i rest) (routes + 1)) k l

  -- a route that some schedule serves is driven home
  pub drives : {i late : ℕ} {rest : List ℕ} → OnTime m i late rest → (ready load cost routes : ℕ) (l : List ℕ) → ready ≤ late → AllByRecursion (λ c. 1 ≤ c) rest → load + route_load m rest ≤ m.capacity → (k : ℕ) → (k' : ℕ) × (driven m (van i ready load cost routes) k (rest ++ (0 ∷ l)) ≡ After i cost routes rest l k')
  drives {i} (home d back there closed) ready load cost routes l early all light k =
      let same : d.reached ≡ depot = cc in
      let bare = (lawful.depot d.reached d.reached_is).0 in
      let opens = d.reached.opens in
      let step = stepped_served m (van i ready load cost routes) k 0 d.road d.reached d.arc_is d.reached_is (omega arith) (omega arith) in
      let go : Result Van ListingFault → Result Priced ListingFault = λ r. followed r (λ w. driven m w (k + 1) l) in
      let back_home : Place → ℕ → Result Priced ListingFault = λ q c. driven m (ready_van q (cost + c) (routes + 1)) (k + 1) l in
      (k + 1, ap go step ∙ ap₂ back_home same (sym (ap arc_cost d.arc_is)))
  drives {i} (stop {j = j} {rest = rest} d start there opened closed on) ready load cost routes l early all light k =
      let p = d.reached in
      let s = max (ready + d.road.travel) p.opening in
      let carried = ap place_load d.reached_is in
      let step = stepped_served m (van i ready load cost routes) k j d.road p d.arc_is d.reached_is (omega arith) (omega arith) in
      let stopped = cond-false _ _ _ (ne_eqb j 0 (λ e. omega (arith, all.0))) in
      let rec = drives on (s + p.service) (load + p.load) (cost + d.road.cost) routes l (omega arith) all.1 (omega arith) (k + 1) in
      let go : Result Van ListingFault → Result Priced ListingFault = λ r. followed r (λ w. driven m w (k + 1) (rest ++ (0 ∷ l))) in
      let paid : cost + d.road.cost + cost_from m j rest ≡ cost + cost_from m i (j ∷ rest) = omega (arith, ap arc_cost d.arc_is) in
      (rec.0, ap go (step ∙ ap Ok stopped) ∙ rec.1 ∙ ap (λ c. driven m (ready_van depot c (routes + 1)) rec.0 l) paid)

  -- what a step that is granted says of its arc
  record Passed (v : Van) (j : ℕ) (o : Option Road) (q : Option Place) (w : Van) : Type 0 where
    road : Road
    arc_is : o ≡ Some road
    reached : Place
    reached_is : q ≡ Some reached
    early : max (v.ready + road.travel) reached.opening ≤ reached.closing
    light : v.load + reached.load ≤ m.capacity
    is : w ≡ served v j road reached

  passed : (v : Van) (k j : ℕ) (o : Option Road) (q : Option Place) (w : Van) → arrived m v k j o q ≡ Ok w → Passed v j o q w
  passed v k j None q w e = absurd (let z : ◌≡◌ {A = ℕ} 0 1 = cc in omega arith)
  passed v k j (Some a) None w e = absurd (let z : ◌≡◌ {A = ℕ} 0 1 = cc in omega arith)
  passed v k j (Some a) (Some p) w e =
      let first = granted _ _ _ w e in
      let second = granted _ _ _ w first.1 in
      record {
        road = a;
        arc_is = refl;
        reached = p;
        reached_is = refl;
        early = ltb-false p.closing _ first.0;
        light = ltb-false m.capacity _ second.0;
        is = ok_same _ _ (sym second.1);
      }

  abbrev On_from : Van → ℕ → List ℕ → Priced → Type 0
  On_from w k l p = driven m w k l ≡ Ok p

  pub record Homed (i ready load cost routes : ℕ) (rest l : List ℕ) (p : Priced) : Type 0 where
    pub on_time : OnTime m i ready rest
    pub light : load + route_load m rest ≤ m.capacity
    pub next : ℕ
    pub after : After i cost routes rest l next ≡ Ok p

  -- a route that is driven home has a schedule and is light enough
  pub homed : (rest l : List ℕ) (i ready load cost routes : ℕ) → AllByRecursion (λ c. 1 ≤ c) rest → (k : ℕ) (p : Priced) → driven m (van i ready load cost routes) k (rest ++ (0 ∷ l)) ≡ Ok p → Homed i ready load cost routes rest l p
  homed [] l i ready load cost routes all k p e =
      let on = went_on _ _ p e in
      let a = passed (van i ready load cost routes) k 0 (m.arc i 0) (m.place 0) on.0 on.1 in
      let within = lawful.arcs i 0 a.road a.arc_is in
      let left = known (m.place i) (lawful.present i within.start) in
      let same : a.reached ≡ depot = cc a.reached_is in
      let bare = (lawful.depot a.reached a.reached_is).0 in
      let paid : a.road.cost ≡ arc_cost (m.arc i 0) = sym (ap arc_cost a.arc_is) in
      let back_home : Place → ℕ → Result Priced ListingFault = λ q c. driven m (ready_van q (cost + c) (routes + 1)) (k + 1) l in
      let went : On_from on.0 (k + 1) l p = on.2 in
      record {
        on_time = home (record { left = left.0; left_is = left.1; reached = a.reached; reached_is = a.reached_is; road = a.road; arc_is = a.arc_is }) (max (ready + a.road.travel) a.reached.opening) (omega arith) a.early;
        light = omega (arith, a.light, bare);
        next = k + 1;
        after = sym (ap₂ back_home same paid) ∙ ap (λ w. driven m w (k + 1) l) (sym a.is) ∙ went;
      }
  homed (j ∷ rest) l i ready load cost routes all k p e =
      let on = went_on _ _ p e in
      let a = passed (van i ready load cost routes) k j (m.arc i j) (m.place j) on.0 on.1 in
      let within = lawful.arcs i j a.road a.arc_is in
      let left = known (m.place i) (lawful.present i within.start) in
      let s = max (ready + a.road.travel) a.reached.opening in
      let stopped : served (van i ready load cost routes) j a.road a.reached ≡ van j (s + a.reached.service) (load + a.reached.load) (cost + a.road.cost) routes = cond-false _ _ _ (ne_eqb j 0 (λ e. omega (arith, all.0))) in
      let went : On_from on.0 (k + 1) (rest ++ (0 ∷ l)) p = on.2 in
      let rec = homed rest l j (s + a.reached.service) (load + a.reached.load) (cost + a.road.cost) routes all.1 (k + 1) p (ap (λ w. driven m w (k + 1) (rest ++ (0 ∷ l))) (sym (a.is ∙ stopped)) ∙ went) in
      let carried : place_load (m.place j) ≡ a.reached.load = ap place_load a.reached_is in
      let paid : cost + a.road.cost + cost_from m j rest ≡ cost + cost_from m i (j ∷ rest) = omega (arith, ap arc_cost a.arc_is) in
      record {
        on_time = stop (record { left = left.0; left_is = left.1; reached = a.reached; reached_is = a.reached_is; road = a.road; arc_is = a.arc_is }) s (omega arith) (omega arith) a.early rec.on_time;
        light = omega (arith, rec.light, carried);
        next = rec.next;
        after = ap (λ c. driven m (ready_van depot c (routes + 1)) rec.next l) (sym paid) ∙ rec.after;
      }
