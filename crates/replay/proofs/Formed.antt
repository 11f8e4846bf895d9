-- A list keeps the form exactly where it is the listing of some routes.
use Rattle.std.proofs.Common.{◌≡◌, ℕ, ◌+◌, ◌≤◌, Bool, true, false, cond, not, eqb, List, [], ◌∷◌, ◌++◌, length, Some, None, Option, sym, refl, ap, ◌∙◌, subst, ap₂, ⊎_elim, append_assoc, arith}
use Rattle.std.proofs.lemmas.Bool.{cases_eq, both_ways, and_from, cond-false, eq-eqb, ne_eqb, ltb-false, le-ltb, or_parts, or_from, and_left}
use Rattle.std.specs.List.{AllByRecursion}
use Rattle.replay.specs.Listing.{written, breaks, misplaced}

-- a customer of n
abbrev pub In : ℕ → ℕ → Type 0
In n c = (1 ≤ c) × (c ≤ n)

abbrev pub Stops : ℕ → List ℕ → Type 0
Stops n route = (1 ≤ length route) × AllByRecursion (In n) route

pub unfound : {X : Type 0} (b : Bool) (x : X) (o : Option X) → cond b (Some x) o ≡ None → (b ≡ false) × (o ≡ None)
unfound true x o e = absurd (let z : ◌≡◌ {A = ℕ} 0 1 = cc in omega arith)
unfound false x o e = (refl, e)

-- the listing of one route more
pub written_cons : (route : List ℕ) (routes : List (List ℕ)) → written (route ∷ routes) ≡ route ++ (0 ∷ written routes)
written_cons route routes = append_assoc route (0 ∷ []) (written routes)

-- what is left of a listing while a route has begun, and between routes
pub record Begun (n : ℕ) (l : List ℕ) : Type 0 where
  pub route : List ℕ
  pub routes : List (List ℕ)
  pub is : l ≡ route ++ (0 ∷ written routes)
  pub stops : AllByRecursion (In n) route
  pub others : AllByRecursion (Stops n) routes

pub record Whole (n : ℕ) (l : List ℕ) : Type 0 where
  pub routes : List (List ℕ)
  pub is : l ≡ written routes
  pub stops : AllByRecursion (Stops n) routes

abbrev Left : ℕ → Bool → List ℕ → Type 0
Left n true l = Begun n l
Left n false l = Whole n l

begun_at : (n : ℕ) (b : Bool) (j : ℕ) (l : List ℕ) → breaks n b j ≡ false → Left n (not (eqb j 0)) l → Left n b (j ∷ l)
begun_at n b j l fine left = ⊎_elim (ends b fine) goes (cases_eq j 0)
  where
    ends : (b : Bool) → breaks n b j ≡ false → j ≡ 0 → Left n b (j ∷ l)
    ends true fine e =
        let whole = subst (λ x. Left n (not x) l) (eq-eqb j 0 e) left in
        record { route = []; routes = whole.routes; is = ap₂ ◌∷◌ e whole.is; stops = tt; others = whole.stops }
    ends false fine e =
        absurd (both_ways _ (or_parts _ _ fine).1 (and_from (eqb j 0) true (eq-eqb j 0 e) refl))

    goes : (j ≡ 0 → ⊥) → Left n b (j ∷ l)
    goes some =
        let rest = subst (λ x. Left n (not x) l) (ne_eqb j 0 some) left in
        let here : In n j = (omega (arith, some), ltb-false n j (or_parts _ _ fine).0) in
        placed b (record { route = j ∷ rest.route; routes = rest.routes; is = ap (λ x. j ∷ x) rest.is; stops = (here, rest.stops); others = rest.others }) (omega arith)
      where
        placed : (b : Bool) (r : Begun n (j ∷ l)) → 1 ≤ length r.route → Left n b (j ∷ l)
        placed true r some = r
        placed false r some = record { routes = r.route ∷ r.routes; is = r.is ∙ sym (written_cons r.route r.routes); stops = ((some, r.stops), r.others) }

-- a list that keeps the form is the listing of some routes
pub formed : (n : ℕ) (b : Bool) (k : ℕ) (l : List ℕ) → misplaced n b k l ≡ None → Left n b l
formed n true k [] e = absurd (let z : ◌≡◌ {A = ℕ} 0 1 = cc in omega arith)
formed n false k [] e = record { routes = []; is = refl; stops = tt }
formed n b k (j ∷ l) e = let u = unfound _ _ _ e in begun_at n b j l u.0 (formed n (not (eqb j 0)) (k + 1) l u.1)

home_fits : (n : ℕ) → breaks n true 0 ≡ false
home_fits n = or_from _ _ (le-ltb n 0 (omega arith)) refl

stop_fits : (n : ℕ) (b : Bool) (j : ℕ) → In n j → breaks n b j ≡ false
stop_fits n b j here = or_from _ _ (le-ltb n j here.1) (and_left _ _ (ne_eqb j 0 (λ e. omega (arith, here.0))))

past_stop : (n : ℕ) (b : Bool) (k j : ℕ) (l : List ℕ) → In n j → misplaced n true (k + 1) l ≡ None → misplaced n b k (j ∷ l) ≡ None
past_stop n b k j l here rest =
    cond-false _ _ _ (stop_fits n b j here) ∙ ap (λ x. misplaced n (not x) (k + 1) l) (ne_eqb j 0 (λ e. omega (arith, here.0))) ∙ rest

begun_fits : (n : ℕ) (route l : List ℕ) → AllByRecursion (In n) route → ((k : ℕ) → 1 ≤ k → misplaced n false k l ≡ None) → (k : ℕ) → misplaced n true k (route ++ (0 ∷ l)) ≡ None
begun_fits n [] l all after k = cond-false _ _ _ (home_fits n) ∙ after (k + 1) (omega arith)
begun_fits n (j ∷ route) l all after k = past_stop n true k j (route ++ (0 ∷ l)) all.0 (begun_fits n route l all.1 after (k + 1))

route_fits : (n : ℕ) (route l : List ℕ) → Stops n route → ((k : ℕ) → 1 ≤ k → misplaced n false k l ≡ None) → (k : ℕ) → misplaced n false k (route ++ (0 ∷ l)) ≡ None
route_fits n [] l stops after k = absurd (omega (arith, stops.0))
route_fits n (j ∷ route) l stops after k = past_stop n false k j (route ++ (0 ∷ l)) stops.1.0 (begun_fits n route l stops.1.1 after (k + 1))

after_routes : (n : ℕ) (routes : List (List ℕ)) → AllByRecursion (Stops n) routes → (k : ℕ) → 1 ≤ k → misplaced n false k (written routes) ≡ None
after_routes n [] all k some = cond-false _ _ _ (ne_eqb k 0 (λ e. omega arith))
after_routes n (route ∷ routes) all k some =
    ap (misplaced n false k) (written_cons route routes) ∙ route_fits n route (written routes) all.0 (after_routes n routes all.1) k

-- the listing of one or more routes keeps the form
pub fits : (n : ℕ) (routes : List (List ℕ)) → AllByRecursion (Stops n) routes → 1 ≤ length routes → misplaced n false 0 (written routes) ≡ None
fits n [] all some = absurd (omega arith)
fits n (route ∷ routes) all some =
    ap (misplaced n false 0) (written_cons route routes) ∙ route_fits n route (written routes) all.0 (after_routes n routes all.1) 0
