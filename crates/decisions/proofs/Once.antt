-- A plan uses at most one arc out of a customer, and at most one into a customer.
use Rattle.std.proofs.Common.{◌≡◌, ℕ, ◌<◌, ◌≤◌, true, ◌||◌, List, [], ◌∷◌, ◌++◌, map, sym, refl, ap, ap₂, ◌∙◌, ⊎_elim, arith}
use Rattle.std.proofs.ByRecursion.{All-append}
use Rattle.std.proofs.lemmas.List.{map-append}
use Rattle.std.proofs.lemmas.Bool.{cases_Bool, cases_lt, and_parts, eqb-true, false≢true}
use Rattle.std.specs.List.{AllByRecursion}
use Rattle.routing.specs.Network.{Meaning}
use Rattle.routing.specs.Routes.{count, visits, Customer, Drivable, Plan}
use Rattle.routing.proofs.Counts.{count_append, count_same, count_other, count_push_other}
use Rattle.decisions.specs.Arcs.{arcs_from, route_arcs, plan_arcs, same_arc, uses}

pub same_is : (a b : ℕ × ℕ) → same_arc a b ≡ true → a ≡ b
same_is a b e =
    let p = and_parts _ _ e in
    ap₂ (λ i j. (i, j)) (eqb-true a.0 b.0 p.0) (eqb-true a.1 b.1 p.1)

-- the starts and the ends of a route's arcs are its stops and the depot
starts : (i : ℕ) (stops : List ℕ) → map (λ a. a.0) (arcs_from i stops) ≡ i ∷ stops
starts i [] = refl
starts i (j ∷ stops) = ap (λ l. i ∷ l) (starts j stops)

ends : (i : ℕ) (stops : List ℕ) → map (λ a. a.1) (arcs_from i stops) ≡ stops ++ (0 ∷ [])
ends i [] = refl
ends i (j ∷ stops) = ap (λ l. j ∷ l) (ends j stops)

count_arcs : (f : ℕ × ℕ → ℕ) (c : ℕ) → ((route : List ℕ) → count c (map f (route_arcs route)) ≡ count c route) → (routes : List (List ℕ)) → count c (map f (plan_arcs routes)) ≡ count c (visits routes)
count_arcs f c each [] = refl
count_arcs f c each (route ∷ routes) =
    omega (
      arith,
      ap (count c) (map-append f (route_arcs route) (plan_arcs routes)),
      count_append c (map f (route_arcs route)) (map f (plan_arcs routes)),
      each route,
      count_arcs f c each routes,
      count_append c route (visits routes),
    )

pub count_starts : (c : ℕ) → 1 ≤ c → (routes : List (List ℕ)) → count c (map (λ a. a.0) (plan_arcs routes)) ≡ count c (visits routes)
count_starts c some = count_arcs (λ a. a.0) c (λ route. ap (count c) (starts 0 route) ∙ count_other c 0 route (λ e. omega arith))

pub count_ends : (c : ℕ) → 1 ≤ c → (routes : List (List ℕ)) → count c (map (λ a. a.1) (plan_arcs routes)) ≡ count c (visits routes)
count_ends c some = count_arcs (λ a. a.1) c (λ route. ap (count c) (ends 0 route) ∙ count_push_other c 0 route (λ e. omega arith))

visits_customers : (m : Meaning) (routes : List (List ℕ)) → AllByRecursion (Drivable m) routes → AllByRecursion (Customer m) (visits routes)
visits_customers m [] all = tt
visits_customers m (route ∷ routes) all = All-append (Customer m) route (visits routes) all.0.route.customers (visits_customers m routes all.1)

beyond : (m : Meaning) (c : ℕ) → m.customers < c → (xs : List ℕ) → AllByRecursion (Customer m) xs → count c xs ≡ 0
beyond m c past [] all = refl
beyond m c past (x ∷ xs) all = count_other c x xs (λ e. omega (arith, all.0.1)) ∙ beyond m c past xs all.1

pub visited_once : (m : Meaning) (routes : List (List ℕ)) → Plan m routes → (c : ℕ) → 1 ≤ c → count c (visits routes) ≤ 1
visited_once m routes p c some =
    ⊎_elim
    (λ past. omega (arith, beyond m c past (visits routes) (visits_customers m routes p.drivable)))
    (λ within. omega (arith, p.once c (some, within)))
    (cases_lt m.customers c)

-- the arcs that are none of x, where none has its f
none_like : (f : ℕ × ℕ → ℕ) (x : ℕ × ℕ) (arcs : List (ℕ × ℕ)) → count (f x) (map f arcs) ≡ 0 → AllByRecursion (λ a. f a ≡ f x → a ≡ x) arcs
none_like f x [] none = tt
none_like f x (a ∷ arcs) none = (
  λ e. absurd (omega (arith, ap (λ k. count (f x) (k ∷ map f arcs)) e, count_same (f x) (map f arcs), none)),
  none_like f x arcs (omega arith),
)

used_counts : (f : ℕ × ℕ → ℕ) (x : ℕ × ℕ) (arcs : List (ℕ × ℕ)) → uses x arcs ≡ true → 1 ≤ count (f x) (map f arcs)
used_counts f x [] e = absurd (false≢true e)
used_counts f x (a ∷ arcs) e =
    ⊎_elim
    (λ here. omega (arith, ap (λ y. count (f x) (f y ∷ map f arcs)) (same_is a x here), count_same (f x) (map f arcs)))
    (λ apart. omega (arith, used_counts f x arcs (sym (ap (λ b. b || uses x arcs) apart) ∙ e)))
    (cases_Bool (same_arc a x))

-- a used arc is the only one with its f, where no two have the same
pub alone : (f : ℕ × ℕ → ℕ) (x : ℕ × ℕ) (arcs : List (ℕ × ℕ)) → uses x arcs ≡ true → count (f x) (map f arcs) ≤ 1 → AllByRecursion (λ a. f a ≡ f x → a ≡ x) arcs
alone f x [] e once = tt
alone f x (a ∷ arcs) e once =
    ⊎_elim
    (λ here.
    let first = ap (λ y. count (f x) (f y ∷ map f arcs)) (same_is a x here) ∙ count_same (f x) (map f arcs) in
    (λ _. same_is a x here, none_like f x arcs (omega (arith, first, once))))
    (λ apart.
    let later : uses x arcs ≡ true = sym (ap (λ b. b || uses x arcs) apart) ∙ e in (
      λ same. absurd (omega (arith, used_counts f x arcs later, ap (λ k. count (f x) (k ∷ map f arcs)) same, count_same (f x) (map f arcs), once)),
      alone f x arcs later (omega arith),
    ))
    (cases_Bool (same_arc a x))
