-- Each plan goes on under one side or the other of a fork.
use Rattle.std.proofs.Common.{◌≡◌, ℕ, ◌≤◌, true, false, ◌⊎◌, List, [], ◌∷◌, ◌++◌, refl, ap, ◌∙◌, inl, inr, ⊎_elim, arith}
use Rattle.std.proofs.lemmas.Bool.{cases_Bool, cond-false, or_parts}
use Rattle.std.proofs.ByRecursion.{All-weaker}
use Rattle.std.proofs.lemmas.Bool.Decides.{nat_tests}
use Rattle.std.specs.List.{AllByRecursion}
use Rattle.routing.specs.Network.{Meaning}
use Rattle.routing.specs.Routes.{Plan}
use Rattle.decisions.specs.declared.decision.Decision.{Decision}
use Rattle.decisions.specs.Decisions.{forbid, force, removes, under, decided}
use Rattle.decisions.specs.Arcs.{plan_arcs, uses}
use Rattle.decisions.proofs.Carried.{Carries, plan_over}
use Rattle.decisions.proofs.Once.{alone, count_starts, count_ends, visited_once}

-- no arc of these is removed
abbrev pub Spared : Decision → List (ℕ × ℕ) → Type 0
Spared d arcs = AllByRecursion (λ a. removes d a.0 a.1 ≡ false) arcs

-- a plan of whose arcs none is removed stays a plan
plan_under : (m : Meaning) (d : Decision) (routes : List (List ℕ)) → Plan m routes → Spared d (plan_arcs routes) → Plan (under d m) routes
plan_under m d routes p spared =
    plan_over m (under d m) record { customers = refl; place = λ i. refl; capacity = refl; fleet = refl } routes p
    (All-weaker _ (Carries m (under d m)) (λ a stays b e. cond-false _ _ _ stays ∙ e) (plan_arcs routes) spared)

-- an arc that is not used may be forbidden
pub unused_spared : (i j : ℕ) (arcs : List (ℕ × ℕ)) → uses (i, j) arcs ≡ false → Spared (forbid i j) arcs
unused_spared i j [] e = tt
unused_spared i j (a ∷ arcs) e = let parts = or_parts _ _ e in (parts.0, unused_spared i j arcs parts.1)

-- an arc out of i or into j is the arc from i to j itself, unless it meets that only at the depot
sole : (i j p q : ℕ) → (1 ≤ i → p ≡ i → q ≡ j) → (1 ≤ j → q ≡ j → p ≡ i) → removes (force i j) p q ≡ false
sole i j p q out into = grind (arith, nat_tests)

sole_all : (i j : ℕ) (arcs : List (ℕ × ℕ)) → (1 ≤ i → AllByRecursion (λ a. a.0 ≡ i → a ≡ (i, j)) arcs) → (1 ≤ j → AllByRecursion (λ a. a.1 ≡ j → a ≡ (i, j)) arcs) → Spared (force i j) arcs
sole_all i j [] out into = tt
sole_all i j (a ∷ arcs) out into = (
  sole i j a.0 a.1 (λ some e. ap (λ x. x.1) ((out some).0 e)) (λ some e. ap (λ x. x.0) ((into some).0 e)),
  sole_all i j arcs (λ some. (out some).1) (λ some. (into some).1),
)

-- an arc that a plan uses may be forced: each customer has one arc in and one out
pub used_spared : (m : Meaning) (i j : ℕ) (routes : List (List ℕ)) → Plan m routes → uses (i, j) (plan_arcs routes) ≡ true → Spared (force i j) (plan_arcs routes)
used_spared m i j routes p used =
    sole_all i j (plan_arcs routes)
    (λ some. alone (λ a. a.0) (i, j) (plan_arcs routes) used (omega (arith, count_starts i some routes, visited_once m routes p i some)))
    (λ some. alone (λ a. a.1) (i, j) (plan_arcs routes) used (omega (arith, count_ends j some routes, visited_once m routes p j some)))

-- the plans of a network, each under one side or the other of a fork on an arc
pub fork_splits : (m : Meaning) (i j : ℕ) (routes : List (List ℕ)) → Plan m routes → Plan (under (forbid i j) m) routes ⊎ Plan (under (force i j) m) routes
fork_splits m i j routes p =
    ⊎_elim
    (λ used. inr (plan_under m (force i j) routes p (used_spared m i j routes p used)))
    (λ unused. inl (plan_under m (forbid i j) routes p (unused_spared i j (plan_arcs routes) unused)))
    (cases_Bool (uses (i, j) (plan_arcs routes)))

-- the same under the decisions of a branch
pub branch_splits : (m : Meaning) (ds : List Decision) (i j : ℕ) (routes : List (List ℕ)) → Plan (decided m ds) routes → Plan (decided m (ds ++ (forbid i j ∷ []))) routes ⊎ Plan (decided m (ds ++ (force i j ∷ []))) routes
branch_splits m [] i j = fork_splits m i j
branch_splits m (d ∷ ds) i j = branch_splits (under d m) ds i j
