-- A log that presents a plan and makes the calls of a full tree for its cost: all are granted, and then ask says proved.
use Rattle.std.proofs.Common.{◌≡◌, ℕ, ◌+◌, ◌<◌, ◌≤◌, true, false, not, ltb, List, [], ◌∷◌, ◌++◌, length, Some, None, Ok, Err, Option, Result, sym, refl, ap, ◌∙◌, subst, ap₂, ⊎_elim, append_assoc, append-nil, arith}
use Rattle.std.proofs.lemmas.List.{length_push}
use Rattle.std.proofs.lemmas.Bool.{cond-true, cond-false, lt-ltb, le-ltb, ne_eqb, le-leb, or_from}
use Rattle.std.specs.List.{AllByRecursion}
use Rattle.routing.specs.Network.{Meaning, Limits}
use Rattle.routing.specs.Routes.{Plan, plan_cost}
use Rattle.replay.specs.declared.faults.ListingFault.{ListingFault}
use Rattle.replay.specs.declared.vans.Priced.{Priced}
use Rattle.replay.specs.Answer.{price_answer}
use Rattle.replay.specs.Listing.{written}
use Rattle.replay.specs.Prices.{price_of}
use Rattle.replay.proofs.Plans.{plan_is_priced, priced_is_plan}
use Rattle.measures.specs.Measure.{Measuring}
use Rattle.leaf.specs.Answer.{leaf_answer}
use Rattle.leaf.specs.Record.{Reads}
use Rattle.leaf.specs.Rule.{Leaf, Holds}
use Rattle.decisions.specs.declared.decision.Decision.{Decision}
use Rattle.decisions.specs.Decisions.{forbid, force, under, decided}
use Rattle.decisions.specs.Branches.{trimmed, turned_last}
use Rattle.decisions.specs.Lawful.{decided_limits, under_limits}
use Rattle.decisions.proofs.Decided.{decided_push}
use Rattle.decisions.proofs.Ends.{trimmed_first, trimmed_second, turned_push}
use Rattle.decisions.proofs.Forks.{fork_splits}
use Rattle.decisions.proofs.Parts.{plans_below_under}
use Rattle.checking.specs.declared.faults.CheckFault.{CheckFault}
use Rattle.checking.specs.declared.calls.Grant.{Grant}
use Rattle.checking.specs.declared.calls.Grant.TheVariants.{Presented, Forked, Closed}
use Rattle.checking.specs.Calls.{State, opening, Attempt, hold, present, fork_arc, fork_on, fork, next_branch, leaf_closed, Request, presenting, forking, closing, asking, granted, attempt, after, answer_of}
use Rattle.checking.proofs.Soundness.{after_granted}
use Rattle.checking.specs.Promise.{Tree, leaf, fork as forkTree, tree_calls, depth, FullTree, Line, Denied, Granted, Idle, Makes, made, idle, call, SaysProved}

denied_stays : (s : State) (t : Attempt Grant) (a : Result Grant CheckFault) → a ≡ answer_of t → Denied a → after s t ≡ s
denied_stays s (Ok x) a e d = absurd (subst Denied e d)
denied_stays s (Err f) a e d = refl

-- a full tree bounds every plan of its network
module _ {S : Type 0} (μ : Measuring S) (z : ℕ) (bounds : (n : Meaning) → Limits n → (bytes : List ℕ) (z : ℕ) → leaf_answer μ n bytes z ≡ Ok tt → (routes : List (List ℕ)) → Plan n routes → z ≤ plan_cost n routes) (opens : (n : Meaning) → Limits n → (bytes : List ℕ) (z : ℕ) (l : Leaf S) → Reads μ n.customers bytes l → Holds μ n l z → leaf_answer μ n bytes z ≡ Ok tt) where
  pub tree_bounds : (n : Meaning) → Limits n → (tree : Tree) → FullTree μ n z tree → (routes : List (List ℕ)) → Plan n routes → z ≤ plan_cost n routes
  tree_bounds n lawful (leaf bytes) full routes plan = bounds n lawful bytes z (opens n lawful bytes z full.0 full.1 full.2) routes plan
  tree_bounds n lawful (forkTree i j first second) full routes plan =
      ⊎_elim
      (λ p. omega (arith, tree_bounds (under (forbid i j) n) (under_limits n (forbid i j) lawful) first full.3 routes p, (plans_below_under n (forbid i j) routes p).cost))
      (λ p. omega (arith, tree_bounds (under (force i j) n) (under_limits n (force i j) lawful) second full.4 routes p, (plans_below_under n (force i j) routes p).cost))
      (fork_splits n i j routes plan)

module _ {S : Type 0} (μ : Measuring S) (m : Meaning) where
  -- each answer of a log is the rules', from a state on
  abbrev pub Follows : State → List Line → Type 0
  Follows s [] = Unit {0}
  Follows s (x ∷ log) = (x.1 ≡ answer_of (attempt μ m s x.0)) × Follows (after s (attempt μ m s x.0)) log

  idle_stays : (s : State) (x : Line) → x.1 ≡ answer_of (attempt μ m s x.0) → Idle x → after s (attempt μ m s x.0) ≡ s
  idle_stays s x e free =
      ⊎_elim (λ ask. ap (λ r. after s (attempt μ m s r)) ask) (λ denied. denied_stays s (attempt μ m s x.0) x.1 e denied) free

  -- the log up to the next wanted call, and with it
  record Called (s : State) (r : Request) (wanted : List Request) (got : List (Result Grant CheckFault)) (rest : List Line) : Type 0 where
    log : List Line
    more : List (Result Grant CheckFault)
    follows : Follows (after s (attempt μ m s r)) log
    makes : Makes log wanted more rest
    is : got ≡ answer_of (attempt μ m s r) ∷ more

  to_call : {log : List Line} {r : Request} {wanted : List Request} {got : List (Result Grant CheckFault)} {rest : List Line} → Makes log (r ∷ wanted) got rest → (s : State) → Follows s log → Called s r wanted got rest
  to_call (idle {line = x} {log = log} free makes) s f =
      to_call makes s (subst (λ t. Follows t log) (idle_stays s x f.0 free) f.1)
  to_call (call {a = a} {log = log} {got = got} makes) s f = record { log = log; more = got; follows = f.1; makes = makes; is = ap (λ x. x ∷ got) f.0 }

  to_end : {log : List Line} {got : List (Result Grant CheckFault)} {rest : List Line} → Makes log [] got rest → (s : State) → Follows s log → (got ≡ []) × Follows s rest
  to_end made s f = (refl, f)
  to_end (idle {line = x} {log = log} free makes) s f = to_end makes s (subst (λ t. Follows t log) (idle_stays s x f.0 free) f.1)

  abbrev at : List Decision → ℕ → State
  at ds z = record { decisions = ds; held = Some z; finished = false }

  -- a call that is granted
  record Went (s : State) (grant : Grant) (next : State) (wanted : List Request) (got : List (Result Grant CheckFault)) (rest : List Line) : Type 0 where
    log : List Line
    more : List (Result Grant CheckFault)
    follows : Follows next log
    makes : Makes log wanted more rest
    is : got ≡ Ok grant ∷ more

  goes : {log : List Line} {r : Request} {wanted : List Request} {got : List (Result Grant CheckFault)} {rest : List Line} (s : State) (grant : Grant) (next : State) → attempt μ m s r ≡ Ok (next, grant) → Makes log (r ∷ wanted) got rest → Follows s log → Went s grant next wanted got rest
  goes s grant next e makes f =
      let c = to_call makes s f in
      record { log = c.log; more = c.more; follows = subst (λ t. Follows t c.log) (ap (after s) e) c.follows; makes = c.makes; is = c.is ∙ ap (λ t. answer_of t ∷ c.more) e }

  module _ (z : ℕ) (lawful : Limits m) (opens : (n : Meaning) → Limits n → (bytes : List ℕ) (z : ℕ) (l : Leaf S) → Reads μ n.customers bytes l → Holds μ n l z → leaf_answer μ n bytes z ≡ Ok tt) where
    closes : (ds : List Decision) (bytes : List ℕ) (l : Leaf S) → Reads μ (decided m ds).customers bytes l → Holds μ (decided m ds) l z → attempt μ m (at ds z) (closing bytes) ≡ Ok (next_branch (at ds z), Closed)
    closes ds bytes l reads holds =
        ap (λ r. granted (λ _. Closed) (leaf_closed (at ds z) r)) (opens (decided m ds) (decided_limits m ds lawful) bytes z l reads holds)

    forks : (ds : List Decision) (i j : ℕ) → i ≤ m.customers → j ≤ m.customers → (i ≡ j → ⊥) → length ds < 64 → attempt μ m (at ds z) (forking (65 ∷ (i ∷ (j ∷ [])))) ≡ Ok (at (ds ++ (forbid i j ∷ [])) z, Forked)
    forks ds i j hi hj apart room =
        ap (granted (λ _. Forked)) (cond-false _ _ _ (or_from _ _ (le-ltb m.customers i hi) (or_from _ _ (le-ltb m.customers j hj) (ne_eqb i j apart))) ∙ cond-true _ _ _ (lt-ltb (length ds) 64 room))

    turns : (ds : List Decision) (i j : ℕ) → next_branch (at (ds ++ (forbid i j ∷ [])) z) ≡ at (ds ++ (force i j ∷ [])) z
    turns ds i j =
        let kept = trimmed_first ds (forbid i j) refl in
        ap₂ (λ es b. record { decisions = es; held = Some z; finished = b })
        (ap turned_last kept ∙ turned_push ds (forbid i j))
        (ap not (lt-ltb 0 (length (trimmed (ds ++ (forbid i j ∷ [])))) (omega (arith, ap length kept, length_push ds (forbid i j)))))

    drops : (ds : List Decision) (i j : ℕ) → next_branch (at (ds ++ (force i j ∷ [])) z) ≡ next_branch (at ds z)
    drops ds i j =
        ap (λ es. record { decisions = turned_last es; held = Some z; finished = not (ltb 0 (length es)) }) (trimmed_second ds (force i j) refl)

    -- all the calls of a tree
    record Fed (ds : List Decision) (wanted : List Request) (got : List (Result Grant CheckFault)) (rest : List Line) : Type 0 where
      log : List Line
      more : List (Result Grant CheckFault)
      follows : Follows (next_branch (at ds z)) log
      makes : Makes log wanted more rest
      grants : AllByRecursion Granted more → AllByRecursion Granted got

    feed : (tree : Tree) (ds : List Decision) → FullTree μ (decided m ds) z tree → length ds + depth tree ≤ 64 → (log : List Line) (wanted : List Request) (got : List (Result Grant CheckFault)) (rest : List Line) → Makes log (tree_calls tree ++ wanted) got rest → Follows (at ds z) log → Fed ds wanted got rest
    feed (leaf bytes) ds full deep log wanted got rest makes f =
        let w = goes (at ds z) Closed (next_branch (at ds z)) (closes ds bytes full.0 full.1 full.2) makes f in
        record { log = w.log; more = w.more; follows = w.follows; makes = w.makes; grants = λ all. subst (AllByRecursion Granted) (sym w.is) (tt, all) }
    feed (forkTree i j first second) ds full deep log wanted got rest makes f =
        let w = goes (at ds z) Forked (at (ds ++ (forbid i j ∷ [])) z) (forks ds i j full.0 full.1 full.2 (omega arith)) makes f in
        let one = feed first (ds ++ (forbid i j ∷ [])) (subst (λ x. FullTree μ x z first) (sym (decided_push m ds (forbid i j))) full.3) (omega (arith, length_push ds (forbid i j))) w.log (tree_calls second ++ wanted) w.more rest (subst (λ c. Makes w.log c w.more rest) (append_assoc (tree_calls first) (tree_calls second) wanted) w.makes) w.follows in
        let two = feed second (ds ++ (force i j ∷ [])) (subst (λ x. FullTree μ x z second) (sym (decided_push m ds (force i j))) full.4) (omega (arith, length_push ds (force i j))) one.log wanted one.more rest one.makes (subst (λ t. Follows t one.log) (turns ds i j) one.follows) in
        record {
          log = two.log;
          more = two.more;
          follows = subst (λ t. Follows t two.log) (drops ds i j) two.follows;
          makes = two.makes;
          grants = λ all. subst (AllByRecursion Granted) (sym w.is) (tt, one.grants (two.grants all));
        }

    -- after the tree no call changes anything
    module _ (none_cheaper : (routes : List (List ℕ)) → Plan m routes → z ≤ plan_cost m routes) where
      abbrev done : State
      done = record { decisions = []; held = Some z; finished = true }

      refused : (listing : List ℕ) (r : Result Priced ListingFault) → r ≡ price_answer m listing → after done (hold done r) ≡ done
      refused listing (Err f) e = refl
      refused listing (Ok p) e =
          let found = priced_is_plan m lawful listing p (sym e) in
          let dear : z ≤ p.cost = omega (arith, none_cheaper found.0 found.2, ap (λ q. q.cost) found.3) in
          ap (after done) (cond-true _ _ _ (le-leb z p.cost dear))

      not_forked : (arc : Option (ℕ × ℕ)) → after done (fork_on m done arc) ≡ done
      not_forked None = refl
      not_forked (Some arc) = refl

      stays_done : (r : Request) → after done (attempt μ m done r) ≡ done
      stays_done (presenting listing) = after_granted done _ (present m done listing) ∙ refused listing _ refl
      stays_done (forking bytes) = after_granted done _ (fork m done bytes) ∙ not_forked (fork_arc bytes)
      stays_done (closing bytes) = refl
      stays_done asking = refl

      says_proved : (rest : List Line) → Follows done rest → AllByRecursion (SaysProved z) rest
      says_proved [] f = tt
      says_proved (x ∷ rest) f =
          (λ ask. f.0 ∙ ap (λ r. answer_of (attempt μ m done r)) ask, says_proved rest (subst (λ t. Follows t rest) (stays_done x.0) f.1))

-- the plan presented first
module _ {S : Type 0} (μ : Measuring S) (m : Meaning) (lawful : Limits m) (bounds : (n : Meaning) → Limits n → (bytes : List ℕ) (z : ℕ) → leaf_answer μ n bytes z ≡ Ok tt → (routes : List (List ℕ)) → Plan n routes → z ≤ plan_cost n routes) (opens : (n : Meaning) → Limits n → (bytes : List ℕ) (z : ℕ) (l : Leaf S) → Reads μ n.customers bytes l → Holds μ n l z → leaf_answer μ n bytes z ≡ Ok tt) where
  presents : (routes : List (List ℕ)) → Plan m routes → attempt μ m opening (presenting (written routes)) ≡ Ok (at μ m [] (plan_cost m routes), Presented (price_of m routes))
  presents routes plan = ap (λ r. granted (λ p. Presented p) (hold opening r)) (plan_is_priced m lawful (written routes) routes refl plan)

  pub never_withheld : (log : List Line) → Follows μ m opening log → (routes : List (List ℕ)) (tree : Tree) (got : List (Result Grant CheckFault)) (rest : List Line) → Plan m routes → FullTree μ m (plan_cost m routes) tree → depth tree ≤ 64 → Makes log (presenting (written routes) ∷ tree_calls tree) got rest → AllByRecursion Granted got × AllByRecursion (SaysProved (plan_cost m routes)) rest
  never_withheld log f routes tree got rest plan full deep makes =
      let z = plan_cost m routes in
      let w = goes μ m opening (Presented (price_of m routes)) (at μ m [] z) (presents routes plan) makes f in
      let fed = feed μ m z lawful opens tree [] full (omega arith) w.log [] w.more rest (subst (λ c. Makes w.log c w.more rest) (sym (append-nil (tree_calls tree))) w.makes) w.follows in
      let end = to_end μ m fed.makes (next_branch (at μ m [] z)) fed.follows in (
        subst (AllByRecursion Granted) (sym w.is) (tt, fed.grants (subst (AllByRecursion Granted) (sym end.0) tt)),
        says_proved μ m z lawful opens (tree_bounds μ z bounds opens m lawful tree full) rest end.1,
      )
