-- A search that forks and backs up comes to every plan.
use Rattle.std.proofs.Common.{◌≡◌, ℕ, Bool, true, false, ltb, List, [], ◌∷◌, ◌++◌, length, MatchBool, inl, inr, ⊎_elim, arith}
use Rattle.std.proofs.lemmas.Bool.{lt-ltb, false≢true}
use Rattle.routing.specs.Network.{Meaning}
use Rattle.routing.specs.Routes.{Plan}
use Rattle.decisions.specs.declared.decision.Decision.{Decision}
use Rattle.decisions.specs.declared.decision.Side.{Side}
use Rattle.decisions.specs.declared.decision.Side.TheVariants.{First, Second}
use Rattle.decisions.specs.Decisions.{forbid, force, turned, under, decided}
use Rattle.decisions.specs.Branches.{turned_last, unless_second, trimmed, backed_up}
use Rattle.decisions.specs.Forks.{ToCome, Ahead, Open, StaysOpen, GoesOn}
use Rattle.decisions.proofs.Parts.{plans_below, plans_below_under}
use Rattle.decisions.proofs.Forks.{branch_splits}

when_so : (b : Bool) (P : Type 0) → b ≡ true → P → MatchBool b P ⊥
when_so true P e p = p
when_so false P e p = absurd (false≢true e)

module _ (routes : List (List ℕ)) where
  to_come_plan : (s : Side) (d : Decision) (m : Meaning) → ToCome s d m routes → Plan (under (turned d) m) routes
  to_come_plan First d m p = p
  to_come_plan Second d m p = absurd p

  -- an open plan is a plan of the network
  pub ahead_below : (m : Meaning) (ds : List Decision) → Ahead m ds routes → Plan m routes
  ahead_below m [] a = absurd a
  ahead_below m (d ∷ ds) a =
      ⊎_elim (λ t. (plans_below_under m (turned d) routes (to_come_plan d.side d m t)).plan) (λ b. (plans_below_under m d routes (ahead_below (under d m) ds b)).plan) a

  pub open_below : (m : Meaning) (ds : List Decision) → Open m ds routes → Plan m routes
  open_below m ds o = ⊎_elim (λ p. (plans_below m ds routes p).plan) (ahead_below m ds) o

  -- a fork
  ahead_push : (m : Meaning) (ds : List Decision) (d : Decision) → Ahead m ds routes → Ahead m (ds ++ (d ∷ [])) routes
  ahead_push m [] d a = absurd a
  ahead_push m (b ∷ ds) d a = ⊎_elim (λ t. inl t) (λ a. inr (ahead_push (under b m) ds d a)) a

  forced_ahead : (m : Meaning) (ds : List Decision) (i j : ℕ) → Plan (decided m (ds ++ (force i j ∷ []))) routes → Ahead m (ds ++ (forbid i j ∷ [])) routes
  forced_ahead m [] i j p = inl p
  forced_ahead m (d ∷ ds) i j p = inr (forced_ahead (under d m) ds i j p)

  open_fork : (m : Meaning) (ds : List Decision) (i j : ℕ) → Open m ds routes → Open m (ds ++ (forbid i j ∷ [])) routes
  open_fork m ds i j o =
      ⊎_elim (λ p. ⊎_elim (λ q. inl q) (λ q. inr (forced_ahead m ds i j q)) (branch_splits m ds i j routes p)) (λ a. inr (ahead_push m ds (forbid i j) a)) o

  -- second sides at the end have nothing ahead
  last_ahead : (i j : ℕ) (s : Side) (m : Meaning) → Ahead m (record { from = i; to = j; side = s } ∷ []) routes → Ahead m (unless_second record { from = i; to = j; side = s } []) routes
  last_ahead i j First m a = a
  last_ahead i j Second m a = ⊎_elim (λ t. t) (λ t. t) a

  unless_ahead : (d : Decision) (ds : List Decision) (m : Meaning) → Ahead m (d ∷ ds) routes → Ahead m (unless_second d ds) routes
  unless_ahead d [] m a = last_ahead d.from d.to d.side m a
  unless_ahead d (e ∷ ds) m a = a

  trimmed_ahead : (m : Meaning) (ds : List Decision) → Ahead m ds routes → Ahead m (trimmed ds) routes
  trimmed_ahead m [] a = a
  trimmed_ahead m (d ∷ ds) a = unless_ahead d (trimmed ds) m (⊎_elim (λ t. inl t) (λ b. inr (trimmed_ahead (under d m) ds b)) a)

  turned_open : (m : Meaning) (ds : List Decision) → Ahead m ds routes → Open m (turned_last ds) routes
  turned_open m [] a = absurd a
  turned_open m (d ∷ []) a = ⊎_elim (λ t. inl (to_come_plan d.side d m t)) (λ none. absurd none) a
  turned_open m (d ∷ (e ∷ ds)) a =
      ⊎_elim (λ t. inr (inl t)) (λ b. ⊎_elim (λ p. inl p) (λ q. inr (inr q)) (turned_open (under d m) (e ∷ ds) b)) a

  when_some : (m : Meaning) (ds : List Decision) → Ahead m ds routes → MatchBool (ltb 0 (length ds)) (Open m (turned_last ds) routes) ⊥
  when_some m [] a = a
  when_some m (d ∷ ds) a = when_so (ltb 0 (length (d ∷ ds))) (Open m (turned_last (d ∷ ds)) routes) (lt-ltb 0 (length (d ∷ ds)) (omega arith)) (turned_open m (d ∷ ds) a)

pub fork_open : (m : Meaning) (ds : List Decision) (i j : ℕ) → StaysOpen m ds (ds ++ (forbid i j ∷ []))
fork_open m ds i j routes = open_fork routes m ds i j

pub back_up_goes_on : (m : Meaning) (ds : List Decision) → GoesOn m ds (ltb 0 (length (trimmed ds))) (backed_up ds)
back_up_goes_on m ds routes a = when_some routes m (trimmed ds) (trimmed_ahead routes m ds a)
