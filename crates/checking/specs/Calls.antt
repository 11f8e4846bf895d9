-- What a check does at each call, from the meanings of its network and of the measure.
use Rattle.std.specs.Prelude.{ℕ, Bool, true, false, cond, not, ◌||◌, List, [], ◌∷◌, ◌++◌, length, Some, None, Ok, Err, Option, Result, ◌==◌, nat_le, nat_lt}
use Rattle.routing.specs.Network.{Meaning}
use Rattle.replay.specs.declared.faults.ListingFault.{ListingFault}
use Rattle.replay.specs.declared.vans.Priced.{Priced}
use Rattle.replay.specs.Answer.{price_answer}
use Rattle.measures.specs.Measure.{Measuring}
use Rattle.leaf.specs.declared.faults.LeafFault.{LeafFault}
use Rattle.leaf.specs.Answer.{leaf_answer}
use Rattle.decisions.specs.declared.decision.Decision.{Decision}
use Rattle.decisions.specs.Decisions.{forbid, decided}
use Rattle.decisions.specs.Branches.{trimmed, backed_up}
use Rattle.checking.specs.declared.faults.CheckFault.{CheckFault}
use Rattle.checking.specs.declared.faults.CheckFault.TheVariants.{Listing, NotCheaper, NotFork, Finished, NoSuchArc, Full, NoPlan, Leaf}
use Rattle.checking.specs.declared.calls.Standing.{Standing}
use Rattle.checking.specs.declared.calls.Standing.TheVariants.{Proved, Open}
use Rattle.checking.specs.declared.calls.Grant.{Grant}
use Rattle.checking.specs.declared.calls.Grant.TheVariants.{Presented, Forked, Closed, Stands}

-- the decisions from the first to the last, the cost of the plan held, if any, and whether the tree is finished
pub record State : Type 0 where
  pub decisions : List Decision
  pub held : Option ℕ
  pub finished : Bool

abbrev pub opening : State
opening = record { decisions = []; held = None; finished = false }

-- what a call that is granted leads to and answers; a call that is denied changes nothing
abbrev pub Attempt : Type 0 → Type 0
Attempt X = Result (State × X) CheckFault

-- present: the price of the listing on the network below the decisions, which is held if it is below the one held
abbrev pub no_dearer : Option ℕ → ℕ → Bool
no_dearer None cost = false
no_dearer (Some held) cost = nat_le held cost

abbrev pub holding : State → ℕ → State
holding s cost = record { decisions = s.decisions; held = Some cost; finished = s.finished }

abbrev pub hold : State → Result Priced ListingFault → Attempt Priced
hold s (Err f) = Err (Listing f)
hold s (Ok p) = cond (no_dearer s.held p.cost) (Err (NotCheaper p.cost)) (Ok (holding s p.cost, p))

abbrev pub present : Meaning → State → List ℕ → Attempt Priced
present m s listing = hold s (price_answer m listing)

-- fork: the letter A and two places
abbrev pub fork_arc : List ℕ → Option (ℕ × ℕ)
fork_arc [] = None
fork_arc (a ∷ []) = None
fork_arc (a ∷ (i ∷ [])) = None
fork_arc (a ∷ (i ∷ (j ∷ []))) = cond (a == 65) (Some (i, j)) None
fork_arc (a ∷ (i ∷ (j ∷ (b ∷ rest)))) = None

abbrev pub no_arc : Meaning → ℕ → ℕ → Bool
no_arc m i j = nat_lt m.customers i || (nat_lt m.customers j || i == j)

abbrev pub pushed : State → ℕ → ℕ → State
pushed s i j = record { decisions = s.decisions ++ (forbid i j ∷ []); held = s.held; finished = s.finished }

abbrev pub push : State → ℕ → ℕ → Attempt (Unit {0})
push s i j = cond (nat_lt (length s.decisions) 64) (Ok (pushed s i j, tt)) (Err Full)

abbrev pub branch : Meaning → State → ℕ → ℕ → Attempt (Unit {0})
branch m s i j = cond s.finished (Err Finished) (cond (no_arc m i j) (Err NoSuchArc) (push s i j))

abbrev pub fork_on : Meaning → State → Option (ℕ × ℕ) → Attempt (Unit {0})
fork_on m s None = Err NotFork
fork_on m s (Some arc) = branch m s arc.0 arc.1

abbrev pub fork : Meaning → State → List ℕ → Attempt (Unit {0})
fork m s bytes = fork_on m s (fork_arc bytes)

-- close: a leaf that holds at the network under the decisions, for the cost held. Second sides at the end are dropped; the
-- last decision left is turned to its second side, and where none is left the tree is finished
abbrev pub next_branch : State → State
next_branch s = record {
  decisions = backed_up s.decisions;
  held = s.held;
  finished = not (nat_lt 0 (length (trimmed s.decisions)));
}

abbrev pub leaf_closed : State → Result (Unit {0}) LeafFault → Attempt (Unit {0})
leaf_closed s (Err f) = Err (Leaf f)
leaf_closed s (Ok u) = Ok (next_branch s, tt)

abbrev pub close_for : {S : Type 0} → Measuring S → Meaning → State → List ℕ → Option ℕ → Attempt (Unit {0})
close_for μ m s bytes None = Err NoPlan
close_for μ m s bytes (Some cost) = leaf_closed s (leaf_answer μ (decided m s.decisions) bytes cost)

abbrev pub close : {S : Type 0} → Measuring S → Meaning → State → List ℕ → Attempt (Unit {0})
close μ m s bytes = cond s.finished (Err Finished) (close_for μ m s bytes s.held)

-- ask: proved with the cost where the tree is finished, else open with the number of decisions
abbrev pub standing_for : Bool → Option ℕ → ℕ → Standing
standing_for true (Some cost) decisions = Proved cost
standing_for true None decisions = Open decisions
standing_for false held decisions = Open decisions

abbrev pub standing : State → Standing
standing s = standing_for s.finished s.held (length s.decisions)

-- the calls of a log
pub data Request : Type 0 where
  presenting : List ℕ → Request
  forking : List ℕ → Request
  closing : List ℕ → Request
  asking : Request

abbrev pub granted : {X : Type 0} → (X → Grant) → Attempt X → Attempt Grant
granted grant (Ok a) = Ok (a.0, grant a.1)
granted grant (Err f) = Err f

abbrev pub attempt : {S : Type 0} → Measuring S → Meaning → State → Request → Attempt Grant
attempt μ m s (presenting listing) = granted (λ p. Presented p) (present m s listing)
attempt μ m s (forking bytes) = granted (λ _. Forked) (fork m s bytes)
attempt μ m s (closing bytes) = granted (λ _. Closed) (close μ m s bytes)
attempt μ m s asking = Ok (s, Stands (standing s))

abbrev pub after : {X : Type 0} → State → Attempt X → State
after s (Ok a) = a.0
after s (Err f) = s

abbrev pub answer_of : {X : Type 0} → Attempt X → Result X CheckFault
answer_of (Ok a) = Ok a.1
answer_of (Err f) = Err f

-- the answers that the rules' check gives, fed with the calls alone
abbrev pub answers : {S : Type 0} → Measuring S → Meaning → State → List Request → List (Result Grant CheckFault)
answers μ m s [] = []
answers μ m s (r ∷ rs) = answer_of (attempt μ m s r) ∷ answers μ m (after s (attempt μ m s r)) rs
