-- The promise about logs: each answer is the rules', `proved` is true, and a full tree is never refused nor its word withheld.
use Rattle.std.specs.Prelude.{◌≡◌, ℕ, suc, ◌≤◌, max, ◌⊎◌, List, [], ◌∷◌, ◌++◌, Ok, Err, Result, ◌≢◌}
use Rattle.std.specs.List.{AllByRecursion}
use Rattle.routing.specs.Network.{Meaning}
use Rattle.routing.specs.Routes.{Plan, plan_cost}
use Rattle.replay.specs.Listing.{written}
use Rattle.measures.specs.Measure.{Measuring}
use Rattle.leaf.specs.Record.{Reads}
use Rattle.leaf.specs.Rule.{Leaf, Holds}
use Rattle.decisions.specs.Decisions.{forbid, force, under}
use Rattle.checking.specs.declared.faults.CheckFault.{CheckFault}
use Rattle.checking.specs.declared.calls.Grant.{Grant}
use Rattle.checking.specs.declared.calls.Grant.TheVariants.{Stands}
use Rattle.checking.specs.declared.calls.Standing.TheVariants.{Proved}
use Rattle.checking.specs.Calls.{Request, presenting, forking, closing, asking, answers, opening}

-- some plan costs exactly c, and none costs less
pub record Cheapest (m : Meaning) (c : ℕ) : Type 0 where
  pub routes : List (List ℕ)
  pub is_plan : Plan m routes
  pub costs : plan_cost m routes ≡ c
  pub none_cheaper : (others : List (List ℕ)) → Plan m others → c ≤ plan_cost m others

-- a tree: a leaf's record, or a fork on an arc with a tree on each side
pub data Tree : Type 0 where
  leaf : List ℕ → Tree
  fork : ℕ → ℕ → Tree → Tree → Tree

-- its calls: the close; or the fork, then the first side's, then the second's
abbrev pub tree_calls : Tree → List Request
tree_calls (leaf bytes) = closing bytes ∷ []
tree_calls (fork i j first second) = forking (65 ∷ (i ∷ (j ∷ []))) ∷ (tree_calls first ++ tree_calls second)

-- how many forks deep it is
abbrev pub depth : Tree → ℕ
depth (leaf bytes) = 0
depth (fork i j first second) = suc (max (depth first) (depth second))

-- a full tree for a cost at a network: a leaf in range, with readable corners, that holds there for that cost; or a fork on
-- two different places with a full tree on each side, the first without the arc, the second with the arc forced
abbrev pub FullTree : {S : Type 0} → Measuring S → Meaning → ℕ → Tree → Type 0
FullTree {S} μ m z (leaf bytes) = (l : Leaf S) × Reads μ m.customers bytes l × Holds μ m l z
FullTree μ m z (fork i j first second) =
    (i ≤ m.customers) × (j ≤ m.customers) × (i ≢ j) × FullTree μ (under (forbid i j) m) z first × FullTree μ (under (force i j) m) z second

-- a log has a line for each call, with its answer
abbrev pub Line : Type 0
Line = Request × Result Grant CheckFault

abbrev pub Denied : Result Grant CheckFault → Type 0
Denied (Ok g) = ⊥
Denied (Err f) = Unit {0}

abbrev pub Granted : Result Grant CheckFault → Type 0
Granted (Ok g) = Unit {0}
Granted (Err f) = ⊥

-- a question, or a call that is denied
abbrev pub Idle : Line → Type 0
Idle line = (line.0 ≡ asking) ⊎ Denied line.1

-- a log makes the wanted calls, with only asks and denied calls before and between; `got` is what they are answered, and
-- `rest` the lines after them
pub data Makes : List Line → List Request → List (Result Grant CheckFault) → List Line → Type 0 where
  made : {rest : List Line} → Makes rest [] [] rest
  idle : {line : Line} {log rest : List Line} {wanted : List Request} {got : List (Result Grant CheckFault)} → Idle line → Makes log wanted got rest → Makes (line ∷ log) wanted got rest
  call : {r : Request} {a : Result Grant CheckFault} {log rest : List Line} {wanted : List Request} {got : List (Result Grant CheckFault)} → Makes log wanted got rest → Makes ((r, a) ∷ log) (r ∷ wanted) (a ∷ got) rest

abbrev pub lines : List Request → List (Result Grant CheckFault) → List Line
lines [] given = []
lines (r ∷ calls) [] = []
lines (r ∷ calls) (a ∷ given) = (r, a) ∷ lines calls given

abbrev pub SaysProved : ℕ → Line → Type 0
SaysProved c line = line.0 ≡ asking → line.1 ≡ Ok (Stands (Proved c))

pub record Promise {S : Type 0} (μ : Measuring S) (m : Meaning) (calls : List Request) (given : List (Result Grant CheckFault)) : Type 0 where
  -- each answer is the one that the rules' check gives, fed with the same calls alone
  pub due : given ≡ answers μ m opening calls
  -- proved at a cost: some plan costs exactly that, and none costs less
  pub true_word : AllByRecursion (λ a. (c : ℕ) → a ≡ Ok (Stands (Proved c)) → Cheapest m c) given
  -- a plan presented, and then the calls of a full tree for its cost: all are granted, and every ask after them says proved
  pub never_withheld : (routes : List (List ℕ)) (tree : Tree) (got : List (Result Grant CheckFault)) (rest : List Line) → Plan m routes → FullTree μ m (plan_cost m routes) tree → depth tree ≤ 64 → Makes (lines calls given) (presenting (written routes) ∷ tree_calls tree) got rest → AllByRecursion Granted got × AllByRecursion (SaysProved (plan_cost m routes)) rest
