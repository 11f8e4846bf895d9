-- The records of a tree, taken one after another.
use Rattle.std.specs.Prelude.{◌≡◌, ℕ, zero, suc, ◌+◌, ◌*◌, cond, List, [], ◌∷◌, Some, None, Ok, Err, Option, Result, ◌==◌}
use Rattle.routing.specs.Network.{Meaning}
use Rattle.measures.specs.Measure.{Measuring}
use Rattle.checking.specs.declared.calls.Grant.{Grant}
use Rattle.checking.specs.declared.checks.Check.{Check}
use Rattle.checking.specs.States.{network_of, state_of}
use Rattle.checking.specs.Calls.{State, Attempt, Request, forking, closing, attempt}
use Rattle.trees.specs.declared.faults.TreeFault.TheVariants.{Pair}
use Rattle.trees.specs.Tree.{record_answer}
use Rattle.verdict.specs.declared.faults.JudgeFault.{JudgeFault}
use Rattle.verdict.specs.declared.faults.NodeFault.{NodeFault}
use Rattle.verdict.specs.declared.faults.JudgeFault.TheVariants.{TreeRefused, AtNode}

-- the letter L is a leaf's; a record of any other letter, or none, is taken as a fork
abbrev pub record_request : List ℕ → Request
record_request [] = forking []
record_request (b ∷ bytes) = cond (b == 76) (closing (b ∷ bytes)) (forking (b ∷ bytes))

abbrev pub node_answer : ℕ → ℕ → Attempt Grant → Result State JudgeFault
node_answer node offset (Ok a) = Ok a.0
node_answer node offset (Err f) = Err (AtNode (record { node = node; offset = offset; fault = f }))

-- a record, found in the file at an offset
abbrev pub node_taken : {S : Type 0} → Measuring S → Meaning → State → ℕ → Option (ℕ × List ℕ) → Result State JudgeFault
node_taken μ m s node None = Err (TreeRefused (Pair (8 + 8 * node)))
node_taken μ m s node (Some r) = node_answer node r.0 (attempt μ m s (record_request r.1))

abbrev pub next : {X Y : Type 0} → Result X JudgeFault → (X → Result Y JudgeFault) → Result Y JudgeFault
next (Err f) go = Err f
next (Ok x) go = go x

-- so many records from a node on; the first that is denied ends it
abbrev pub walk : {S : Type 0} → Measuring S → Meaning → List ℕ → State → ℕ → ℕ → Result State JudgeFault
walk μ m tree s node zero = Ok s
walk μ m tree s node (suc more) = next (node_taken μ m s node (record_answer tree node)) λ t. walk μ m tree t (node + 1) more

-- a state reached, or a fault
abbrev pub Reached : State → Result (Unit {0}) JudgeFault → Result State JudgeFault → Type 0
Reached s (Ok u) (Ok t) = s ≡ t
Reached s (Ok u) (Err g) = ⊥
Reached s (Err f) (Ok t) = ⊥
Reached s (Err f) (Err g) = f ≡ g

-- a check goes on to the state that is due, over its network, or answers the fault that is due
pub record Goes {N : Type 0} (old new : Check N) (r : Result (Unit {0}) JudgeFault) (due : Result State JudgeFault) : Type 0 where
  pub network : network_of new ≡ network_of old
  pub state : Reached (state_of new) r due

-- a record taken, or its fault
abbrev pub Taken : ℕ → ℕ → State → Result (Unit {0}) NodeFault → Attempt Grant → Type 0
Taken node offset s (Ok u) (Ok a) = s ≡ a.0
Taken node offset s (Ok u) (Err f) = ⊥
Taken node offset s (Err n) (Ok a) = ⊥
Taken node offset s (Err n) (Err f) = n ≡ record { node = node; offset = offset; fault = f }
