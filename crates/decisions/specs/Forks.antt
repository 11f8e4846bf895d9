-- How the branches of a search share a network's plans.
use Rattle.std.specs.Prelude.{ℕ, Bool, ◌⊎◌, List, [], ◌∷◌, MatchBool}
use Rattle.routing.specs.Network.{Meaning}
use Rattle.routing.specs.Routes.{Plan}
use Rattle.decisions.specs.declared.decision.Decision.{Decision}
use Rattle.decisions.specs.declared.decision.Side.{Side}
use Rattle.decisions.specs.declared.decision.Side.TheVariants.{First, Second}
use Rattle.decisions.specs.Decisions.{turned, under, decided}

-- a plan of the side that is still to come: the second, where a decision is on its first
abbrev pub ToCome : Side → Decision → Meaning → List (List ℕ) → Type 0
ToCome First d m routes = Plan (under (turned d) m) routes
ToCome Second d m routes = ⊥

-- a plan of some branch that is still to come
abbrev pub Ahead : Meaning → List Decision → List (List ℕ) → Type 0
Ahead m [] routes = ⊥
Ahead m (d ∷ ds) routes = ToCome d.side d m routes ⊎ Ahead (under d m) ds routes

-- a plan of the branch or of one that is still to come
abbrev pub Open : Meaning → List Decision → List (List ℕ) → Type 0
Open m ds routes = Plan (decided m ds) routes ⊎ Ahead m ds routes

-- from one branch to another no open plan is lost
abbrev pub StaysOpen : Meaning → List Decision → List Decision → Type 0
StaysOpen m ds es = (routes : List (List ℕ)) → Open m ds routes → Open m es routes

-- what is ahead of one branch is open in the next; where there is none, nothing was ahead
abbrev pub GoesOn : Meaning → List Decision → Bool → List Decision → Type 0
GoesOn m ds more es = (routes : List (List ℕ)) → Ahead m ds routes → MatchBool more (Open m es routes) ⊥
