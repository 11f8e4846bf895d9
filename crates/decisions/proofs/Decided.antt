-- What decisions leave of a network.
use Rattle.std.proofs.Common.{◌≡◌, ℕ, Bool, true, false, cond, ◌||◌, List, [], ◌∷◌, ◌++◌, None, Option, refl, ◌∙◌}
use Rattle.routing.specs.declared.cells.Road.{Road}
use Rattle.routing.specs.Network.{Meaning}
use Rattle.decisions.specs.declared.decision.Decision.{Decision}
use Rattle.decisions.specs.Decisions.{removes, under, decided, removed}

-- one decision more
pub decided_push : (m : Meaning) (ds : List Decision) (d : Decision) → decided m (ds ++ (d ∷ [])) ≡ under d (decided m ds)
decided_push m [] d = refl
decided_push m (a ∷ ds) d = decided_push (under a m) ds d

both : (a b : Bool) (o : Option Road) → cond b None (cond a None o) ≡ cond (a || b) None o
both true true o = refl
both true false o = refl
both false true o = refl
both false false o = refl

-- an arc is gone where some decision removes it, and else as it was
pub decided_arc : (m : Meaning) (ds : List Decision) (i j : ℕ) → (decided m ds).arc i j ≡ cond (removed ds i j) None (m.arc i j)
decided_arc m [] i j = refl
decided_arc m (d ∷ ds) i j = decided_arc (under d m) ds i j ∙ both (removes d i j) (removed ds i j) (m.arc i j)
