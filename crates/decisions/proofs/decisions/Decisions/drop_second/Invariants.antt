use Rattle.std.proofs.Common.{◌≡◌, length}
use Rattle.decisions.specs.Branches.{kept, trimmed}
use Rattle.decisions.proofs.decisions.Decisions.drop_second.Given as goal

abbrev pub invariant-loop-self : goal.invariant-loop-self
invariant-loop-self l = trimmed (kept l.self) ≡ trimmed (kept l.initial.self)

abbrev pub decreases-loop-self : goal.decreases-loop-self
decreases-loop-self l = length (kept l.self)
