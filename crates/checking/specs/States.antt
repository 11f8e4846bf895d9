-- The state of a check, and how a call goes from one to the next.
use Rattle.std.specs.Prelude.{◌≡◌, Result}
use Rattle.decisions.specs.Branches.{kept}
use Rattle.checking.specs.declared.checks.Check.{Check}
use Rattle.checking.specs.declared.faults.CheckFault.{CheckFault}
use Rattle.checking.specs.Calls.{State, Attempt, after, answer_of}
use Rattle.checking.specs.Progress.{held_in, finished_in}

abbrev pub network_of : {N : Type 0} → Check N → N
network_of c = c.layer.below

abbrev pub state_of : {N : Type 0} → Check N → State
state_of c = record { decisions = kept c.layer.decisions; held = held_in c.progress; finished = finished_in c.progress }

-- what an attempt does to a check and answers; its network stays
pub record Does {N X : Type 0} (old : Check N) (attempt : Attempt X) (new : Check N) (r : Result X CheckFault) : Type 0 where
  pub network : network_of new ≡ network_of old
  pub state : state_of new ≡ after (state_of old) attempt
  pub answer : r ≡ answer_of attempt
