-- The cost of the plan held, and whether the tree is finished.
use Rattle.std.specs.Prelude.{ℕ, Bool, true, false, Some, None, Option}
use Rattle.checking.specs.declared.progress.Progress.{Progress}
use Rattle.checking.specs.declared.progress.Progress.TheVariants.{NoPlan, Holding, Finished}

abbrev pub held_in : Progress → Option ℕ
held_in NoPlan = None
held_in (Holding cost) = Some cost
held_in (Finished cost) = Some cost

abbrev pub finished_in : Progress → Bool
finished_in NoPlan = false
finished_in (Holding cost) = false
finished_in (Finished cost) = true

-- a plan of this cost held instead
abbrev pub held_at : ℕ → Progress → Progress
held_at cost NoPlan = Holding cost
held_at cost (Holding before) = Holding cost
held_at cost (Finished before) = Finished cost
