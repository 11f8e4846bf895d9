-- The number, arc and place of each fault of a check's call.
use Rattle.std.specs.Prelude.{ℕ}
use Rattle.routing.specs.declared.denials.Denial.{Denial}
use Rattle.replay.specs.Faults.{listing_denial}
use Rattle.leaf.specs.Faults.{leaf_denial}
use Rattle.checking.specs.declared.faults.CheckFault.{CheckFault}
use Rattle.checking.specs.declared.faults.CheckFault.TheVariants.{Listing, NotCheaper, NotFork, Finished, NoSuchArc, Full, NoPlan, Leaf}

abbrev at : ℕ → ℕ → Denial
at number place = record { number = number; from = 0; to = 0; place = place }

abbrev pub check_denial : CheckFault → Denial
check_denial (Listing f) = listing_denial f
check_denial (NotCheaper cost) = at 17 cost
check_denial NotFork = at 8 0
check_denial Finished = at 20 0
check_denial NoSuchArc = at 18 0
check_denial Full = at 19 0
check_denial NoPlan = at 21 0
check_denial (Leaf f) = leaf_denial f
