use Rattle.std.proofs.Common.{sym, subst}
use Rattle.checking.specs.declared.calls.Grant.TheVariants.{Presented}
use Rattle.checking.specs.Calls.{attempt, present}
use Rattle.checking.specs.Logs.{request}
use Rattle.checking.specs.States.{network_of, state_of, Does}
use Rattle.checking.proofs.Doing.{does_granted}
use Rattle.checking.proofs.checks.Check.take.Goals as goal

pub returns-in-Present : goal.returns-in-Present
returns-in-Present g c =
    let old = c.args.self.now in
    let new = c.present.new.self in
    let m = g.N.Network.meaning (network_of old) in
    let μ = g.M.Measure.meaning c.args.measure.now in
    subst (λ call. Does old (attempt μ m (state_of old) (request call)) new c.map.result) (sym c.in-Present.is)
    (does_granted old new (λ p. Presented p) (present m (state_of old) c.in-Present.listing.now) c.present.result c.map.result c.present.ensures c.map.ensures.cases)
