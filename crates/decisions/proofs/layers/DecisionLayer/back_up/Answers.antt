use Rattle.std.proofs.Common.{Bool, ltb, List, length, sym, subst}
use Rattle.decisions.specs.declared.decision.Decision.{Decision}
use Rattle.decisions.specs.Branches.{kept, trimmed}
use Rattle.decisions.specs.Forks.{GoesOn}
use Rattle.decisions.proofs.Search.{back_up_goes_on}
use Rattle.decisions.proofs.layers.DecisionLayer.back_up.Goals as goal

pub returns-clause-plans : goal.returns-clause-plans
returns-clause-plans g c =
    let m = g.N.Network.meaning c.args.self.now.below in
    let ds = kept c.args.self.now.decisions in
    subst (λ (r : Bool). GoesOn m ds r (kept c.back_up.new.self)) (sym c.back_up.ensures.answer) (subst (λ (es : List Decision). GoesOn m ds (ltb 0 (length (trimmed ds))) es) (sym c.back_up.ensures.list) (back_up_goes_on m ds))
