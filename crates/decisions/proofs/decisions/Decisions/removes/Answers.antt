use Rattle.std.proofs.Common.{rules, tests}
use Rattle.std.proofs.lemmas.Iterator.{YieldsList-from_slice}
use Rattle.std.proofs.lemmas.Iterator.Search.{any_from_yields_List}
use Rattle.decisions.specs.Decisions.{removes}
use Rattle.decisions.specs.Branches.{kept}
use Rattle.decisions.proofs.decisions.Decisions.removes.Goals as goal

pub returns : goal.returns
returns c =
    any_from_yields_List (λ d. removes d c.args.i c.args.j) _ _ _ c.any.ensures.ran (YieldsList-from_slice (kept c.args.self.now) cc)
    (λ x b q k. search (rules, tests))
