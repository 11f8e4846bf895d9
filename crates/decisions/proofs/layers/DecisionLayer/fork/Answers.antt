use Rattle.std.proofs.Common.{[], ◌∷◌, ◌++◌, Result, Ok, Err, sym, ap, ◌∙◌, subst}
use Rattle.std.specs.Result.{OnOk, OnErr}
use Rattle.std.proofs.lemmas.Result.{on_ok_weaker}
use Rattle.decisions.specs.Decisions.{decided, forbid}
use Rattle.decisions.specs.Branches.{kept}
use Rattle.decisions.specs.Forks.{StaysOpen}
use Rattle.decisions.proofs.Decided.{decided_push}
use Rattle.decisions.proofs.Search.{fork_open}
use Rattle.decisions.proofs.layers.DecisionLayer.fork.Goals as goal

either_way : {T E P Q X : Type 0} (r : Result T E) → OnOk r P → OnErr r Q → (P → X) → (Q → X) → X
either_way (Ok t) p q on_ok on_err = on_ok p
either_way (Err e) p q on_ok on_err = on_err q

pub returns-clause-network : goal.returns-clause-network
returns-clause-network g c =
    let m = g.N.Network.meaning c.args.self.now.below in
    let ds = kept c.args.self.now.decisions in
    on_ok_weaker c.push.result (λ list. ap (decided m) (list ∙ ap (λ d. ds ++ (d ∷ [])) c.forbid.ensures) ∙ decided_push m ds (forbid c.args.from c.args.to)) c.push.ensures.ok

pub returns-clause-plans : goal.returns-clause-plans
returns-clause-plans g c =
    let m = g.N.Network.meaning c.args.self.now.below in
    let ds = kept c.args.self.now.decisions in
    either_way c.push.result c.push.ensures.ok c.push.ensures.full
    (λ list. subst (StaysOpen m ds) (sym (list ∙ ap (λ d. ds ++ (d ∷ [])) c.forbid.ensures)) (fork_open m ds c.args.from c.args.to))
    (λ same. subst (StaysOpen m ds) (sym (ap kept same)) (λ routes o. o))
