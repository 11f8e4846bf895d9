use Rattle.std.proofs.Common.{Ok, sym, ap, ◌∙◌}
use Rattle.verdict.proofs.Verdicts.{verdict_is}
use Rattle.verdict.proofs.Walks.{judged_true}
use Rattle.verdict.proofs.judging.judge_tree.Goals as goal

pub returns : goal.returns
returns g c =
    let net = c.args.network in
    let value = ap Ok c.ask.ensures ∙ sym (verdict_is g.N.Network.meaning net c.new-check.result c.present.new.self c.take_tree.new.check c.args.listing.now c.args.tree.now c.new-check.ensures.network c.new-check.ensures.state c.in_ok-present.field-0 c.in_ok-present.ensures c.customers-customers.result c.customers-customers.ensures c.in_ok-head.head c.in_ok-head.ensures.value tt c.in_ok-take_tree.ensures.state) in
    record {
      value = value;
      optimal = λ cost e. judged_true (g.N.Network.meaning net) (g.N.Network.limits net) c.args.listing.now c.args.tree.now cost (sym value ∙ e);
    }
