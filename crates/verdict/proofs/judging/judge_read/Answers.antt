use Rattle.std.proofs.Common.{sym, subst}
use Rattle.routing.specs.Tables.{table_meaning}
use Rattle.files.specs.Reading.{CaseNetwork, PlanListing}
use Rattle.verdict.proofs.Verdicts.{both_read}
use Rattle.verdict.proofs.judging.judge_read.Goals as goal

pub returns : goal.returns
returns c case plan read =
    let net = c.network.result in
    let m = table_meaning net.head net.places.now net.arcs.now in
    let listing = subst (PlanListing plan) (sym c.listing.ensures) read.listing in
    both_read case plan c.args.tree.now c.judge_tree.result m c.listing.result.now c.judge_tree.ensures.value
    (record {
      network = m;
      is_network = subst (CaseNetwork case) (sym c.network.ensures) read.network;
      listing = c.listing.result.now;
      is_listing = listing.written;
      answer = c.judge_tree.ensures.value;
      optimal = c.judge_tree.ensures.optimal;
    })
