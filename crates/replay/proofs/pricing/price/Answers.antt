use Rattle.std.proofs.Common.{◌≡◌, ℕ, List, Err, Result, sym, ap, ◌∙◌, subst}
use Rattle.std.proofs.lemmas.Result.{err_from_is_err_and}
use Rattle.routing.specs.Network.{Meaning, Limits}
use Rattle.replay.specs.declared.faults.ListingFault.{ListingFault}
use Rattle.replay.specs.declared.vans.Priced.{Priced}
use Rattle.replay.specs.Answer.{price_answer, fleet_answer}
use Rattle.replay.specs.Prices.{Prices}
use Rattle.replay.proofs.Orders.{ends_at_form, ends_at_once, ends_at_drive, few_numbers}
use Rattle.replay.proofs.Plans.{prices}
use Rattle.replay.proofs.pricing.price.Goals as goal

both : (m : Meaning) (lawful : Limits m) (l : List ℕ) (r : Result Priced ListingFault) → r ≡ price_answer m l → record { value : r ≡ price_answer m l; plans : Prices m l r }
both m lawful l r e = record { value = e; plans = subst (Prices m l) (sym e) (prices m lawful l) }

pub returns-in_err-well_formed : goal.returns-in_err-well_formed
returns-in_err-well_formed g c =
    let net = c.args.network.now in
    let m = g.N.Network.meaning net in
    let p = err_from_is_err_and c.from_residual.result c.from_residual.ensures.1 in
    both m (g.N.Network.limits net) c.args.listing.now _ (p.1 ∙ ap Err p.2 ∙ sym (ends_at_form m c.args.listing.now _ c.customers-customers.ensures _ c.in_err-well_formed.ensures))

pub returns-in_err-each_once : goal.returns-in_err-each_once
returns-in_err-each_once g c =
    let net = c.args.network.now in
    let m = g.N.Network.meaning net in
    let p = err_from_is_err_and c.from_residual-in_err-each_once.result c.from_residual-in_err-each_once.ensures.1 in
    both m (g.N.Network.limits net) c.args.listing.now _ (p.1 ∙ ap Err p.2 ∙ sym (ends_at_once m c.args.listing.now _ c.customers-customers.ensures c.in_ok-well_formed.ensures _ c.in_err-each_once.ensures))

pub drive-requires : goal.drive-requires
drive-requires g c =
    let net = c.args.network.now in
    few_numbers (g.N.Network.meaning net) c.args.listing.now _ c.customers-customers.ensures c.in_ok-well_formed.ensures c.in_ok-each_once.ensures (g.N.Network.limits net)

pub returns-in_err-priced : goal.returns-in_err-priced
returns-in_err-priced g c =
    let net = c.args.network.now in
    let m = g.N.Network.meaning net in
    let p = err_from_is_err_and c.from_residual-in_err-priced.result c.from_residual-in_err-priced.ensures.1 in
    both m (g.N.Network.limits net) c.args.listing.now _ (p.1 ∙ ap Err p.2 ∙ sym (ends_at_drive m c.args.listing.now _ c.customers-customers.ensures c.in_ok-well_formed.ensures c.in_ok-each_once.ensures _ c.in_err-priced.ensures))

pub returns : goal.returns
returns g c =
    let net = c.args.network.now in
    let m = g.N.Network.meaning net in
    both m (g.N.Network.limits net) c.args.listing.now _ (c.within_fleet.ensures ∙ ap (λ f. fleet_answer f c.in_ok-priced.priced) c.fleet.ensures ∙ sym (ends_at_drive m c.args.listing.now _ c.customers-customers.ensures c.in_ok-well_formed.ensures c.in_ok-each_once.ensures _ c.in_ok-priced.ensures))
