use Rattle.std.proofs.Common.{Ok, sym, refl, ap}
use Rattle.leaf.specs.Record.{little}
use Rattle.worked.specs.TwoStops.{at_cost}
use Rattle.worked.proofs.two_stop_cost.Goals as goal

pub returns : goal.returns
unfolding little
returns c = record {
  value = ap (λ cost. Ok (at_cost cost 1)) (sym c.one_route_cost.ensures);
  examples = record {
    one_route_costs_12 = refl;
    two_routes_cost_18 = refl;
    dearer_denied = refl;
    closes_proved = refl;
    value_too_high = refl;
    price_too_high = refl;
    dual_too_low = refl;
    too_late = refl;
    just_in_time = refl;
    too_heavy = refl;
    just_light = refl;
  };
}
