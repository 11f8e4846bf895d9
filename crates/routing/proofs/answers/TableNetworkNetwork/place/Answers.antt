use Rattle.std.proofs.Common.{get_or, Some, sym, ap, ◌∙◌, arith}
use Rattle.std.proofs.lemmas.Option.{slice_get-get_or}
use Rattle.std.proofs.lemmas.Bool.{eq-eqb, ne_eqb, leb-true, cond-true, cond-false}
use Rattle.routing.specs.Tables.{depot_of, unladen}
use Rattle.routing.proofs.Same.{same_place}
use Rattle.routing.proofs.answers.TableNetworkNetwork.place.Goals as goal

pub returns-then-i-eq0 : goal.returns-then-i-eq0
returns-then-i-eq0 c =
    let t = c.args.self.now in
    let told = c.unladen.ensures in
    ap Some (same_place _ (unladen (get_or t.places.now 0 c.index-self-0.result)) told.0 told.1 told.2 told.3) ∙ ap depot_of (sym (slice_get-get_or t.places.now 0 c.index-self-0.result (omega (arith, t.placed)))) ∙ sym (cond-true _ _ _ (eq-eqb c.args.i 0 c.if-i-eq0.true))

pub returns : goal.returns
returns c =
    let t = c.args.self.now in
    sym (cond-false _ _ _ (ne_eqb c.args.i 0 c.if-i-eq0.false) ∙ cond-true _ _ _ (sym c.if-not-has.ensures) ∙ slice_get-get_or t.places.now c.args.i _ (omega (arith, t.placed, leb-true c.args.i t.head.customers (sym c.if-not-has.ensures))))
