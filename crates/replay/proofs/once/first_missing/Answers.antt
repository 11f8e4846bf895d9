use Rattle.std.proofs.Common.{◌≡◌, suc, ◌+◌, ◌-◌, sym, ap, ◌∙◌, arith}
use Rattle.std.proofs.lemmas.Bool.{cond-true, cond-false, ltb-true, ltb-false, eq-eqb, ne_eqb}
use Rattle.routing.specs.Routes.{count}
use Rattle.replay.specs.Listing.{missing}
use Rattle.replay.proofs.once.first_missing.Goals as goal

pub returns-then-not-seen-c : goal.returns-then-not-seen-c
returns-then-not-seen-c c xs same =
    let s = c.loop-c in
    let more : c.args.customers + 1 - s.c ≡ suc (c.args.customers - s.c) = omega arith in
    let none = ltb-false 0 (count s.c xs) (sym (same s.c (omega arith) (omega (arith, c.ranges.customers.fits))) ∙ c.if-not-seen-c.true) in
    sym (cond-true _ _ _ (eq-eqb (count s.c xs) 0 (omega arith))) ∙ ap (missing xs s.c) (sym more) ∙ s.invariant xs same

pub loop-c-preserved : goal.loop-c-preserved
loop-c-preserved c xs same =
    let s = c.loop-c in
    let more : c.args.customers + 1 - s.c ≡ suc (c.args.customers - s.c) = omega arith in
    let less : c.args.customers + 1 - (s.c + 1) ≡ c.args.customers - s.c = omega arith in
    let some = ltb-true 0 (count s.c xs) (sym (same s.c (omega arith) (omega (arith, c.ranges.customers.fits))) ∙ c.if-not-seen-c.false) in
    ap (missing xs (s.c + 1)) less ∙ sym (cond-false _ _ _ (ne_eqb (count s.c xs) 0 (λ e. omega arith))) ∙ ap (missing xs s.c) (sym more) ∙ s.invariant xs same
