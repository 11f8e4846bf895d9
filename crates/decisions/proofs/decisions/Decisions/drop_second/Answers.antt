use Rattle.std.proofs.Common.{length, sym, ap, ◌∙◌, arith}
use Rattle.decisions.specs.Branches.{kept, trimmed}
use Rattle.decisions.proofs.Ends.{trimmed_pop, trimmed_done, shorter}
use Rattle.decisions.proofs.decisions.Decisions.drop_second.Goals as goal

pub loop-self-smaller : goal.loop-self-smaller
loop-self-smaller c =
    omega (arith, ap length c.pop.ensures, shorter (kept c.loop-self.self) (sym c.ends_second.ensures ∙ c.loop-self-test.true))

pub loop-self-preserved : goal.loop-self-preserved
loop-self-preserved c =
    ap trimmed c.pop.ensures ∙ trimmed_pop (kept c.loop-self.self) (sym c.ends_second.ensures ∙ c.loop-self-test.true) ∙ c.loop-self.invariant

pub returns : goal.returns
returns c = sym (trimmed_done (kept c.loop-self.self) (sym c.ends_second.ensures ∙ c.loop-self-test.false)) ∙ c.loop-self.invariant
