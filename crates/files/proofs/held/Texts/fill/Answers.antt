use Rattle.std.proofs.Common.{replicate, refl, subst}
use Rattle.files.specs.Reading.{PlanListing}
use Rattle.files.proofs.Joining.{case_read, plan_there}
use Rattle.files.proofs.held.Texts.fill.Goals as goal

pub returns-clause-read : goal.returns-clause-read
returns-clause-read c = record {
  network = case_read c.args.case.now c.read_case.result c.in_ok-self.field-0 _ _ _ _ c.in_ok-self.ensures.cases c.read_case.ensures.answer c.read_case.ensures.written;
  listing = subst (PlanListing c.args.plan.now) (cc) (plan_there c.args.plan.now c.read_plan.result c.in-Ok.count (replicate 120 0) c.read_plan.new.listing refl c.in-Ok.is c.read_plan.ensures.answer c.read_plan.ensures.written);
}
