use Rattle.texts.proofs.PlanTexts.{plans_as_written}
use Rattle.texts.proofs.plans.read_plan.Goals as goal

pub returns-in_err-numbers-clause-written : goal.returns-in_err-numbers-clause-written
returns-in_err-numbers-clause-written c = plans_as_written c.args.text.now

pub returns-then-listing-lt120-clause-written : goal.returns-then-listing-lt120-clause-written
returns-then-listing-lt120-clause-written c = plans_as_written c.args.text.now

pub returns-clause-written : goal.returns-clause-written
returns-clause-written c = plans_as_written c.args.text.now
