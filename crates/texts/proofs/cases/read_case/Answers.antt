use Rattle.texts.proofs.CaseTexts.{cases_as_written}
use Rattle.texts.proofs.cases.read_case.Goals as goal

pub returns-in_err-head-clause-written : goal.returns-in_err-head-clause-written
returns-in_err-head-clause-written c = cases_as_written c.args.text.now

pub returns-then-places-side-clause-written : goal.returns-then-places-side-clause-written
returns-then-places-side-clause-written c = cases_as_written c.args.text.now

pub returns-clause-written : goal.returns-clause-written
returns-clause-written c = cases_as_written c.args.text.now
