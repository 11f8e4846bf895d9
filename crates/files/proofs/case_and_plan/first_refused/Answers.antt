use Rattle.files.proofs.Joining.{case_there}
use Rattle.files.proofs.case_and_plan.first_refused.Goals as goal

pub returns-in-Ok : goal.returns-in-Ok
returns-in-Ok c plan refused =
    (_, case_there c.args.case.now c.read_case.result c.in-Ok.field-0 _ _ _ _ c.in-Ok.is c.read_case.ensures.answer c.read_case.ensures.written, refused)
