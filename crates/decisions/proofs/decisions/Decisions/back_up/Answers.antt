use Rattle.std.proofs.Common.{◌≡◌, length, ap, ◌∙◌, arith}
use Rattle.std.proofs.lemmas.Bool.Decides.{nat_tests}
use Rattle.decisions.specs.Branches.{kept, turned_last, trimmed}
use Rattle.decisions.proofs.Ends.{length_turned}
use Rattle.decisions.proofs.decisions.Decisions.back_up.Goals as goal

pub returns-clause-answer : goal.returns-clause-answer
returns-clause-answer c =
    let ds = trimmed (kept c.args.self.now) in
    let left : length (kept c.turn_last.new.self) ≡ length ds = ap length (c.turn_last.ensures ∙ ap turned_last c.drop_second.ensures) ∙ length_turned ds in
    grind (arith, nat_tests, left)
