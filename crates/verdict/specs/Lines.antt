-- Which line a verdict gets.
use Rattle.std.specs.Prelude.{Ok, Err, Result}
use Rattle.files.specs.declared.lines.Line.{Line}
use Rattle.files.specs.declared.lines.Line.TheVariants.{Optimal, Open}
use Rattle.files.specs.Line.{fault_line}
use Rattle.checking.specs.declared.calls.Standing.{Standing}
use Rattle.checking.specs.declared.calls.Standing.TheVariants.{Proved, Open as StillOpen}
use Rattle.verdict.specs.declared.faults.JudgeFault.{JudgeFault}
use Rattle.verdict.specs.Faults.{judge_denial, judge_part, judge_node}

abbrev pub verdict_line : Result Standing JudgeFault → Line
verdict_line (Ok (Proved cost)) = Optimal cost
verdict_line (Ok (StillOpen decisions)) = Open decisions
verdict_line (Err f) = fault_line (judge_part f) (judge_node f) (judge_denial f)
