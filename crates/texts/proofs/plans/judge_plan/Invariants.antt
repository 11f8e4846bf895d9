use Rattle.std.proofs.Common.{◌-◌, ◌≤◌, length}
use Rattle.texts.specs.Plans.{plan_judged}
use Rattle.texts.specs.Tokens.{words}
use Rattle.texts.specs.Reading.{state}
use Rattle.texts.proofs.Listings.{SoFar}
use Rattle.texts.proofs.plans.judge_plan.Given as goal

abbrev pub invariant-loop-word : goal.invariant-loop-word
invariant-loop-word l = SoFar (plan_judged l.text) l.numbers.items (words (state l.reader).tokens) × (length l.numbers.items ≤ 120)

abbrev pub decreases-loop-word : goal.decreases-loop-word
decreases-loop-word l = 120 - length l.numbers.items
