-- Which line the files get.
use Rattle.std.specs.Prelude.{◌≡◌, ℕ, cond, List, [], length, Result, nat_lt}
use Rattle.replay.specs.declared.vans.Priced.{Priced}
use Rattle.files.specs.declared.faults.FileFault.{FileFault}
use Rattle.files.specs.declared.lines.Line.{Line}
use Rattle.files.specs.Line.{line_of}
use Rattle.files.specs.Pricing.{FilesPriced}

-- a file above 65,536 bytes counts as empty
abbrev pub counted : List ℕ → List ℕ
counted file = cond (nat_lt 65536 (length file)) [] file

-- the line of the answer that is due
pub record LineFor (case plan : List ℕ) (line : Line) : Type 0 where
  pub answer : Result Priced FileFault
  pub due : FilesPriced case plan answer
  pub is : line ≡ line_of answer
