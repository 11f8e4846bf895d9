-- What a caller in another language gets for three files.
use Rattle.std.specs.Prelude.{◌≡◌, ℕ, ◌⊎◌, List, ◌++◌, length, drop}
use Rattle.files.specs.Line.{line_bytes}
use Rattle.files.specs.declared.lines.Line.{Line}
use Rattle.verdict.specs.Judging.{LineFor}

-- the line's bytes are in front of the buffer, and the rest is as it was
pub record Written (line : Line) (before after : List ℕ) (r : ℕ) : Type 0 where
  pub long : r ≡ length (line_bytes line)
  pub bytes : after ≡ line_bytes line ++ drop r before

pub record Nothing (before after : List ℕ) (r : ℕ) : Type 0 where
  pub none : r ≡ 0
  pub same : after ≡ before

-- the line that is due to the three files is written, or nothing is
abbrev pub Exported : List ℕ → List ℕ → List ℕ → List ℕ → List ℕ → ℕ → Type 0
Exported case plan tree before after r = (line : Line) × LineFor case plan tree line × (Written line before after r ⊎ Nothing before after r)
