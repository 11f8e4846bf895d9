-- What a pair of measures means: both at once.
use Rattle.std.specs.Prelude.{ℕ, ◌+◌, cond, ◌&&◌, ◌||◌, List, length, take, drop, Some, None, Option, nat_lt}
use Rattle.measures.specs.declared.pair.Both.{Both}
use Rattle.measures.specs.Measure.{Measuring}

abbrev pub two : {S T : Type 0} → S → T → Both S T
two s t = record { first = s; second = t }

-- both parts, absent where either is
abbrev pub both : {S T : Type 0} → Option S → Option T → Option (Both S T)
both None t = None
both (Some s) None = None
both (Some s) (Some t) = Some (two s t)

-- the first part reads its words and the second the rest; no corner is read where the two take more than 100 words
abbrev pub pair_read : {S T : Type 0} → Measuring S → Measuring T → List ℕ → Option (Both S T)
pair_read μ ν words = cond (nat_lt 100 (μ.words + ν.words) || nat_lt (length words) μ.words) None (both (μ.read (take μ.words words)) (ν.read (drop μ.words words)))

abbrev pub pair_measuring : {S T : Type 0} → Measuring S → Measuring T → Measuring (Both S T)
pair_measuring μ ν = record {
  words = cond (nat_lt 100 (μ.words + ν.words)) 100 (μ.words + ν.words);
  start = λ opening. two (μ.start opening) (ν.start opening);
  step = λ s by. both (μ.step s.first by) (ν.step s.second by);
  at_most = λ a b. μ.at_most a.first b.first && ν.at_most a.second b.second;
  read = pair_read μ ν;
}
