-- What the measure of load means: what the van has taken on.
use Rattle.std.specs.Prelude.{ℕ, ◌+◌, leb, Option}
use Rattle.measures.specs.declared.moves.Move.{Move}
use Rattle.measures.specs.Measure.{Measuring}
use Rattle.measures.specs.Words.{within, one_within}

-- the load of the place reached is added; absent above the capacity
abbrev pub load_step : ℕ → Move → Option ℕ
load_step s by = within by.capacity (s + by.load)

abbrev pub load_measuring : Measuring ℕ
load_measuring = record {
  words = 1;
  start = λ _. 0;
  step = load_step;
  at_most = leb;
  read = one_within 10000;
}
