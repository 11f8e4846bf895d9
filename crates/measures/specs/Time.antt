-- What the measure of time means: the earliest minute at which service begins at the place.
use Rattle.std.specs.Prelude.{ℕ, ◌+◌, max, leb, Option}
use Rattle.measures.specs.declared.moves.Move.{Move}
use Rattle.measures.specs.Measure.{Measuring}
use Rattle.measures.specs.Words.{within, one_within}

-- service where the van stood, then the drive, then the wait for the opening; absent after the closing
abbrev pub time_step : ℕ → Move → Option ℕ
time_step s by = within by.closing (max by.opening (s + by.service + by.travel))

abbrev pub time_measuring : Measuring ℕ
time_measuring = record {
  words = 1;
  start = λ opening. opening;
  step = time_step;
  at_most = leb;
  read = one_within 60000;
}
