use Rattle.std.proofs.Common.{length, option_map}
use Rattle.texts.specs.Arcs.{arc_due, road_fields}
use Rattle.texts.specs.Reading.{state}
use Rattle.texts.proofs.Repeats.{Filled}
use Rattle.texts.proofs.reader.Reader.next_arcs.Given as goal

abbrev pub invariant-loop-j : goal.invariant-loop-j
invariant-loop-j l = Filled (arc_due l.i) (option_map road_fields) (length l.initial.row) (state l.initial.self) l.row l.j (state l.self)
