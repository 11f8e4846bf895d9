use Rattle.std.proofs.Common.{option_map}
use Rattle.texts.specs.Arcs.{road_fields}
use Rattle.texts.specs.Lines.{row_due}
use Rattle.texts.specs.Reading.{state}
use Rattle.texts.proofs.Repeats.{FilledRows}
use Rattle.texts.proofs.reader.Reader.next_rows.Given as goal

abbrev pub invariant-loop-i : goal.invariant-loop-i
invariant-loop-i l = FilledRows (row_due l.side) (option_map road_fields) l.side (state l.initial.self) l.arcs l.i (state l.self)
