use Rattle.std.proofs.Common.{length}
use Rattle.texts.specs.Lines.{place_due, place_fields}
use Rattle.texts.specs.Reading.{state}
use Rattle.texts.proofs.Repeats.{Filled}
use Rattle.texts.proofs.reader.Reader.next_places.Given as goal

abbrev pub invariant-loop-i : goal.invariant-loop-i
invariant-loop-i l = Filled place_due place_fields (length l.initial.places) (state l.initial.self) l.places l.i (state l.self)
