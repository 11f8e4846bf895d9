use Rattle.std.proofs.Common.{◌≡◌, ◌^◌, ◌<◌, drop}
use Rattle.std.specs.Str.Parse.{digits_value_after}
use Rattle.std.specs.Str.{all_ascii_digits}
use Rattle.texts.proofs.numbers.number_of.Given as goal

abbrev pub invariant-loop-b : goal.invariant-loop-b
invariant-loop-b l =
    (digits_value_after 10 l.value (drop l.b-index l.word) ≡ digits_value_after 10 0 l.word) × (all_ascii_digits (drop l.b-index l.word) ≡ all_ascii_digits l.word) × (l.value < 10 ^ l.b-index)
