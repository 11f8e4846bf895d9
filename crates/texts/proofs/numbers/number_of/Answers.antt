use Rattle.std.proofs.Common.{◌<◌, sym, ◌∙◌, arith}
use Rattle.std.proofs.lemmas.List.{at_drop_all}
use Rattle.std.specs.Str.Parse.{digits_value_after}
use Rattle.std.specs.Str.{all_ascii_digits}
use Rattle.texts.proofs.Numerals.{more_value, more_digits, no_digit, more_bound, small, no_number, a_number, few_digits}
use Rattle.texts.proofs.numbers.number_of.Goals as goal

pub returns-then-not-is_ascii_digit : goal.returns-then-not-is_ascii_digit
returns-then-not-is_ascii_digit c = no_number c.args.word.now (sym c.loop-b.invariant.1 ∙ no_digit c.args.word.now c.loop-b.b-index c.loop-b-test.true (sym c.if-not-is_ascii_digit.ensures.value))

pub overflow_mul-value : goal.overflow_mul-value
overflow_mul-value c =
    let few = few_digits c.args.word.now (sym c.if-not-is_shaped.ensures) in
    let p : c.loop-b.value < 100000000 = small c.loop-b.value c.loop-b.b-index c.loop-b.invariant.2 (omega arith) in
    omega arith

pub overflow_add-value : goal.overflow_add-value
overflow_add-value c =
    let few = few_digits c.args.word.now (sym c.if-not-is_shaped.ensures) in
    let p : c.loop-b.value < 100000000 = small c.loop-b.value c.loop-b.b-index c.loop-b.invariant.2 (omega arith) in
    omega (arith, c.if-not-is_ascii_digit.ensures.cases)

pub loop-b-preserved : goal.loop-b-preserved
loop-b-preserved c =
    let digit = c.if-not-is_ascii_digit.ensures in (
      sym (more_value c.args.word.now c.loop-b.b-index c.loop-b.value c.loop-b-test.true digit.cases) ∙ c.loop-b.invariant.0,
      sym (more_digits c.args.word.now c.loop-b.b-index c.loop-b-test.true (sym digit.value)) ∙ c.loop-b.invariant.1,
      more_bound c.loop-b.value _ c.loop-b.b-index c.loop-b.invariant.2 (omega (arith, digit.cases)),
    )

pub returns : goal.returns
returns c =
    let w = c.args.word.now in
    a_number w c.loop-b.value (sym c.if-not-is_shaped.ensures)
    (sym c.loop-b.invariant.1 ∙ at_drop_all all_ascii_digits w c.loop-b.b-index (omega arith))
    (sym (at_drop_all (digits_value_after 10 c.loop-b.value) w c.loop-b.b-index (omega arith)) ∙ c.loop-b.invariant.0)
