use Rattle.std.proofs.Common.{◌+◌, arith, drop, length, refl}
use Rattle.std.proofs.lemmas.Bool.{both_ways}
use Rattle.evt_text.proofs.Found.{finds-value, finds-fault, finds-no_boundary, rest-within}
use Rattle.evt_text.proofs.reading.value_at.Goals as goal

pub returns-then-not-is_char_boundary : goal.returns-then-not-is_char_boundary
returns-then-not-is_char_boundary c =
    finds-no_boundary c.args.types.now c.args.shape.now c.args.text.now c.args.at c.requires.names c.requires.place
    (λ b. both_ways _ c.if-not-is_char_boundary.true (c.is_char_boundary.ensures.test.1 b))

pub returns-in_err-value : goal.returns-in_err-value
returns-in_err-value c =
    finds-fault c.args.types.now c.args.shape.now c.args.text.now c.args.at (length (drop c.args.at c.args.text.now) + 1) c.in_err-value.field-0.0 c.value.new.scanner.rest.now c.from_residual.result c.requires.names (omega arith)
    (rw c.range_from-rest.ensures.value at c.in_err-value.ensures) c.from_residual.ensures.1

pub overflow_sub-result : goal.overflow_sub-result
overflow_sub-result c =
    rest-within c.args.types.now c.args.shape.now c.args.text.now c.args.at (length (drop c.args.at c.args.text.now) + 1) c.in_ok-value.value _ (rw c.range_from-rest.ensures.value at c.in_ok-value.ensures)

pub returns : goal.returns
returns c =
    finds-value c.args.types.now c.args.shape.now c.args.text.now c.args.at (length (drop c.args.at c.args.text.now) + 1) c.in_ok-value.value c.value.new.scanner.rest.now _ c.requires.names (omega arith) c.requires.place
    (rw c.range_from-rest.ensures.value at c.in_ok-value.ensures) refl
