use Rattle.std.proofs.lemmas.Result.{err_from_is_err_and}
use Rattle.type_table.specs.Names.{number_in}
use Rattle.type_table.proofs.Written.{dictionary_refused}
use Rattle.type_table.proofs.types.+shape_by.Goals as goal

pub returns-in_err-value_shape-in-Dictionary : goal.returns-in_err-value_shape-in-Dictionary
returns-in_err-value_shape-in-Dictionary t c =
    let p = err_from_is_err_and c.from_residual-in_err-value_shape-in-Dictionary.result c.from_residual-in_err-value_shape-in-Dictionary.ensures.1 in
    rw (p.1, p.2, c.in-Dictionary.is) (dictionary_refused (number_in c.args.names.now) _ _ _ _ _ _ c.get-in-Dictionary.ensures c.get-in-Dictionary-2.ensures c.in_ok-key_shape-in-Dictionary.ensures.0 c.in_err-value_shape-in-Dictionary.ensures)
