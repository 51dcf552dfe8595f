use Rattle.std.proofs.Common.{◌≡◌, ◌<◌, ℕ, length, sym, ap, ◌∙◌, arith}
use Rattle.std.specs.Prelude.{min}
use Rattle.std.proofs.lemmas.Result.{err_from_is_err_and}
use Rattle.type_table.specs.Kinds.{trees}
use Rattle.type_table.specs.Gathers.{count_of}
use Rattle.type_table.proofs.Order.{refuses_left, left_none}
use Rattle.type_table.proofs.Counted.{fields_left, fields_more}
use Rattle.type_table.proofs.checking.fields.Goals as goal

pub returns-in_err-field : goal.returns-in_err-field
returns-in_err-field c =
    let p = err_from_is_err_and c.from_residual.result c.from_residual.ensures.1 in
    let lt : c.fields.place < length c.args.fields.now = omega arith in
    rw (p.1, p.2) (refuses_left _ _ _ _ (fields_left (trees c.args.facts.kinds.now.decls.items) c.args.fields.now c.fields.place c.index-fields-place.result lt c.index-fields-place.is ∙ c.fields.invariant.faults) c.in_err-field.ensures)

pub fields-preserved : goal.fields-preserved
fields-preserved c =
    let lt : c.fields.place < length c.args.fields.now = omega arith in
    record {
      faults = left_none _ _ _ (fields_left (trees c.args.facts.kinds.now.decls.items) c.args.fields.now c.fields.place c.index-fields-place.result lt c.index-fields-place.is ∙ c.fields.invariant.faults) c.in_ok-field.ensures;
      count = c.counted-count.ensures ∙ ap (λ before. min 257 (count_of (trees c.args.facts.kinds.now.decls.items) before)) (sym (fields_more c.args.fields.now c.fields.place c.index-fields-place.result lt c.index-fields-place.is));
    }
