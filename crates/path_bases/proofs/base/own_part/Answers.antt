use Rattle.std.proofs.Common.{Ok, refl, sym, ap, subst, ◌∙◌}
use Rattle.body_meaning.specs.Runs.{given}
use Rattle.body_meaning.specs.Paths.{part}
use Rattle.value_steps.specs.Orderly.{IsOrderly}
use Rattle.value_steps.proofs.Kept.{part_orderly}
use Rattle.path_bases.specs.declared.base.Base.TheVariants as base
use Rattle.path_bases.proofs.Reached.{finds_no_part, finds_no_memory, finds_part}
use Rattle.path_bases.proofs.base.own_part.Goals as goal

pub returns-in_err-found-clause-means : goal.returns-in_err-found-clause-means
returns-in_err-found-clause-means c = λ told frame. finds_no_part told frame (part c.args.to c.args.value) _ c.from_residual.result c.in_err-found.ensures c.from_residual.ensures.1

pub returns-in_err-copy-clause-means : goal.returns-in_err-copy-clause-means
returns-in_err-copy-clause-means c = λ told frame. finds_no_memory (given (part c.args.to c.args.value)) told frame c.from_residual-in_err-copy.result c.from_residual-in_err-copy.ensures.1

pub returns-clause-means : goal.returns-clause-means
returns-clause-means c = λ told frame. finds_part told frame (part c.args.to c.args.value) c.in_ok-copy.field-0 (base.Own c.in_ok-copy.field-0) (ap Ok c.in_ok-copy.ensures ∙ c.in_ok-found.ensures) refl

pub returns-clause-kept : goal.returns-clause-kept
returns-clause-kept c = subst IsOrderly (sym c.in_ok-copy.ensures) (part_orderly c.args.to c.args.value c.in_ok-found.found.now c.requires (sym c.in_ok-found.ensures))
