use Rattle.std.proofs.Common.{refl, sym}
use Rattle.body_meaning.specs.Paths.{part}
use Rattle.value_steps.proofs.Kept.{part_orderly}
use Rattle.path_bases.specs.declared.base.Base.TheVariants as base
use Rattle.path_bases.proofs.Reached.{finds_no_part, finds_part}
use Rattle.path_bases.proofs.base.lent_part.Goals as goal

pub returns-in_err-found-clause-means : goal.returns-in_err-found-clause-means
returns-in_err-found-clause-means c = λ told frame. finds_no_part told frame (part c.args.to c.args.value.now) _ c.from_residual.result c.in_err-found.ensures c.from_residual.ensures.1

pub returns-clause-means : goal.returns-clause-means
returns-clause-means c = λ told frame. finds_part told frame (part c.args.to c.args.value.now) c.in_ok-found.found.now (base.Lent c.in_ok-found.found) c.in_ok-found.ensures refl

pub returns-clause-kept : goal.returns-clause-kept
returns-clause-kept c = part_orderly c.args.to c.args.value.now c.in_ok-found.found.now c.requires (sym c.in_ok-found.ensures)
