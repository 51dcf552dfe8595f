use Rattle.std.proofs.Common.{[], map, sym, ap, subst, ◌∙◌}
use Rattle.typed_program.specs.declared.expression.TypedNode.TheVariants as tree
use Rattle.body_meaning.specs.Acts.{enter}
use Rattle.body_meaning.specs.Runs.{all}
use Rattle.body_meaning.specs.Statements.{moves_in}
use Rattle.value_steps.specs.Orderly.{AreOrderlyMoves}
use Rattle.path_bases.specs.Locals.{frame_of}
use Rattle.walk_laws.proofs.Telling.{tells_as, tells_err, tells_bind, tells_bind_err}
use Rattle.expr_walker.specs.Means.{reach_by}
use Rattle.expr_walker.proofs.Steps.{all_split, place_of_steps, place_unmoved, unmoved_told}
use Rattle.expr_walker.proofs.exprs.Walker.+path_moves.Goals as goal

pub returns-in_err-before-in-Postfix-clause-means : goal.returns-in_err-before-in-Postfix-clause-means
returns-in_err-before-in-Postfix-clause-means g t c = λ p is. let q = place_of_steps c.args.self.now.program.now.types (enter c.args.self.now.program.now c.args.self.now.depth) c.args.e.now c.get.result.now c.in-Postfix.steps p (c.in-Postfix.is ∙ ap (λ x. tree.Postfix x c.in-Postfix.steps) (sym c.get.ensures)) is in tells_err _ c.from_residual.ensures.1 (tells_as (ap all q.moves ∙ all_split [] q.before.moves (moves_in (map (reach_by c.args.self.now.program.now c.args.self.now.depth) c.in-Postfix.steps))) (tells_bind_err _ (c.in_err-before-in-Postfix.ensures.means q.before q.is)))

pub returns-in_ok-before-in-Postfix-clause-means : goal.returns-in_ok-before-in-Postfix-clause-means
returns-in_ok-before-in-Postfix-clause-means g t c = λ p is. let q = place_of_steps c.args.self.now.program.now.types (enter c.args.self.now.program.now c.args.self.now.depth) c.args.e.now c.get.result.now c.as_slice.result.now p (c.in-Postfix.is ∙ ap (λ x. tree.Postfix x c.in-Postfix.steps) (sym c.get.ensures) ∙ ap (λ x. tree.Postfix c.get.result.now x) (sym c.as_slice.ensures)) is in tells_as (ap all q.moves ∙ all_split [] q.before.moves (moves_in (map (reach_by c.args.self.now.program.now c.args.self.now.depth) c.as_slice.result.now))) (tells_bind _ (c.in_ok-before-in-Postfix.ensures.means q.before q.is) c.steps_behind.ensures.means)

pub returns-in_default : goal.returns-in_default
returns-in_default g t c = record {
  means = λ p is. unmoved_told p c.new.result (g.H.Host.told c.args.host.now) (frame_of c.args.globals.now c.args.self.now.locals.now) c.new.ensures (place_unmoved c.args.self.now.program.now.types (enter c.args.self.now.program.now c.args.self.now.depth) c.args.e.now p c.in_default.not-Postfix is);
  kept = c.requires.globals;
  order = subst AreOrderlyMoves (sym c.new.ensures) tt;
}
