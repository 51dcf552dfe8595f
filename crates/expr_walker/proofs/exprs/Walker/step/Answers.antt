use Rattle.std.proofs.Common.{sym, ap, refl, ◌∙◌}
use Rattle.typed_program.specs.declared.expression.TypedSuffixNode.TheVariants as step
use Rattle.body_meaning.specs.Acts.{enter}
use Rattle.body_meaning.specs.Expressions.{Reach}
use Rattle.body_meaning.specs.Statements.{move_of}
use Rattle.walk_rules.proofs.Forms as form
use Rattle.walk_laws.proofs.Telling.{tells_as, tells_err, tells_pure, tells_given_err}
use Rattle.expr_walker.proofs.Walking.{walked_err}
use Rattle.expr_walker.proofs.exprs.Walker.step.Goals as goal

pub returns-in-Field : goal.returns-in-Field
returns-in-Field g c = record { means = tells_as (ap (λ (x : Reach). move_of x.move) (form.field_step_is c.args.self.now.program.now.types (enter c.args.self.now.program.now c.args.self.now.depth) c.args.step.now c.in-Field.n c.in-Field.is)) (tells_pure _ _ _); kept = c.requires.globals; order = tt }

pub returns-in-Item : goal.returns-in-Item
returns-in-Item g c = record { means = tells_as (ap (λ (x : Reach). move_of x.move) (form.item_step_is c.args.self.now.program.now.types (enter c.args.self.now.program.now c.args.self.now.depth) c.args.step.now c.get.result.now (c.in-Item.is ∙ ap step.Item (sym c.get.ensures)))) c.item.ensures.means; kept = c.item.ensures.kept; order = c.item.ensures.order }

pub returns-in-Key : goal.returns-in-Key
returns-in-Key g c = record { means = tells_as (ap (λ (x : Reach). move_of x.move) (form.key_step_is c.args.self.now.program.now.types (enter c.args.self.now.program.now c.args.self.now.depth) c.args.step.now c.get-in-Key.result.now (c.in-Key.is ∙ ap step.Key (sym c.get-in-Key.ensures)))) c.key.ensures.means; kept = c.key.ensures.kept; order = c.key.ensures.order }

pub returns-in-Method : goal.returns-in-Method
returns-in-Method g c = walked_err _ c.from.ensures c.requires.globals (tells_as (ap (λ (x : Reach). move_of x.move) (form.method_step_is c.args.self.now.program.now.types (enter c.args.self.now.program.now c.args.self.now.depth) c.args.step.now c.in-Method.field-0 c.in-Method.field-1 c.in-Method.is)) (tells_given_err _ _ refl))
