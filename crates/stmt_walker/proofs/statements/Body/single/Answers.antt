use Rattle.std.proofs.Common.{refl}
use Rattle.body_meaning.specs.declared.run.Flow.TheVariants.{Broke, Continued}
use Rattle.body_meaning.specs.declared.run.Halt.TheVariants.{Died}
use Rattle.walk_laws.proofs.Telling.{tells_as, tells_err, tells_bind, tells_bind_err, tells_halt, tells_memory, tells_pure}
use Rattle.walk_laws.proofs.Stating.{tells_done, tells_done_err, tells_set}
use Rattle.walk_laws.proofs.Lending.{frame_set}
use Rattle.stmt_walker.proofs.Orders.{default_orderly}
use Rattle.stmt_walker.proofs.Telling.{tells_set_as}
use Rattle.stmt_walker.proofs.Singly.{on_single, declare_single, declare_as_single, declare_on_single, assign_single, assign_on_single, break_single, continue_single, return_single, die_single, call_single, other_single}
use Rattle.stmt_walker.proofs.statements.Body.single.Goals as goal

pub returns-in_err-_listener-in-On-clause-means : goal.returns-in_err-_listener-in-On-clause-means
returns-in_err-_listener-in-On-clause-means g c = tells_err _ c.from_residual.ensures.1 (tells_as (on_single c.args.self.now.program.now c.args.self.now.depth c.args.stmt.now c.in-On.site c.in-On.is) (tells_done_err c.in_err-_listener-in-On.ensures.means))

pub returns-in_ok-_listener-in-On-clause-means : goal.returns-in_ok-_listener-in-On-clause-means
returns-in_ok-_listener-in-On-clause-means g c = tells_as (on_single c.args.self.now.program.now c.args.self.now.depth c.args.stmt.now c.in-On.site c.in-On.is) (tells_done c.in_ok-_listener-in-On.ensures.means)

pub returns-in_err-value-in-Declare-clause-means : goal.returns-in_err-value-in-Declare-clause-means
returns-in_err-value-in-Declare-clause-means g c = tells_err _ c.from_residual-in_err-value-in-Declare.ensures.1 (tells_memory _ _ _ refl)

pub set_local-requires-clause-value : goal.set_local-requires-clause-value
set_local-requires-clause-value g c = default_orderly c.args.self.now.program.now.types c.in-Declare.shape c.in_ok-value-in-Declare.ensures

pub returns-in_ok-value-in-Declare-clause-means : goal.returns-in_ok-value-in-Declare-clause-means
returns-in_ok-value-in-Declare-clause-means g c = tells_as (declare_single c.args.self.now.program.now c.args.self.now.depth c.args.stmt.now c.in-Declare.n c.in-Declare.shape c.in-Declare.is) (tells_set_as c.in-Declare.n _ c.in_ok-value-in-Declare.ensures (frame_set _ c.args.locals.now c.set_local.new.locals c.in-Declare.n c.in_ok-value-in-Declare.value c.set_local.ensures.is))

pub returns-in_err-value-in-DeclareAs-clause-means : goal.returns-in_err-value-in-DeclareAs-clause-means
returns-in_err-value-in-DeclareAs-clause-means g c = tells_err _ c.from_residual-in_err-value-in-DeclareAs.ensures.1 (tells_as (declare_as_single c.args.self.now.program.now c.args.self.now.depth c.args.stmt.now c.in-DeclareAs.n c.in-DeclareAs.e c.in-DeclareAs.is) (tells_bind_err _ c.in_err-value-in-DeclareAs.ensures.means))

pub returns-in_ok-value-in-DeclareAs-clause-means : goal.returns-in_ok-value-in-DeclareAs-clause-means
returns-in_ok-value-in-DeclareAs-clause-means g c = tells_as (declare_as_single c.args.self.now.program.now c.args.self.now.depth c.args.stmt.now c.in-DeclareAs.n c.in-DeclareAs.e c.in-DeclareAs.is) (tells_bind _ c.in_ok-value-in-DeclareAs.ensures.means (tells_set c.in-DeclareAs.n _ _ (frame_set _ c.args.locals.now c.set_local-in-DeclareAs.new.locals c.in-DeclareAs.n c.in_ok-value-in-DeclareAs.value c.set_local-in-DeclareAs.ensures.is)))

pub returns-in_err-value-in-DeclareOn-clause-means : goal.returns-in_err-value-in-DeclareOn-clause-means
returns-in_err-value-in-DeclareOn-clause-means g c = tells_err _ c.from_residual-in_err-value-in-DeclareOn.ensures.1 (tells_as (declare_on_single c.args.self.now.program.now c.args.self.now.depth c.args.stmt.now c.in-DeclareOn.n c.in-DeclareOn.site c.in-DeclareOn.is) (tells_bind_err _ c.in_err-value-in-DeclareOn.ensures.means))

pub returns-in_ok-value-in-DeclareOn-clause-means : goal.returns-in_ok-value-in-DeclareOn-clause-means
returns-in_ok-value-in-DeclareOn-clause-means g c = tells_as (declare_on_single c.args.self.now.program.now c.args.self.now.depth c.args.stmt.now c.in-DeclareOn.n c.in-DeclareOn.site c.in-DeclareOn.is) (tells_bind _ c.in_ok-value-in-DeclareOn.ensures.means (tells_set c.in-DeclareOn.n _ _ (frame_set _ c.args.locals.now c.set_local-in-DeclareOn.new.locals c.in-DeclareOn.n c.in_ok-value-in-DeclareOn.value c.set_local-in-DeclareOn.ensures.is)))

pub returns-in-Assign-clause-means : goal.returns-in-Assign-clause-means
returns-in-Assign-clause-means g c = tells_as (assign_single c.args.self.now.program.now c.args.self.now.depth c.args.stmt.now c.in-Assign.place c.in-Assign.e c.in-Assign.is) c.assign.ensures.means

pub returns-in-AssignOn-clause-means : goal.returns-in-AssignOn-clause-means
returns-in-AssignOn-clause-means g c = tells_as (assign_on_single c.args.self.now.program.now c.args.self.now.depth c.args.stmt.now c.in-AssignOn.place c.in-AssignOn.site c.in-AssignOn.is) c.assign_on.ensures.means

pub returns-in-Break-clause-means : goal.returns-in-Break-clause-means
returns-in-Break-clause-means g c = tells_as (break_single c.args.self.now.program.now c.args.self.now.depth c.args.stmt.now c.in-Break.is) (tells_pure Broke _ _)

pub returns-in-Continue-clause-means : goal.returns-in-Continue-clause-means
returns-in-Continue-clause-means g c = tells_as (continue_single c.args.self.now.program.now c.args.self.now.depth c.args.stmt.now c.in-Continue.is) (tells_pure Continued _ _)

pub returns-in-Return-clause-means : goal.returns-in-Return-clause-means
returns-in-Return-clause-means g c = tells_as (return_single c.args.self.now.program.now c.args.self.now.depth c.args.stmt.now c.in-Return.e c.in-Return.is) c.returned.ensures.means

pub returns-in-Die-clause-means : goal.returns-in-Die-clause-means
returns-in-Die-clause-means g c = tells_as (die_single c.args.self.now.program.now c.args.self.now.depth c.args.stmt.now c.in-Die.is) (tells_halt Died _ _)

pub returns-in-Call-clause-means : goal.returns-in-Call-clause-means
returns-in-Call-clause-means g c = tells_as (call_single c.args.self.now.program.now c.args.self.now.depth c.args.stmt.now c.in-Call.e c.in-Call.is) c.run.ensures.means

pub returns-in_err-effect-in_default-clause-means : goal.returns-in_err-effect-in_default-clause-means
returns-in_err-effect-in_default-clause-means g c = tells_err _ c.from_residual-in_err-effect-in_default.ensures.1 (tells_as (other_single c.args.self.now.program.now c.args.self.now.depth c.args.stmt.now c.in_default.not-On c.in_default.not-Declare c.in_default.not-DeclareAs c.in_default.not-DeclareOn c.in_default.not-Assign c.in_default.not-AssignOn c.in_default.not-Break c.in_default.not-Continue c.in_default.not-Return c.in_default.not-Die c.in_default.not-Call) (tells_done_err c.in_err-effect-in_default.ensures.means))

pub returns-in_ok-effect-in_default-clause-means : goal.returns-in_ok-effect-in_default-clause-means
returns-in_ok-effect-in_default-clause-means g c = tells_as (other_single c.args.self.now.program.now c.args.self.now.depth c.args.stmt.now c.in_default.not-On c.in_default.not-Declare c.in_default.not-DeclareAs c.in_default.not-DeclareOn c.in_default.not-Assign c.in_default.not-AssignOn c.in_default.not-Break c.in_default.not-Continue c.in_default.not-Return c.in_default.not-Die c.in_default.not-Call) (tells_done c.in_ok-effect-in_default.ensures.means)
