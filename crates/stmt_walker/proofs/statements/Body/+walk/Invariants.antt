use Rattle.std.proofs.Common.{◌≡◌, ◌+◌, ◌*◌, length, map, drop}
use denote.Param.Weighed.{most}
use Rattle.typed_program.proofs.statement.Stmt.TheLaws.{the_size}
use Rattle.body_meaning.specs.Statements.{row, each}
use Rattle.value_steps.specs.Orderly.{AreOrderly}
use Rattle.walk_rules.specs.Ran.{Leads, Turning}
use Rattle.path_bases.specs.Locals.{values_in, frame_of}
use Rattle.expr_walker.specs.Means.{value_by}
use Rattle.stmt_walker.specs.Means.{stmt_by}
use Rattle.stmt_walker.proofs.statements.Body.+walk.Given as goal

abbrev pub invariant-row-loop-stmt : goal.invariant-row-loop-stmt
invariant-row-loop-stmt g l = record { leads : Leads (row (map (stmt_by l.self.program.now l.self.depth) l.stmts)) (g.H.Host.told l.fn.host) (frame_of l.fn.globals l.fn.locals) (row (map (stmt_by l.self.program.now l.self.depth) (drop l.stmt-index l.stmts))) (g.H.Host.told l.host) (frame_of l.globals l.locals); globals : AreOrderly l.globals; locals : AreOrderly (values_in l.locals) }

abbrev pub invariant-each-loop-index : goal.invariant-each-loop-index
invariant-each-loop-index g l = record { long : length l.items ≡ l.count; leads : Leads (each l.n l.fn.items (row (map (stmt_by l.self.program.now l.self.depth) l.parts))) (g.H.Host.told l.fn.host) (frame_of l.fn.globals l.fn.locals) (each l.n (drop l.index l.items) (row (map (stmt_by l.self.program.now l.self.depth) l.parts))) (g.H.Host.told l.host) (frame_of l.globals l.locals); items : AreOrderly l.items; globals : AreOrderly l.globals; locals : AreOrderly (values_in l.locals) }

abbrev pub invariant-turns-turns : goal.invariant-turns-turns
invariant-turns-turns g l = record { turning : Turning (value_by l.self.program.now l.self.depth l.test) (row (map (stmt_by l.self.program.now l.self.depth) l.parts)) (g.H.Host.told l.fn.host) (frame_of l.fn.globals l.fn.locals) (g.H.Host.told l.host) (frame_of l.globals l.locals); globals : AreOrderly l.globals; locals : AreOrderly (values_in l.locals) }

abbrev pub decreases-turns-turns : goal.decreases-turns-turns
decreases-turns-turns g l = (g.H.Host.told l.host).scene.fuel

abbrev pub decreases-stmt : goal.decreases-stmt
decreases-stmt g l = 3 * the_size l.stmt.now

abbrev pub decreases-row : goal.decreases-row
decreases-row g l = 3 * most (λ x. the_size x) l.stmts.now + 1

abbrev pub decreases-turns : goal.decreases-turns
decreases-turns g l = 3 * most (λ x. the_size x) l.parts.now + 2

abbrev pub decreases-each : goal.decreases-each
decreases-each g l = 3 * most (λ x. the_size x) l.parts.now + 2
