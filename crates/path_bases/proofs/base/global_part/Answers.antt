use Rattle.std.specs.Prelude.{slice_get}
use Rattle.body_meaning.specs.Runs.{given}
use Rattle.body_meaning.specs.Paths.{part}
use Rattle.path_bases.specs.Bases.{followed_from}
use Rattle.path_bases.proofs.Reached.{same_reached, finds_from, finds_no_part, finds_no_memory, finds_further}
use Rattle.path_bases.proofs.base.global_part.Goals as goal

pub returns-in_err-_found-clause-means : goal.returns-in_err-_found-clause-means
returns-in_err-_found-clause-means c = λ v e told locals. finds_from c.args.to v c.in_ok-value.value.now told (record { globals = c.args.globals.now; locals = locals }) c.from_residual-in_err-_found.result (same_reached (followed_from c.args.moves (slice_get c.args.globals.now c.args.number)) v c.in_ok-value.value.now e c.in_ok-value.ensures.value) (finds_no_part told (record { globals = c.args.globals.now; locals = locals }) (part c.args.to c.in_ok-value.value.now) _ c.from_residual-in_err-_found.result c.in_err-_found.ensures c.from_residual-in_err-_found.ensures.1)

pub returns-in_err-push-clause-means : goal.returns-in_err-push-clause-means
returns-in_err-push-clause-means c = λ v e told locals. finds_no_memory (given (part c.args.to v)) told (record { globals = c.args.globals.now; locals = locals }) c.from_residual-in_err-push.result c.from_residual-in_err-push.ensures.1

pub returns-clause-means : goal.returns-clause-means
returns-clause-means c = λ v e told locals. finds_further told c.args.globals.now locals c.args.number c.args.moves c.push.new.self c.args.to v c.in_ok-value.value.now c.in_ok-_found._found.now e c.in_ok-value.ensures.value c.in_ok-_found.ensures c.in_ok-push.ensures.ok
