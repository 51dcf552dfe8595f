use Rattle.std.proofs.Common.{sym, ◌∙◌}
use Rattle.std.proofs.lemmas.Result.{on_ok_weaker}
use Rattle.typed_program.specs.declared.program.Site.{Site}
use Rattle.term_shapes.specs.Kept.{CompletionsFit}
use Rattle.context_steps.proofs.Stepping.{finished_at, read_at, read_fits}
use Rattle.context_steps.proofs.turns.finish_at.Goals as goal

pub finish-requires-clause-caller : goal.finish-requires-clause-caller
finish-requires-clause-caller g c = read_fits c.args.around.now.program.now c.args.birth c.args.context.now c.in-Some.called c.in-Some-site_at.site.now c.requires.fits (sym c.in-Some.is ∙ c.in_ok-called.ensures) c.in-Some-site_at.ensures

pub finish-requires-clause-bound : goal.finish-requires-clause-bound
finish-requires-clause-bound g c = read_at c.args.around.now.program.now c.args.birth c.args.context.now c.in-Some.called c.in-Some-site_at.site.now (λ (s : Site). CompletionsFit c.args.around.now.program.now.types s.bound c.args.completions.now) c.requires.bound (sym c.in-Some.is ∙ c.in_ok-called.ensures) c.in-Some-site_at.ensures

pub returns-clause-means : goal.returns-clause-means
returns-clause-means g c = on_ok_weaker c.finish.result (finished_at c.args.around.now.program.now c.args.birth c.args.context.now c.finish.new.context c.in-Some.called c.in-Some-site_at.site.now c.args.completions.now c.args.ended (sym c.in-Some.is ∙ c.in_ok-called.ensures) c.in-Some-site_at.ensures) c.finish.ensures.means
