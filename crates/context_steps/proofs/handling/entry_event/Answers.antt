use Rattle.std.proofs.Common.{sym}
use Rattle.std.proofs.lemmas.Result.{on_ok_weaker}
use Rattle.context_steps.proofs.Fronts.{empty_row, mark_may, settles_event, settles_now}
use Rattle.context_steps.proofs.handling.entry_event.Goals as goal

pub returns-then-is_spent-clause-means : goal.returns-then-is_spent-clause-means
returns-then-is_spent-clause-means g c = on_ok_weaker c.put_mark.result (settles_event c.args.around.now.program.now c.args.value c.in_ok-value.value c.args.context.now c.meet_event.new.context c.put_mark.new.context c.requires.keeps c.requires.fits c.requires.event c.in_ok-value.ensures.means c.in_ok-value.ensures.gives) c.put_mark.ensures.means

pub mark_now-requires-clause-fits : goal.mark_now-requires-clause-fits
mark_now-requires-clause-fits g c = mark_may c.args.around.now.program.now c.args.value c.args.context.now c.meet_event.new.context c.requires.keeps c.requires.fits c.requires.event c.in_ok-value.ensures.means (empty_row c.meet_event.new.context.row c.if-is_row_empty.ensures)

pub returns-then-is_row_empty-clause-means : goal.returns-then-is_row_empty-clause-means
returns-then-is_row_empty-clause-means g c = on_ok_weaker c.mark_now.result (settles_now c.args.around.now.program.now c.args.value c.in_ok-value.value c.args.context.now c.meet_event.new.context c.mark_now.new.context c.requires.keeps c.requires.fits c.requires.event c.in_ok-value.ensures.means c.in_ok-value.ensures.gives (empty_row c.meet_event.new.context.row c.if-is_row_empty.ensures) (sym c.if-is_spent.ensures)) c.mark_now.ensures.means

pub returns-else-is_row_empty-clause-means : goal.returns-else-is_row_empty-clause-means
returns-else-is_row_empty-clause-means g c = on_ok_weaker c.put_mark-else-is_row_empty.result (settles_event c.args.around.now.program.now c.args.value c.in_ok-value.value c.args.context.now c.meet_event.new.context c.put_mark-else-is_row_empty.new.context c.requires.keeps c.requires.fits c.requires.event c.in_ok-value.ensures.means c.in_ok-value.ensures.gives) c.put_mark-else-is_row_empty.ensures.means
