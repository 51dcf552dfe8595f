use Rattle.std.proofs.Common.{◌+◌, ◌∙◌, ap}
use Rattle.actor_theory.specs.Order.{ordered}
use Rattle.world_serial.proofs.EndLemmas.{world-record}
use Rattle.world_serial.proofs.finish.into_record.Goals as goal

pub returns : goal.returns
returns c =
    world-record c.args.settings c.args.world c.from_list-cells.result c.from_list-queued.result c.records.new.queued c.in_ok-contexts.contexts c.in_ok-left.left c.into_record.result c.requires.cells (c.from_list-cells.ensures ∙ c.from_vec.ensures)
    (c.from_list-queued.ensures ∙ c.from_vec-2.ensures) c.in_ok-contexts.ensures.records c.in_ok-contexts.ensures.rest
    (c.in_ok-left.ensures ∙ ap (λ q. ordered (c.args.settings.contexts + 1) q) c.first_queue.ensures) c.into_record.ensures
