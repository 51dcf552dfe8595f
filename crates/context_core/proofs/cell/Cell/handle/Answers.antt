use Rattle.std.proofs.Common.{◌≡◌, rules}
use Rattle.actor_theory.specs.Language.{number_after}
use Rattle.context_core.proofs.Sending.{after, came-back}
use Rattle.context_core.proofs.cell.Cell.handle.Goals as goal

pub returns-then-is_spent-clause-after : goal.returns-then-is_spent-clause-after
returns-then-is_spent-clause-after c settings =
    let numbered : c.in-Some.number ≡ number_after c.self.inside.number c.args.entry = search rules in
    after c.args.program.now settings c.args.self.now c.self.inside.context c.handle.new.context c.self.inside.number c.in-Some.number c.self.inside.log c.push.new.self c.self.inside.outboxes.items c.args.entry c.self.view_is numbered c.in_ok-cargo.ensures.means
    (came-back c.self.inside.log c.push.new.self c.args.entry c.in_ok-cargo.cargo c.in-Some.number c.in_ok-cargo.ensures.gives c.in_ok-push.ensures.ok)

pub returns-clause-after : goal.returns-clause-after
returns-clause-after c settings =
    let numbered : c.in-Some.number ≡ number_after c.self.inside.number c.args.entry = search rules in
    after c.args.program.now settings c.args.self.now c.self.inside.context c.handle.new.context c.self.inside.number c.in-Some.number c.self.inside.log c.push.new.self c.self.inside.outboxes.items c.args.entry c.self.view_is numbered c.in_ok-cargo.ensures.means
    (came-back c.self.inside.log c.push.new.self c.args.entry c.in_ok-cargo.cargo c.in-Some.number c.in_ok-cargo.ensures.gives c.in_ok-push.ensures.ok)
