use Rattle.std.proofs.Common.{ap, ◌∙◌, slice_get}
use Rattle.plain_host.specs.Places.{amount_at}
use Rattle.plain_host.proofs.Placing.{at_place}
use Rattle.plain_host.proofs.counting.count_of.Goals as goal

pub returns : goal.returns
returns c = c.amount_at.ensures ∙ ap (λ n. amount_at c.args.channel.now c.args.slot (slice_get c.args.tallies.now n)) c.place_of-at.ensures.place ∙ at_place c.args.channel.now c.args.slot c.args.tallies.now
