use Rattle.std.proofs.Common.{sym}
use Rattle.entry_queues.proofs.Lemmas.{first-copied, read-at}
use Rattle.entry_queues.proofs.queued.first_at.Goals as goal

pub returns : goal.returns
returns c = first-copied c.args.queued.now.items c.args.actor c.index.result.now c.first.result c.requires c.index.ensures c.first.ensures
