use Rattle.std.proofs.Common.{length, refl}
use Rattle.std.proofs.lemmas.Option.{slice_get_read}
use Rattle.live_context.proofs.Stepping.{same_put}
use Rattle.live_context.proofs.listeners.step_at.Goals as goal

pub returns-clause-same : goal.returns-clause-same
returns-clause-same c =
    let xs = c.args.listeners.now.items in
    same_put xs _ c.args.at c.index_mut.result.now c.step_one.new.listener (slice_get_read xs (length xs) c.args.at c.index_mut.result.now refl c.requires.within c.index_mut.ensures.value) refl c.step_one.ensures.same
