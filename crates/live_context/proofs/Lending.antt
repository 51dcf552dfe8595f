-- What is lent of an instance is put back.
use Rattle.std.proofs.Common.{◌≡◌}
use Rattle.live_context.proofs.Common.{ℕ, List, [], ap, Value}
use Rattle.context_meaning.specs.Contexts.{Context, with_globals}
use Rattle.live_context.proofs.Places.{put_put}

-- the globals of an instance from which they were lent
pub put_back : (number : ℕ) (globals : List Value) (c : Context) → with_globals number globals (with_globals number [] c) ≡ with_globals number globals c
put_back number globals c = ap (λ is. record c { instances = is }) (put_put number [] globals c.instances)
