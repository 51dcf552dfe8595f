-- What a context that runs lends, and what it keeps in order.
use Rattle.std.specs.Prelude.{List, [], ◌∷◌, Option, Some, None}
use Rattle.context_meaning.specs.declared.context.Instance.{Instance}
use Rattle.context_meaning.specs.declared.context.Waiting.{Waiting}
use Rattle.live_context.specs.declared.lent.Lent.{Lent}

-- the monitor and the globals of an instance, where it is there
abbrev pub lent : Option Instance → Option Lent
lent None = None
lent (Some i) = Some (record { monitor = i.monitor; globals = i.globals })

-- the marks that there are
abbrev pub listed : Option Waiting → List Waiting
listed None = []
listed (Some w) = w ∷ []

-- the first, and those behind it
abbrev pub first_of : List Waiting → Option Waiting
first_of [] = None
first_of (w ∷ ws) = Some w

abbrev pub rest_of : List Waiting → List Waiting
rest_of [] = []
rest_of (w ∷ ws) = ws
