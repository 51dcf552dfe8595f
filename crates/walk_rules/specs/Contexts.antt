-- What a call of `context` says of its context.
use Rattle.std.specs.Prelude.{Bool, false, List, [], ◌∷◌}
use Rattle.epl_values.specs.declared.value.Value.{Value}
use Rattle.body_meaning.specs.Values.{truth_of}

-- whether it takes events without a channel, which is the second argument
abbrev pub public_of : List Value → Bool
public_of [] = false
public_of (name ∷ []) = false
public_of (name ∷ public ∷ others) = truth_of public
