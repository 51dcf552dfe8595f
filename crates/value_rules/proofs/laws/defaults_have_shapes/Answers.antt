use Rattle.value_rules.proofs.Defaulted.{default_has, default_has-plain}
use Rattle.value_rules.proofs.laws.defaults_have_shapes.Goals as goal

pub returns-clause-any : goal.returns-clause-any
returns-clause-any c = default_has

pub returns-clause-plain : goal.returns-clause-plain
returns-clause-plain c = default_has-plain
