use Rattle.std.proofs.Common.{◌≡◌, ◌++◌, drop}
use Rattle.std.specs.Prelude.{map}
use Rattle.type_table.specs.Names.{number_in}
use Rattle.type_table.specs.Heads.{param_head}
use Rattle.type_table.proofs.heads.param_heads.Given as goal

abbrev pub invariant-params : goal.invariant-params
invariant-params l = l.heads ++ map (param_head (number_in l.names)) (drop l.param-index l.params) ≡ map (param_head (number_in l.names)) l.params
