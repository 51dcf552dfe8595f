use Rattle.std.proofs.Common.{◌≡◌, drop}
use Rattle.std.specs.Prelude.{◌||◌, false}
use Rattle.std.specs.List.{list_any}
use Rattle.type_table.specs.Names.{number_in}
use Rattle.type_table.specs.Chains.{met, at_number, aim_of}
use Rattle.type_table.proofs.chains.begins.Given as goal

abbrev pub invariant-fields : goal.invariant-fields
invariant-fields l =
    let test = met l.search.link (λ n. aim_of l.search.aims l.search.target.now n || at_number false l.table (number_in l.kinds.names n)) in
    list_any (λ f. test f.shape) (drop l.field-index l.event.fields) ≡ list_any (λ f. test f.shape) l.event.fields
