use Rattle.std.proofs.Common.{rules, tests}
use Rattle.std.specs.Prelude.{◌==◌}
use Rattle.std.proofs.lemmas.Iterator.{YieldsList-from_slice}
use Rattle.std.proofs.lemmas.Iterator.Search.{find_from_yields_List}
use Rattle.typed_program.specs.declared.program.Monitor.{Monitor}
use Rattle.call_walker.proofs.Begun.{begun_seen}
use Rattle.call_walker.proofs.calls.begun_by.Goals as goal

pub returns : goal.returns
returns c = begun_seen c.args.program.now c.args.number c.find.result (find_from_yields_List (λ (m : Monitor). m.onload == c.args.number) _ _ c.find.result c.find.ensures.ran (YieldsList-from_slice c.args.program.now.monitors (cc)) (λ x b q k. search (rules, tests)))
