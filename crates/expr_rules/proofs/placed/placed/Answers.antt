use Rattle.std.proofs.Common.{sym, ◌∙◌}
use Rattle.expr_rules.proofs.Codes.{told_lowest}
use Rattle.expr_rules.specs.Asked.{demand_of}
use Rattle.expr_rules.specs.Places.{place_codes, placed}
use Rattle.expr_rules.proofs.placed.placed.Goals as goal

-- src/placed.rt:190:1
pub returns-in-Some : goal.returns-in-Some
unfolding placed
returns-in-Some c = told_lowest c.args.spot c.args.own c.place_code.result (place_codes (demand_of c.args.need) c.args.root c.args.given) c.in-Some.code c.place_code.ensures (sym c.lower.ensures ∙ c.in-Some.is)
