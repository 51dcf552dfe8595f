use Rattle.epl_syntax.proofs.Tells.{tells_fault}
use Rattle.epl_syntax.proofs.programs.fault.Goals as goal

pub returns-in-Ok : goal.returns-in-Ok
returns-in-Ok c =
    tells_fault c.args.tokens.now (c.in-Ok.field-0-0, c.in-Ok.at) c.spot_at.result c.requires c.in-Ok.ensures c.spot_at.ensures
