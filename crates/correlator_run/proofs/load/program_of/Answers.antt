use Rattle.correlator_run.proofs.Faults.{fault_named}
use Rattle.correlator_run.proofs.load.program_of.Goals as goal

pub refusal_of-requires : goal.refusal_of-requires
refusal_of-requires c = fault_named c.args.texts.now c.args.names.now c.in-Err.why c.in-Err.ensures.program c.requires.named
