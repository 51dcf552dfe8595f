use Rattle.correlator_run.proofs.Completing.{completes, words_status}
use Rattle.correlator_run.proofs.laws.promise_completes.Goals as goal

pub returns-clause-words : goal.returns-clause-words
returns-clause-words c = words_status

pub returns-clause-complete : goal.returns-clause-complete
returns-clause-complete c = completes
