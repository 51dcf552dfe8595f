use Rattle.worker_theory.proofs.Steps.{slot-begins, slot-posts, slot-handles}
use Rattle.worker_theory.proofs.laws.slot_goes_on.Goals as goal

pub returns-clause-begins : goal.returns-clause-begins
returns-clause-begins g c = λ A slot x hand got posted none nothing. slot-begins A slot x hand got posted none nothing

pub returns-clause-posts : goal.returns-clause-posts
returns-clause-posts g c = λ A slot from hand now now' left got posted posted' sent cell count box more h. slot-posts A slot from hand now now' left got posted posted' sent cell count box more h

pub returns-clause-handles : goal.returns-clause-handles
returns-clause-handles g c = λ A slot from hand now now' left left' got got' posted e new live next came is h. slot-handles A slot from hand now now' left left' got got' posted e new live next came is h
