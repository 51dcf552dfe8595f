use Rattle.worker_theory.proofs.Steps.{source-begins, source-posts, source-handles, source-takes}
use Rattle.worker_theory.proofs.laws.reader_goes_on.Goals as goal

pub returns-clause-begins : goal.returns-clause-begins
returns-clause-begins g c = λ B contexts x hand got posted none nothing. source-begins B contexts x hand got posted none nothing

pub returns-clause-posts : goal.returns-clause-posts
returns-clause-posts g c = λ B contexts from hand now now' left got posted posted' sent cell count box more h. source-posts B contexts from hand now now' left got posted posted' sent cell count box more h

pub returns-clause-handles : goal.returns-clause-handles
returns-clause-handles g c = λ B contexts from hand now now' left left' got got' posted e new next came is h. source-handles B contexts from hand now now' left left' got got' posted e new next came is h

pub returns-clause-takes : goal.returns-clause-takes
returns-clause-takes g c = λ B contexts from hand now now' left got posted i rest first is h. source-takes B contexts from hand now now' left got posted i rest first is h
