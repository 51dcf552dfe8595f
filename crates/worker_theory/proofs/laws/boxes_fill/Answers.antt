use Rattle.actor_theory.proofs.Reading.{delivered-none}
use Rattle.worker_theory.proofs.Boxes.{put-delivered}
use Rattle.worker_theory.proofs.laws.boxes_fill.Goals as goal

pub returns-clause-none : goal.returns-clause-none
returns-clause-none g c = λ s number boxes. delivered-none s number boxes

pub returns-clause-more : goal.returns-clause-more
returns-clause-more g c = λ s number x xs boxes within. put-delivered s number x xs boxes within
