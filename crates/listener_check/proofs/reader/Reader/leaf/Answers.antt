use Rattle.listener_check.specs.Terms.{leaf_template_read}
use Rattle.listener_check.proofs.Going.{on-part}
use Rattle.listener_check.proofs.reader.Reader.leaf.Goals as goal

pub returns : goal.returns
unfolding leaf_template_read
returns c = on-part _ _ _ _ c.in_ok-shape.ensures
