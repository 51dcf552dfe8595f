use Rattle.listener_check.specs.Templates.{typed_read}
use Rattle.listener_check.proofs.Going.{goes-on}
use Rattle.listener_check.proofs.reader.Reader.typed.Goals as goal

pub returns-in_ok-count_leaf-in-Some : goal.returns-in_ok-count_leaf-in-Some
unfolding typed_read
returns-in_ok-count_leaf-in-Some c = rw c.in-Some.is (goes-on _ _ _ _ _ _ c.in_ok-count_leaf-in-Some.ensures c.parts_of.ensures)
