use Rattle.front_rows.proofs.Texts.{short-more}
use Rattle.front_rows.proofs.programs.texts_of.Goals as goal

pub files-preserved : goal.files-preserved
files-preserved c = short-more c.files.texts c.push.new.self c.in_ok-text.text c.files.invariant c.in_ok-text.ensures c.in_ok-push.ensures.ok
