use Rattle.stmt_check.proofs.Ending.{last_is}
use Rattle.std.proofs.Common.{sym, ◌∙◌}
use Rattle.stmt_check.proofs.endings.+endings.Goals as goal

pub ends_with_return-returns-in-len1-up : goal.ends_with_return-returns-in-len1-up
ends_with_return-returns-in-len1-up t c =
    c.is_last.ensures ∙ sym (last_is c.args.stmts.now c.last-item.result (rw c.as_slice.ensures at c.in-len1-up.len_at_least) (rw c.as_slice.ensures at c.last-item.is))
