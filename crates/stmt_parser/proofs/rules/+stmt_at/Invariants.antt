use Rattle.stmt_parser.proofs.rules.+stmt_at.Given as goal

abbrev pub decreases-stmt_at : goal.decreases-stmt_at
decreases-stmt_at l = l.depth
