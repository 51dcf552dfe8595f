use Rattle.event_parser.proofs.rules.+event_at.Given as goal

abbrev pub decreases-event_at : goal.decreases-event_at
decreases-event_at l = l.depth
