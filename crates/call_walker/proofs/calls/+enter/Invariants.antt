use Rattle.call_walker.proofs.calls.+enter.Given as goal

abbrev pub decreases-enter : goal.decreases-enter
decreases-enter g l = l.depth
