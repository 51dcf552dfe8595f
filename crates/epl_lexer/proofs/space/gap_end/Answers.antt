use Rattle.std.proofs.Common.{arith}
use Rattle.epl_lexer.proofs.Spaces.{gap_more}
use Rattle.epl_lexer.proofs.space.gap_end.Goals as goal

pub spaces-preserved : goal.spaces-preserved
spaces-preserved c =
    let inside = c.in-Some.ensures.inside in
    let before = c.spaces.invariant.1 in
    (gap_more _ _ _ _ c.spaces.invariant.0 c.in-Some.ensures.space, omega arith, omega arith)
