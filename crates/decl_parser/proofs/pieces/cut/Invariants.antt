use Rattle.std.proofs.Common.{◌≡◌, ◌-◌, length}
use Rattle.decl_parser.specs.declared.region.Region.TheVariants.{Outside}
use Rattle.decl_parser.specs.Declaring.{cut}
use Rattle.decl_parser.proofs.pieces.cut.Given as goal

abbrev pub invariant-pieces : goal.invariant-pieces
invariant-pieces l = cut l.tokens (l._turn-end - l._turn) l.here l.at ≡ cut l.tokens (length l.tokens) Outside 0
