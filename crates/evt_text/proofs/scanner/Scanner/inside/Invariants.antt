use Rattle.std.proofs.Common.{◌≡◌, length, false}
use Rattle.evt_text.specs.Reading.{with_front, inside_from}
use Rattle.evt_text.proofs.scanner.Scanner.inside.Given as goal

abbrev pub invariant-pieces : goal.invariant-pieces
invariant-pieces l = with_front l.value (inside_from false l.self.rest.now) ≡ inside_from false l.initial.self.rest.now

abbrev pub decreases-pieces : goal.decreases-pieces
decreases-pieces l = length l.self.rest.now
