use Rattle.std.proofs.Common.{◌∙◌}
use Rattle.evt_text.proofs.Strings.{plain-boundary, plain-take, plain-drop}
use Rattle.evt_text.proofs.scanner.Scanner.plain.Goals as goal

pub split_at-requires : goal.split_at-requires
split_at-requires c = rw c.plain_len.ensures (plain-boundary c.args.self.now.rest.now)

pub returns-clause-front : goal.returns-clause-front
returns-clause-front c = c.split_at.ensures.front ∙ rw c.plain_len.ensures (plain-take c.args.self.now.rest.now)

pub returns-clause-rest : goal.returns-clause-rest
returns-clause-rest c = c.split_at.ensures.back ∙ rw c.plain_len.ensures (plain-drop c.args.self.now.rest.now)
