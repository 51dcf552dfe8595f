use Rattle.std.proofs.lemmas.Str.Pattern.{strip_prefix_char}
use Rattle.evt_text.proofs.Fronts.{behind_sign-cases}
use Rattle.evt_text.proofs.parts.behind_sign.Goals as goal

pub returns : goal.returns
returns c = behind_sign-cases c.args.sign c.args.text.now c.strip_prefix.result (strip_prefix_char c.args.sign c.args.text.now c.strip_prefix.result c.strip_prefix.ensures.cases c.requires)
