use Rattle.std.proofs.Common.{◌≡◌, ℕ, List, Option, Some, None, refl, sym, Bor, MatchOption}
use Rattle.std.specs.Option.{option_map}
use Rattle.std.specs.Str.Pattern.{FindsTextPrefix, StripsPrefix}
use Rattle.evt_text.specs.Reading.{behind_name}
use Rattle.evt_text.proofs.Fronts.{behind_name-at, behind_name-none}
use Rattle.evt_text.proofs.parts.behind_name.Goals as goal

strip_prefix_text : (name text : List ℕ) (r : Option (Bor (List ℕ))) → MatchOption r (FindsTextPrefix name text None) (λ x. StripsPrefix (FindsTextPrefix name) text x.now)
    → option_map (λ x. x.now) r ≡ behind_name name text
strip_prefix_text name text None h = sym (behind_name-none name text _ refl h)
strip_prefix_text name text (Some x) h = rw (h.1.1, behind_name-at) (rw h.2 refl)

pub returns : goal.returns
returns c = strip_prefix_text c.args.name.now c.args.text.now c.strip_prefix.result c.strip_prefix.ensures.cases
