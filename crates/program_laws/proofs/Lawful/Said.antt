-- Every expression mentions what it names.
use Rattle.std.proofs.Common.{◌≡◌}
use Rattle.program_laws.proofs.Common.{ℕ, false, List, Some, Scope, Seen, Table, type_found, integer_found, text_stands, boolean_stands, current_stands, seen}
use Rattle.expr_rules.specs.Literals.{new_stands}
use Rattle.expr_rules.specs.Places.{is_global}
use Rattle.expr_rules.specs.Then.{and_then}
use Rattle.program_laws.proofs.Lawful.Saying.{PartSays}
use Rattle.program_laws.proofs.Lawful.SayingCalls.{PairSays, name_says, none_says, group_says, call_says, context_says, sequence_says, pair_says, dictionary_says}
use Rattle.program_laws.proofs.Lawful.SayingOperands.{LinkSays, not_says, minus_says, comparison_says, logic_says, links_say}
use Rattle.program_laws.proofs.Lawful.SayingSteps.{StepSays, field_says, index_says, method_says, postfix_says}
use Rattle.program_laws.proofs.Exprs.Inductions.{Forms}

-- every form mentions what is named in it, where its parts do
pub forms_say : (table : Table) (scope : Scope) (name : List ℕ) (s : Seen) → seen scope name ≡ Some s → is_global s.kind ≡ false → Forms table scope (PartSays name s) (StepSays name s) (PairSays name s) (LinkSays name s)
forms_say table scope name s at inner = record {
  logic_is = λ l first parts n ns spot f fs. logic_says name s l first parts n ns spot f fs;
  not_is = λ part n spot f. not_says name s part n spot f;
  comparison_is = λ left right c n m spot f g. comparison_says name s left right c n m spot f g;
  links_is = λ l first links n ns spot f fs. links_say name s l first links n ns spot f fs;
  minus_is = λ part n spot f. minus_says name s part n spot f;
  postfix_is = λ part steps n ns spot f fs. postfix_says name s part steps n ns spot f fs;
  integer_is = λ digits spot. none_says name s (λ demand. integer_found spot demand digits);
  quoted_is = λ text spot. none_says name s (λ demand. text_stands spot demand text);
  boolean_is = λ b spot. none_says name s (λ demand. boolean_stands spot demand b);
  name_is = λ text spot. name_says name s scope at inner text spot;
  call_is = λ text parts ns spot fs. call_says name s table scope text parts ns spot fs;
  sequence_is = λ parts ns spot fs. sequence_says name s parts ns spot fs;
  dictionary_is = λ pairs ns spot fs. dictionary_says name s pairs ns spot fs;
  new_is = λ written spot. none_says name s (λ demand. and_then (type_found table written) (new_stands spot demand));
  context_is = λ parts ns spot fs. context_says name s parts ns spot fs;
  current_is = λ spot. none_says name s (current_stands spot);
  group_is = λ part n spot f. group_says name s part n spot f;
  field_is = λ field. field_says name s table field;
  index_is = λ part n own f. index_says name s part n own f;
  method_is = λ method parts ns fs. method_says name s method parts ns fs;
  pair_is = λ key value n m f g. pair_says name s key value n m f g;
  link_is = λ o part n f. f;
}
