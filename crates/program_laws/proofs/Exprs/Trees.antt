-- Every expression answers, and every step behind a value.
use Rattle.std.proofs.Common.{◌∷◌}
use Rattle.program_laws.proofs.Common.{List, [], map, refl, AllByRecursion, Spot, Expr, Suffix, Names, Scope, Table, Judged, Demand, inside, Pair, Part, Linked, astray_code, Step, codes_of, KnowsTable, KnowsNamed, any_of, expr_names, suffix_names, bytes_eq-Decides}
use Rattle.expr_rules.specs.Places.{group_of}
use Rattle.expr_rules.specs.Postfix.{leads}
use Rattle.expr_rules.specs.Then.{and_then}
use Rattle.expr_check.specs.Expressions.{part_of, step_of}
use Rattle.stmt_check.specs.Captures.{Names as Naming}
use Rattle.program_laws.proofs.Exprs.Inductions.{Each, Forms, part_is, step_is}
use Rattle.program_laws.proofs.Exprs.Knowing.{knows_left, knows_right, knows_first, knows_rest}
use Rattle.program_laws.proofs.Exprs.Sure.{Sure, sure_then, sure_node}
use Rattle.program_laws.proofs.Exprs.Answering.{Answering, Answers}
use Rattle.program_laws.proofs.Exprs.Operands.{not_answers, minus_answers, comparison_answers}
use Rattle.program_laws.proofs.Exprs.Chains.{logic_answers, links_answer, LinkAnswers}
use Rattle.program_laws.proofs.Exprs.Literals.{integer_answers, text_answers, boolean_answers, current_answers, sequence_answers}
use Rattle.program_laws.proofs.Exprs.Entries.{PairAnswers, dictionary_answers}
use Rattle.program_laws.proofs.Exprs.Calls.{call_answers, context_answers}
use Rattle.program_laws.proofs.Exprs.Types.{new_answers}
use Rattle.program_laws.proofs.Exprs.Names.{name_answers}
use Rattle.program_laws.proofs.Exprs.Steps.{StepAnswers}
use Rattle.program_laws.proofs.Exprs.Suffixes.{field_sure, index_sure, method_sure}
use Rattle.program_laws.proofs.Exprs.Walks.{postfix_answers}

module _ (table : Table) (names : Names) (scope : Scope) (k : KnowsTable table names scope) where
  -- that the names that pass a test are known
  abbrev Told : Naming → Type 0
  Told named = KnowsNamed names scope named

  -- what is claimed of each kind of tree
  abbrev PartIs : Naming → Part → Type 0
  PartIs n part = Told n → Answers names part

  abbrev StepIs : Naming → Step → Type 0
  StepIs n step = Told n → StepAnswers names step

  abbrev PairIs : Naming → Pair → Type 0
  PairIs n pair = Told n → PairAnswers names pair

  abbrev LinkIs : Naming → Linked → Type 0
  LinkIs n link = Told n → LinkAnswers names link

  all_answer : {A : Type 0} (P : A → Type 0) (ns : List Naming) (xs : List A) → Each (λ n x. Told n → P x) ns xs → Told (any_of ns) → AllByRecursion P xs
  all_answer P [] [] each told = tt
  all_answer P [] (x ∷ xs) each told = absurd each
  all_answer P (n ∷ ns) [] each told = absurd each
  all_answer P (n ∷ ns) (x ∷ xs) each told = (each.0 (knows_first names scope n ns told), all_answer P ns xs each.1 (knows_rest names scope n ns told))

  group_sure : (spot : Spot) (demand : Demand) (j : Judged) → Answering names demand.wish j → Sure (Answering names demand.wish) (group_of spot demand j)
  unfolding group_of
  group_sure spot demand j a = sure_node (Answering names demand.wish) spot (codes_of (astray_code demand.astray)) j (λ none. a)

  group_answers : (part : Part) (spot : Spot) → Answers names part → Answers names (λ demand. and_then (part (inside demand)) (group_of spot demand))
  group_answers part spot p = record { at_demand = λ demand stands. sure_then (Answering names demand.wish) (Answering names demand.wish) (part (inside demand)) (group_of spot demand) (p.at_demand (inside demand) stands) (group_sure spot demand) }

  forms : Forms table scope PartIs StepIs PairIs LinkIs
  forms = record {
    logic_is = λ l first parts n ns spot p each told. logic_answers names l first parts spot (p (knows_left names scope n (any_of ns) told)) (all_answer (Answers names) ns parts each (knows_right names scope n (any_of ns) told));
    not_is = λ part n spot p told. not_answers names part spot (p told);
    comparison_is = λ left right c n m spot p q told. comparison_answers names left right c spot (p (knows_left names scope n m told)) (q (knows_right names scope n m told));
    links_is = λ l first links n ns spot p each told. links_answer names l first links spot (p (knows_left names scope n (any_of ns) told)) (all_answer (LinkAnswers names) ns links each (knows_right names scope n (any_of ns) told));
    minus_is = λ part n spot p told. minus_answers names part spot (p told);
    postfix_is = λ part steps n ns spot p each told. postfix_answers names (λ demand. leads demand.changed (map (λ s. s.kind) steps)) part steps spot (p (knows_left names scope n (any_of ns) told)) (all_answer (StepAnswers names) ns steps each (knows_right names scope n (any_of ns) told));
    integer_is = λ digits spot told. integer_answers names spot digits;
    quoted_is = λ text spot told. text_answers names spot text;
    boolean_is = λ b spot told. boolean_answers names spot b;
    name_is = λ name spot told. name_answers names scope name (λ s at. told.known_at name s ((bytes_eq-Decides name name).1 refl) at) spot;
    call_is = λ name parts ns spot each told. call_answers table names scope k name parts spot (all_answer (Answers names) ns parts each told);
    sequence_is = λ parts ns spot each told. sequence_answers names parts spot (all_answer (Answers names) ns parts each told);
    dictionary_is = λ pairs ns spot each told. dictionary_answers names pairs spot (all_answer (PairAnswers names) ns pairs each told);
    new_is = λ written spot told. new_answers table names scope k written spot;
    context_is = λ parts ns spot each told. context_answers names parts spot (all_answer (Answers names) ns parts each told);
    current_is = λ spot told. current_answers names spot;
    group_is = λ part n spot p told. group_answers part spot (p told);
    field_is = λ name told. record { at_walk = λ spot demand first walk stands r. field_sure names table scope k name spot demand first walk r };
    index_is = λ part n own p told. record { at_walk = λ spot demand first walk stands r. index_sure names part own spot demand first walk (p told) r };
    method_is = λ name parts ns each told. record { at_walk = λ spot demand first walk stands r. method_sure names name parts spot demand first walk (all_answer (Answers names) ns parts each told) r };
    pair_is = λ key value n m p q told. record { key_answers = p (knows_left names scope n m told); value_answers = q (knows_right names scope n m told) };
    link_is = λ o part n p told. record { operand_answers = p told };
  }

  pub part_answers : (e : Expr) → KnowsNamed names scope (expr_names e) → Answers names (part_of table scope e)
  part_answers = part_is table scope PartIs StepIs PairIs LinkIs forms

  pub step_answers : (s : Suffix) → KnowsNamed names scope (suffix_names s) → StepAnswers names (step_of table scope s)
  step_answers = step_is table scope PartIs StepIs PairIs LinkIs forms
