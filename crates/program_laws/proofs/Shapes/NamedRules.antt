-- What expressions, places, arguments and event expressions without faults answer, where those names are known that they name.
use Rattle.program_laws.proofs.Common.{false, Names, Target, place_found}
use Rattle.program_laws.proofs.Exprs.Accepted.{named_expression_answers, named_place_answers, named_arguments_answer}
use Rattle.program_laws.proofs.Exprs.Walks.{TargetAnswers}
use Rattle.program_laws.proofs.Shapes.Events.{table_known, names_known, term_answers}
use Rattle.program_laws.proofs.Shapes.Rules.{Rules, PlaceAnswers}

place_answered : (names : Names) (target : Target) → TargetAnswers names target → PlaceAnswers names target
place_answered names target a = record { known = a.known; stands = a.stands_there; leads = a.led }

-- the rules by which a program has its shapes
pub rules : Rules
rules = record {
  expressions = λ table names scope e demand k stand none. named_expression_answers (table_known k) e (names_known k) demand stand none;
  places = λ table names scope place k none. place_answered names (place_found table scope place).part (named_place_answers (table_known k) place (names_known k) none);
  arguments = λ table names scope params shapes args k wants stand long none. named_arguments_answer (table_known k) false params shapes args (names_known k) wants stand long none;
  terms = term_answers;
}
