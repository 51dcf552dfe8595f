-- What expressions, places, arguments and event expressions keep where no fault is found in them.
use Rattle.program_laws.proofs.Lawful.Rules.{LawRules}
use Rattle.program_laws.proofs.Lawful.Accepted.{expressions_lawful, places_lawful, arguments_lawful, expressions_mention, places_mention, arguments_mention}
use Rattle.program_laws.proofs.Lawful.TermsBrought.{ExpressionLaws}
use Rattle.program_laws.proofs.Lawful.TermsLawful as event

laws : ExpressionLaws
laws = record { expressions = expressions_lawful; expressions_mention = expressions_mention }

pub law_rules : LawRules
law_rules = record {
  expressions = expressions_lawful;
  places = places_lawful;
  arguments = arguments_lawful;
  terms = event.terms laws;
  expressions_mention = expressions_mention;
  places_mention = places_mention;
  arguments_mention = arguments_mention;
  terms_mention = event.terms_mention laws;
}
